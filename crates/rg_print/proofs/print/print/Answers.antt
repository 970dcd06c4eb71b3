use Rattle.std.proofs.Common.{Bool, ◌≡◌, ℕ, ◌+◌, ◌<◌, List, ◌∷◌, ◌++◌, [], length, take, get_or}
use Rattle.std.proofs.Common.{sym, ◌∙◌, ap, arith, length-take}
use Rattle.std.proofs.lemmas.List.{take_more}
use Rattle.rg_stmt.specs.declared.event.Entry.{Entry}
use Rattle.rg_print.specs.Print.{entry_text, entries_text}
use Rattle.rg_print.proofs.PrintText.{entries-append}
use Rattle.rg_print.proofs.print.print.Goals as goal

place : (trace : List Entry) (n : ℕ) → n < length trace → 0 + length (take n trace) ≡ n
place trace n below = omega (arith, length-take n trace)

one_more : (full : Bool) (trace : List Entry) (n : ℕ) (entry : Entry) → n < length trace
    → entry ≡ get_or trace n entry
    → entries_text full 0 (take (n + 1) trace)
    ≡ entries_text full 0 (take n trace) ++ entry_text full n entry
one_more full trace n entry below is =
    ap (entries_text full 0)
    (take_more trace n entry below ∙ ap (λ (e : Entry). take n trace ++ e ∷ []) (sym is))
    ∙ entries-append full 0 (take n trace) entry
    ∙ ap (λ k. entries_text full 0 (take n trace) ++ entry_text full k entry) (place trace n below)

pub loop-number-preserved : goal.loop-number-preserved
loop-number-preserved c =
    c.in_ok-push_entry.ensures
    ∙ ap (λ text. text ++ entry_text c.args.full c.loop-number.number c.index-trace-number.result)
    c.loop-number.invariant
    ∙ sym
    (one_more c.args.full c.args.trace.now c.loop-number.number c.index-trace-number.result
    c.loop-number-test.true c.index-trace-number.is)
