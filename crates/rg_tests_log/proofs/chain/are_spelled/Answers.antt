use Rattle.std.proofs.Common.{◌≡◌, ◌+◌, ⊎_elim, List, [], ◌∷◌, ◌++◌, take, sym, ◌∙◌, ap, subst}
use Rattle.std.proofs.Common.{refl, arith}
use Rattle.std.proofs.lemmas.List.{take_all, take_more}
use Rattle.std.proofs.lemmas.List.Elements.{Contains-append_cases}
use Rattle.rg_record.specs.declared.record.Record.{Record}
use Rattle.rg_image.specs.Kept.{IsEntry, AreEntries}
use Rattle.rg_image.proofs.Grow.{one}
use Rattle.rg_tests_log.proofs.chain.are_spelled.Goals as goal

entries_more : (rs : List Record) (entry : Record) → AreEntries rs → IsEntry entry
    → AreEntries (rs ++ entry ∷ [])
entries_more rs entry are is x c =
    ⊎_elim (are x) (λ last. subst IsEntry (sym (one entry x last)) is)
    (Contains-append_cases rs (entry ∷ []) x c)

pub loop-entry-preserved : goal.loop-entry-preserved
loop-entry-preserved c =
    let rs = c.args.records.now in
    let more : take (c.loop-entry.entry-index + 1) rs
    ≡ take c.loop-entry.entry-index rs ++ c.entry-item.result ∷ [] =
    take_more rs c.loop-entry.entry-index c.entry-item.result c.loop-entry-test.true
    ∙ ap (λ (r : Record). take c.loop-entry.entry-index rs ++ r ∷ []) (sym c.entry-item.is) in
    subst AreEntries (sym more)
    (entries_more (take c.loop-entry.entry-index rs) c.entry-item.result c.loop-entry.invariant
    (record { spelled = c.if-not-is_spelled.ensures.0 refl; fits = c.fits.ensures }))

pub returns : goal.returns
returns c = λ yes_.
    subst AreEntries
    (take_all c.loop-entry.entry-index c.args.records.now (omega (arith, c.loop-entry-test.false)))
    c.loop-entry.invariant
