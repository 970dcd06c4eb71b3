use Rattle.std.proofs.Common.{◌≡◌, ◌≤◌, ◌<◌, ◌+◌, ◌-◌, ◌^◌, ◌++◌, [], ◌∷◌, ℕ, List, drop, take}
use Rattle.std.proofs.Common.{length, sym, ◌∙◌, ap, subst, arith, Vec, Global, length-append}
use Rattle.std.proofs.lemmas.List.{drop-append-le, take-append-le}
use Rattle.rg_stmt.specs.declared.event.Entry.{Entry}
use Rattle.rg_desk.specs.Chronicle.{ChronicleState, IsRecorded}
use Rattle.rg_desk.proofs.Recorded.{recorded_drop, recorded_push}
use Rattle.rg_desk.proofs.chronicle.Chronicle.push.Goals as goal

room : (len cap spare len1 cap1 : ℕ) → len + spare ≤ cap → 1 ≤ spare → len1 ≡ len + 1 → cap1 ≡ cap
    → len1 + (spare - 1) ≤ cap1
room len cap spare len1 cap1 a b c d = omega arith

-- a vector has fewer than 2 ^ 63 elements
short_of : (v : Vec Entry Global) (entries : List Entry) → v.items ≡ entries
    → length entries < 2 ^ 63
short_of v entries e = let same = ap (λ (es : List Entry). length es) e in
    omega (arith, v.ok.0, v.ok.1, v.small, same)

within : (older : ℕ) (xs entries : List Entry) (x : Entry) → entries ≡ xs ++ x ∷ []
    → older ≤ length xs → older ≤ length entries
within older xs entries x is le =
    omega (arith, le, ap (λ (es : List Entry). length es) is, length-append xs (x ∷ []))

pub invariant_of-self : goal.invariant_of-self
invariant_of-self c =
    let spare : 1 ≤ c.self.inside.spare =
    subst (λ (s : ChronicleState). 1 ≤ s.spare) (sym c.self.view_is) c.requires.spare in
    let calls : c.self.inside.calls ≤ c.args.entry.calls =
    subst (λ (s : ChronicleState). s.calls ≤ c.args.entry.calls) (sym c.self.view_is)
    c.requires.calls in (
      room _ _ c.self.inside.spare _ _ c.self.invariant.0 spare c.push_reserved.ensures.len
          c.push_reserved.ensures.capacity,
      within c.self.inside.older c.self.inside.trace.items c.push_reserved.new.self.items
          c.args.entry c.push_reserved.ensures.items c.self.invariant.1,
      subst (λ xs. IsRecorded xs c.args.entry.calls) (sym c.push_reserved.ensures.items)
          (recorded_push c.self.inside.trace.items c.self.inside.calls c.args.entry
          c.self.invariant.2 calls c.requires.entry
          (short_of c.push_reserved.new.self _ c.push_reserved.ensures.items)),
    )

pub returns-clause-recorded : goal.returns-clause-recorded
returns-clause-recorded c =
    let calls : c.self.inside.calls ≤ c.args.entry.calls =
    subst (λ (s : ChronicleState). s.calls ≤ c.args.entry.calls) (sym c.self.view_is)
    c.requires.calls in
    recorded_drop c.self.inside.older c.push_reserved.new.self.items c.args.entry.calls
    (subst (λ xs. IsRecorded xs c.args.entry.calls) (sym c.push_reserved.ensures.items)
    (recorded_push c.self.inside.trace.items c.self.inside.calls c.args.entry c.self.invariant.2
    calls c.requires.entry (short_of c.push_reserved.new.self _ c.push_reserved.ensures.items)))

pub returns-clause-older : goal.returns-clause-older
returns-clause-older c =
    ap (λ (xs : List Entry). take c.self.inside.older xs) c.push_reserved.ensures.items
    ∙ take-append-le c.self.inside.older c.self.inside.trace.items (c.args.entry ∷ [])
    c.self.invariant.1
    ∙ ap (λ (s : ChronicleState). s.older) c.self.view_is

pub returns-clause-trace : goal.returns-clause-trace
returns-clause-trace c =
    ap (λ (xs : List Entry). drop c.self.inside.older xs) c.push_reserved.ensures.items
    ∙ drop-append-le c.self.inside.older c.self.inside.trace.items (c.args.entry ∷ [])
    c.self.invariant.1
    ∙ ap (λ (s : ChronicleState). s.trace ++ c.args.entry ∷ []) c.self.view_is
