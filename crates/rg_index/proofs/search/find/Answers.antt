use Rattle.std.proofs.Common.{◌≡◌, ◌-◌, ◌<◌, suc, not, false, true, List, length, sym, subst}
use Rattle.std.proofs.Common.{get_or, arith}
use Rattle.std.specs.Prelude.{ℕ, remove}
use Rattle.rg_base.specs.declared.place.Place.{Place}
use Rattle.rg_model.specs.Layout.{is_entry_before, same_entry}
use Rattle.rg_index.specs.Entries.{IsRising, has_entry, without_entry}
use Rattle.rg_index.specs.Split.{IsCutBy}
use Rattle.rg_index.proofs.Found.{found_nothing, found_other, found_it}
use Rattle.rg_index.proofs.Lists.{without_absent}
use Rattle.rg_index.proofs.Order.{same_is}
use Rattle.rg_index.proofs.search.find.Goals as goal

abbrev Cut : ℕ × Place → List (ℕ × Place) → ℕ → Type 0
Cut e es n = IsCutBy (λ x. not (is_entry_before e x)) es n

absent : (e d : ℕ × Place) (es : List (ℕ × Place)) (n : ℕ) → IsRising es → Cut e es n → (n ≡ 0 → ⊥)
    → same_entry e (get_or es (n - 1) d) ≡ false → has_entry es e ≡ false
absent e d es n rising cut some other =
    let is : n ≡ suc (n - 1) = omega arith in
    found_other e d es (n - 1) rising (subst (Cut e es) is cut) other

there : (e d : ℕ × Place) (es : List (ℕ × Place)) (n : ℕ) → IsRising es → Cut e es n → (n ≡ 0 → ⊥)
    → same_entry e (get_or es (n - 1) d) ≡ true
    → (n - 1 < length es) × ((has_entry es e ≡ true) × (remove es (n - 1) ≡ without_entry e es))
there e d es n rising cut some same =
    let lt : n - 1 < length es = omega (arith, cut.0) in
    (lt, found_it e d es (n - 1) rising lt (sym (same_is e (get_or es (n - 1) d) same)))

pub returns-then-through-eq0-clause-there : goal.returns-then-through-eq0-clause-there
returns-then-through-eq0-clause-there c = found_nothing c.args.entry c.args.entries.now
    (subst (Cut c.args.entry c.args.entries.now) c.if-through-eq0.true
    c.count_through-through.ensures)

pub returns-then-through-eq0-clause-index : goal.returns-then-through-eq0-clause-index
returns-then-through-eq0-clause-index c =
    without_absent c.args.entry c.args.entries.now (returns-then-through-eq0-clause-there c)

pub returns-then-is_same-clause-there : goal.returns-then-is_same-clause-there
returns-then-is_same-clause-there c =
    (there c.args.entry _ c.args.entries.now c.count_through-through.result c.requires
    c.count_through-through.ensures c.if-through-eq0.false (sym c.if-is_same.ensures)).1.0

pub returns-then-is_same-clause-index : goal.returns-then-is_same-clause-index
returns-then-is_same-clause-index c =
    let it = there c.args.entry (0, record { page = 0; slot = 0 }) c.args.entries.now
    c.count_through-through.result c.requires c.count_through-through.ensures c.if-through-eq0.false
    (sym c.if-is_same.ensures) in
    (it.0, it.1.1)

pub returns-clause-there : goal.returns-clause-there
returns-clause-there c = absent c.args.entry _ c.args.entries.now c.count_through-through.result
    c.requires c.count_through-through.ensures c.if-through-eq0.false (sym c.if-is_same.ensures)

pub returns-clause-index : goal.returns-clause-index
returns-clause-index c = without_absent c.args.entry c.args.entries.now (returns-clause-there c)
