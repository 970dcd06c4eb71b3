-- Which child a search of the keys finds.
use Rattle.std.proofs.Common.{◌≡◌, ◌-◌, ◌<◌, suc, ℕ, true, false, not, List, [], ◌∷◌, length, drop}
use Rattle.std.proofs.Common.{get_or, subst, arith}
use Rattle.std.proofs.lemmas.Bool.{not-true, not-false}
use Rattle.rg_base.specs.declared.place.Place.{Place}
use Rattle.rg_base.proofs.Each.{Each-map}
use Rattle.rg_model.specs.Layout.{is_entry_before}
use Rattle.std.specs.List.{AllByRecursion}
use Rattle.rg_index.specs.Split.{IsCutBy}
use Rattle.rg_index.proofs.Found.{last_passes}
use Rattle.rg_btree.specs.Child.{IsChild}

abbrev Cut : ℕ × Place → List (ℕ × Place) → ℕ → Type 0
Cut e keys n = IsCutBy (λ x. not (is_entry_before e x)) keys n

behind_cut : (e : ℕ × Place) (keys : List (ℕ × Place)) (n : ℕ) → Cut e keys n
    → AllByRecursion (λ key. is_entry_before e key ≡ true) (drop n keys)
behind_cut e keys n cut = Each-map (λ x. not (is_entry_before e x) ≡ false)
    (λ x. is_entry_before e x ≡ true) (λ x. not-false (is_entry_before e x)) (drop n keys) cut.2

later : {X : Type 0} (P : X → Type 0) (xs : List X) → AllByRecursion P xs
    → AllByRecursion P (drop 1 xs)
later P [] each = tt
later P (x ∷ xs) each = each.1

pub first_child : (e : ℕ × Place) (keys : List (ℕ × Place)) (n : ℕ) → 0 < length keys → Cut e keys n
    → n ≡ 0 → IsChild e keys 0
first_child e keys n some cut none = record {
  within = some;
  here = λ high. absurd (omega arith);
  behind = later (λ key. is_entry_before e key ≡ true) keys
      (behind_cut e keys 0 (subst (Cut e keys) none cut));
}

pub child_at : (e : ℕ × Place) (keys : List (ℕ × Place)) (n : ℕ) → Cut e keys n → (n ≡ 0 → ⊥)
    → IsChild e keys (n - 1)
child_at e keys n cut some =
    let is : n ≡ suc (n - 1) = omega arith in
    let at = subst (Cut e keys) is cut in
    let lt : n - 1 < length keys = omega (arith, cut.0) in
    record {
      within = lt;
      here = λ high.
          not-true (is_entry_before e (get_or keys (n - 1) (0, record { page = 0; slot = 0 })))
          (last_passes (λ x. not (is_entry_before e x) ≡ true) keys (n - 1)
          (0, record { page = 0; slot = 0 }) lt at.1);
      behind = behind_cut e keys (suc (n - 1)) at;
    }
