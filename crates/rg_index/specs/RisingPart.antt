-- What an index shows of a list of entries: it rises whatever the list, and is the list itself
-- where that rises.
use Rattle.std.specs.Prelude.{ℕ, ◌≡◌, Bool, true, false, List, [], ◌∷◌, filter, refl}
use Rattle.std.proofs.Common.{cond}
use Rattle.rg_base.specs.declared.place.Place.{Place}
use Rattle.rg_model.specs.Layout.{is_entry_before}
use Rattle.std.specs.List.{AllByRecursion}
use Rattle.rg_index.specs.Entries.{IsRising}

-- the entries that are behind each one kept before them
abbrev pub rising_part : List (ℕ × Place) → List (ℕ × Place)
rising_part [] = []
rising_part (e ∷ es) = e ∷ filter (is_entry_before e) (rising_part es)

pub Each-filter : {X : Type 0} (P : X → Type 0) (p : X → Bool) (xs : List X) → AllByRecursion P xs →
    AllByRecursion P (filter p xs)
Each-filter P p [] each = tt
Each-filter P p (x ∷ xs) each =
    elim (p x) as (λ b. AllByRecursion P (cond b (x ∷ filter p xs) (filter p xs))) [
      | true ↦ (
        each.0,
        Each-filter P p xs each.1,
      )
      | false ↦ Each-filter P p xs each.1
    ]

pub Each-passes : {X : Type 0} (p : X → Bool) (xs : List X)
    → AllByRecursion (λ x. p x ≡ true) (filter p xs)
Each-passes p [] = tt
Each-passes p (x ∷ xs) =
    elim (p x) as (λ b. p x ≡ b →
    AllByRecursion (λ x. p x ≡ true) (cond b (x ∷ filter p xs) (filter p xs))) [
      | true ↦ λ e. (
        e,
        Each-passes p xs,
      )
      | false ↦ λ e. Each-passes p xs
    ] refl

pub IsRising-filter : (p : ℕ × Place → Bool) (es : List (ℕ × Place)) → IsRising es →
    IsRising (filter p es)
IsRising-filter p [] rising = tt
IsRising-filter p (e ∷ es) rising =
    elim (p e) as (λ b. IsRising (cond b (e ∷ filter p es) (filter p es))) [
      | true ↦ (
        Each-filter (λ later. is_entry_before e later ≡ true) p es rising.0,
        IsRising-filter p es rising.1,
      )
      | false ↦ IsRising-filter p es rising.1
    ]

pub IsRising-rising_part : (es : List (ℕ × Place)) → IsRising (rising_part es)
IsRising-rising_part [] = tt
IsRising-rising_part (e ∷ es) = (
  Each-passes (is_entry_before e) (rising_part es),
  IsRising-filter (is_entry_before e) (rising_part es) (IsRising-rising_part es),
)
