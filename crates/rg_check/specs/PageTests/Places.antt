-- Places in order, and the least one in breach of a rule.
--
-- 1. Places are in order of their pages, and on one page in order of their slots.
-- 2. A rule says something of each place. A test of it finds the least place of which it does not
--    hold, or that it holds of all.
use Rattle.std.specs.Prelude.{◌≡◌, ◌<◌, ◌⊎◌, ℕ, Bool, true, false, Option, Some, None}
use Rattle.rg_base.specs.declared.place.Place.{Place}

-- on a page before, or in a slot before on the same page
abbrev pub IsBefore : Place → Place → Type 0
IsBefore p q = (p.page < q.page) ⊎ ((p.page ≡ q.page) × (p.slot < q.slot))

-- the rule does not hold of this place, and holds of each one before; or it holds of all
abbrev pub IsLeastBreach : (Place → Type 0) → Option Place → Type 0
IsLeastBreach Rule None = (p : Place) → Rule p
IsLeastBreach Rule (Some p) = (Rule p → ⊥) × ((q : Place) → IsBefore q p → Rule q)

-- the same of the places of one page
abbrev pub IsLeastOnPage : (Place → Type 0) → (n : ℕ) → Option Place → Type 0
IsLeastOnPage Rule n None = (p : Place) → p.page ≡ n → Rule p
IsLeastOnPage Rule n (Some p) =
    (p.page ≡ n) × (Rule p → ⊥)
    × ((q : Place) → q.page ≡ n → q.slot < p.slot → Rule q)

-- a test says that something holds, or that it does not
abbrev pub Says : Bool → Type 0 → Type 0
Says true P = P
Says false P = P → ⊥
