-- The bytes that pages claim: those that no purge frees, now or once more units have ended.
--
-- 1. Headers are counted of the pages as they stand, 18 bytes a slot, Free slots too: a purge may
--    leave a Free slot before a row, so a count of the purged page would fall behind.
-- 2. Areas are counted as if the pages were purged: a dead area counts where its owner holds it,
--    and otherwise not.
-- 3. A put or a change claims at most 18 bytes and its row's bytes more. A drop, an undo, a purge,
--    and the start or end of a unit claim nothing more. A write is Full only where the pages claim
--    3,221 bytes each. So what has been written bounds when FULL may come.
use Rattle.std.specs.Prelude.{◌≡◌, ◌==◌, ◌||◌, nat_le, ℕ, ◌+◌, Bool, true, false, List, [], ◌∷◌}
use Rattle.std.specs.Prelude.{if◌then◌else◌}
use Rattle.std.specs.List.{list_any}
use Rattle.rg_home.specs.Slot.{Slot}
use Rattle.rg_home.specs.Slot.{Free, Row, Pointer, Over, DeadRow, DeadPointer, DeadOver}
use Rattle.rg_home.specs.Able.{IsLive}

-- of an area: its capacity, or nothing where it is dead and its owner does not hold it
abbrev pub claim_of : (ℕ → Bool) → Slot → ℕ
claim_of holds Free = 0
claim_of holds (Row capacity row) = capacity
claim_of holds (Pointer capacity other) = capacity
claim_of holds (Over capacity row home) = capacity
claim_of holds (DeadRow capacity owner) = if holds owner then capacity else 0
claim_of holds (DeadPointer capacity other owner) = if holds owner then capacity else 0
claim_of holds (DeadOver capacity home owner) = if holds owner then capacity else 0

-- of a page
abbrev pub claimed : (ℕ → Bool) → List Slot → ℕ
claimed holds [] = 0
claimed holds (s ∷ slots) = 18 + claim_of holds s + claimed holds slots

-- of all pages
abbrev pub claimed_all : (ℕ → Bool) → List (List Slot) → ℕ
claimed_all holds [] = 0
claimed_all holds (slots ∷ pages) = claimed holds slots + claimed_all holds pages

-- every live owner holds its dead areas
abbrev pub Covers : (ℕ → Bool) → List ℕ → Type 0
Covers holds live = (t : ℕ) → IsLive live t → holds t ≡ true

-- whoever holds after has held before
abbrev pub Fewer : (ℕ → Bool) → (ℕ → Bool) → Type 0
Fewer before after = (t : ℕ) → after t ≡ true → before t ≡ true

-- the holders of a space: the units that are live, and those whose number is still to be drawn
abbrev pub holding : List ℕ → ℕ → ℕ → Bool
holding live next t = list_any (λ u. u == t) live || nat_le next t

-- of a shadow: nobody holds a dead area
abbrev pub nobody : ℕ → Bool
nobody t = false

-- a dead area is of owner 0, as all of a shadow's are
abbrev pub OwnerIsZero : Slot → Type 0
OwnerIsZero (DeadRow capacity owner) = owner ≡ 0
OwnerIsZero (DeadPointer capacity other owner) = owner ≡ 0
OwnerIsZero (DeadOver capacity home owner) = owner ≡ 0
OwnerIsZero Free = Unit {0}
OwnerIsZero (Row capacity row) = Unit {0}
OwnerIsZero (Pointer capacity other) = Unit {0}
OwnerIsZero (Over capacity row home) = Unit {0}
