-- The slots of a page.
--
-- 1. Slots are numbered from 0. Past the last one all are Free, so a look-up is total.
-- 2. Free slots at the end are dropped (trimmed), and put back where a higher slot is set.
-- 3. A slot takes 18 bytes and its capacity, and a page has 4,064 bytes of room.
use Rattle.std.specs.Prelude.{◌≡◌, ℕ, ◌+◌, ◌≤◌, Bool, true, false, List, [], ◌∷◌, slice_index_or}
use Rattle.std.specs.Prelude.{zero, suc}
use Rattle.rg_home.specs.Slot.{Slot}
use Rattle.rg_home.specs.Slot.{Free, Row, Pointer, Over, DeadRow, DeadPointer, DeadOver}

-- the bytes of its area: a Free slot has none
abbrev pub capacity_of : Slot → ℕ
capacity_of Free = 0
capacity_of (Row capacity row) = capacity
capacity_of (Pointer capacity other) = capacity
capacity_of (Over capacity row home) = capacity
capacity_of (DeadRow capacity owner) = capacity
capacity_of (DeadPointer capacity other owner) = capacity
capacity_of (DeadOver capacity home owner) = capacity

-- no area lies there
abbrev pub is_free : Slot → Bool
is_free Free = true
is_free (Row capacity row) = false
is_free (Pointer capacity other) = false
is_free (Over capacity row home) = false
is_free (DeadRow capacity owner) = false
is_free (DeadPointer capacity other owner) = false
is_free (DeadOver capacity home owner) = false

-- the bytes that a slot takes
abbrev pub cost : Slot → ℕ
cost s = 18 + capacity_of s

-- the bytes that slots take
abbrev pub used : List Slot → ℕ
used [] = 0
used (s ∷ slots) = cost s + used slots

-- the slot of this number
abbrev pub slot_at : List Slot → ℕ → Slot
slot_at slots i = slice_index_or slots i Free

-- a slot before others, unless it is Free and there are none
abbrev pub cut : Slot → List Slot → List Slot
cut Free [] = []
cut s slots = s ∷ slots

-- without the Free slots at the end
abbrev pub trim : List Slot → List Slot
trim [] = []
trim (s ∷ slots) = cut s (trim slots)

-- the slots with this one at its number, past Free slots where there are fewer
abbrev pub put : List Slot → ℕ → Slot → List Slot
put [] zero s = s ∷ []
put [] (suc i) s = Free ∷ put [] i s
put (x ∷ slots) zero s = s ∷ slots
put (x ∷ slots) (suc i) s = x ∷ put slots i s

-- the last slot, if there is one, is not Free
abbrev pub IsTrimmed : List Slot → Type 0
IsTrimmed slots = trim slots ≡ slots

-- a page with this slot set
abbrev pub placed : List Slot → ℕ → Slot → List Slot
placed slots i s = trim (put slots i s)

-- a page holds these slots
abbrev pub Fits : List Slot → Type 0
Fits slots = used slots ≤ 4064
