-- How a page keeps its slots: a header for each, with the place that it names and the bytes of its
-- row.
use Rattle.std.specs.Prelude.{◌≡◌, ◌≤◌, ℕ, List, [], ◌∷◌, length, map, vec_capacity}
use Rattle.std.specs.declared.vec.Vec.{Vec}
use Rattle.std.specs.declared.alloc.Global.{Global}
use Rattle.rg_base.specs.RowBytes.{row_bytes, row_of}
use Rattle.rg_base.specs.Text.{IsText}
use Rattle.rg_base.specs.declared.place.Place.{Place}
use Rattle.rg_home.specs.Slot.{Slot}
use Rattle.rg_home.specs.Slot.{Free, Row, Pointer, Over, DeadRow, DeadPointer, DeadOver}
use Rattle.rg_home.specs.Slots.{Fits, IsTrimmed}
use Rattle.rg_page.specs.Bare.{bare}

-- the slot of a header, with this place and the row that these bytes show
abbrev pub whole_slot : Slot → Place → List ℕ → Slot
whole_slot Free other bytes = Free
whole_slot (Row capacity row) other bytes = Row capacity (row_of bytes)
whole_slot (Pointer capacity none) other bytes = Pointer capacity other
whole_slot (Over capacity row none) other bytes = Over capacity (row_of bytes) other
whole_slot (DeadRow capacity owner) other bytes = DeadRow capacity owner
whole_slot (DeadPointer capacity none owner) other bytes = DeadPointer capacity other owner
whole_slot (DeadOver capacity none owner) other bytes = DeadOver capacity other owner

abbrev pub laid : List Slot → List Place → List (List ℕ) → List Slot
laid [] others areas = []
laid (h ∷ headers) [] areas = []
laid (h ∷ headers) (other ∷ others) [] = []
laid (h ∷ headers) (other ∷ others) (bytes ∷ areas) =
    whole_slot h other bytes ∷ laid headers others areas

-- the bytes spell a row, and an area of this capacity holds them
pub record Spells (capacity : ℕ) (bytes : List ℕ) : Type 0 where
  pub spelled : row_bytes (row_of bytes) ≡ bytes
  pub text : IsText (row_of bytes).text
  pub within : length bytes ≤ capacity

-- the bytes of a row where the slot has one, and else none
abbrev pub IsArea : Slot → List ℕ → Type 0
IsArea Free bytes = bytes ≡ []
IsArea (Row capacity row) bytes = Spells capacity bytes
IsArea (Pointer capacity other) bytes = bytes ≡ []
IsArea (Over capacity row home) bytes = Spells capacity bytes
IsArea (DeadRow capacity owner) bytes = bytes ≡ []
IsArea (DeadPointer capacity other owner) bytes = bytes ≡ []
IsArea (DeadOver capacity home owner) bytes = bytes ≡ []

-- one for each header, in order
abbrev pub AreAreas : List Slot → List (List ℕ) → Type 0
AreAreas [] areas = areas ≡ []
AreAreas (h ∷ headers) [] = ⊥
AreAreas (h ∷ headers) (bytes ∷ areas) = IsArea h bytes × AreAreas headers areas

-- what a page keeps of its fields
pub record IsLaid (headers : List Slot) (others : Vec Place Global)
    (areas : List (List ℕ)) : Type 0 where
  pub places : length others.items ≡ length headers
  pub areas_are : AreAreas headers areas
  pub headers_are : map bare headers ≡ headers
  pub fits : Fits headers
  pub trimmed : IsTrimmed headers
  pub room : 226 ≤ vec_capacity others
