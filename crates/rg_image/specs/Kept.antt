-- Where the pages of a log begin.
use Rattle.std.specs.Prelude.{◌≡◌, ◌≤◌, ℕ, List, [], ◌∷◌, length, take, drop}
use Rattle.std.specs.List.{Contains}
use Rattle.rg_record.specs.declared.record.Record.{Record}
use Rattle.rg_record.specs.Fits.{Fits}
use Rattle.rg_record.specs.Spelled.{IsRecord}
use Rattle.rg_image.specs.Pack.{Spot, on_page, start, end_of, next_spot, size_of, room}

-- the next record stands first on that page
abbrev pub Begins : Spot → ℕ → List Record → Type 0
Begins at page [] = at ≡ record { page = page; used = 0 }
Begins at page (entry ∷ rs) = next_spot at entry ≡ record { page = page; used = size_of entry }

-- record number `from` begins that page
pub record IsPageStart (rs : List Record) (from page : ℕ) : Type 0 where
  pub within : from ≤ length rs
  pub low : 1 ≤ page
  pub early : on_page page start (take from rs) ≡ []
  pub begins : Begins (end_of start (take from rs)) page (drop from rs)

-- a record that a log may hold
pub record IsEntry (entry : Record) : Type 0 where
  pub spelled : IsRecord entry
  pub fits : Fits entry

abbrev pub AreEntries : List Record → Type 0
AreEntries rs = (entry : Record) → Contains rs entry → IsEntry entry

-- each record fits a page
abbrev pub AllFit : List Record → Type 0
AllFit rs = (entry : Record) → Contains rs entry → size_of entry ≤ room
