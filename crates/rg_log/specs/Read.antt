-- Reading a log page.
use Rattle.std.specs.Prelude.{◌≡◌, ◌≤◌, ℕ, List, ◌++◌, length, Option, Some, None}
use Rattle.std.specs.List.{flat_map}
use Rattle.std.specs.declared.vec.Vec.{Vec}
use Rattle.std.specs.declared.alloc.Global.{Global}
use Rattle.rg_record.specs.declared.fault.RecordFault.{RecordFault}
use Rattle.rg_record.specs.declared.fault.RecordFault.TheVariants.{NotARecord, NoMemory}
use Rattle.rg_record.specs.declared.record.Record.{Record}
use Rattle.rg_image.specs.Kept.{IsEntry, AreEntries}
use Rattle.rg_image.specs.Pack.{fitting}
use Rattle.rg_image.specs.Page.{page_bytes, spelt}

-- no record stands at the front of these bytes
abbrev pub IsNoEntry : List ℕ → RecordFault → Type 0
IsNoEntry bytes NotARecord =
    (entry : Record) (rest : List ℕ) → IsEntry entry → bytes ≡ spelt entry ++ rest → ⊥
IsNoEntry bytes NoMemory = Unit {0}

-- so many records stand at the front of these bytes
pub record StandAt (bytes : List ℕ) (count : ℕ) (rs : List Record) (rest : List ℕ) : Type 0 where
  pub entries : AreEntries rs
  pub number : length rs ≡ count
  pub bytes_are : bytes ≡ flat_map spelt rs ++ rest

-- where so many records stand there, they are these
abbrev pub AreRead : List ℕ → ℕ → List Record → Type 0
AreRead bytes count found =
    AreEntries found × ((rs : List Record) (rest : List ℕ) → StandAt bytes count rs rest
    → found ≡ rs)

abbrev pub AreNone : List ℕ → ℕ → RecordFault → Type 0
AreNone bytes count NotARecord = (rs : List Record) (rest : List ℕ) → StandAt bytes count rs rest
    → ⊥
AreNone bytes count NoMemory = Unit {0}

-- the bytes of a page with these records
pub record IsForm (page : ℕ) (bytes : List ℕ) (rs : List Record) : Type 0 where
  pub some : 1 ≤ length rs
  pub entries : AreEntries rs
  pub fits : fitting 0 rs ≡ length rs
  pub spelt_so : bytes ≡ page_bytes page rs

-- the records of a page, or none where the bytes have not the form of a page
abbrev pub IsFormRead : ℕ → List ℕ → Option (Vec Record Global) → Type 0
IsFormRead page bytes None = (rs : List Record) → IsForm page bytes rs → ⊥
IsFormRead page bytes (Some found) = IsForm page bytes found.items
