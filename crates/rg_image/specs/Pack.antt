-- How records come to stand on log pages. The page of a record depends only on those before it.
use Rattle.std.specs.Prelude.{ℕ, suc, ◌+◌, ◌==◌, nat_le, List, [], ◌∷◌, if◌then◌else◌}
use Rattle.rg_record.specs.declared.record.Record.{Record}
use Rattle.rg_record.specs.Spelling.{record_size}

-- the bytes of a log page after its header
abbrev pub room : ℕ
room = 4072

-- what a record takes: its length in 2 bytes, and its bytes
abbrev pub size_of : Record → ℕ
size_of entry = record_size entry + 2

-- where the log ends: on a page, after this many bytes of its records
pub record Spot : Type 0 where
  pub page : ℕ
  pub used : ℕ

abbrev pub start : Spot
start = record { page = 1; used = 0 }

-- where it ends after one more record: one that does not fit the rest of the page begins the next
abbrev pub next_spot : Spot → Record → Spot
next_spot at entry =
    if nat_le (at.used + size_of entry) room
    then record { page = at.page; used = at.used + size_of entry }
    else record { page = at.page + 1; used = size_of entry }

abbrev pub end_of : Spot → List Record → Spot
end_of at [] = at
end_of at (entry ∷ rs) = end_of (next_spot at entry) rs

-- the records that come to stand on page p
abbrev pub on_page : ℕ → Spot → List Record → List Record
on_page p at [] = []
on_page p at (entry ∷ rs) =
    if (next_spot at entry).page == p
    then entry ∷ on_page p (next_spot at entry) rs
    else on_page p (next_spot at entry) rs

-- how many of these records fit after that many bytes
abbrev pub fitting : ℕ → List Record → ℕ
fitting used [] = 0
fitting used (entry ∷ rs) =
    if nat_le (used + size_of entry) room then suc (fitting (used + size_of entry) rs) else 0

-- the bytes of the log: each record's length, and 2
abbrev pub log_bytes : List Record → ℕ
log_bytes [] = 0
log_bytes (entry ∷ rs) = size_of entry + log_bytes rs
