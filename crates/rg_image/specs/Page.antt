-- The bytes of a log page: a header of 24 bytes, each record behind its length, and zeros.
use Rattle.std.specs.Prelude.{ℕ, List, [], ◌∷◌, ◌++◌, length, replicate}
use Rattle.std.specs.List.{flat_map}
use Rattle.rg_base.specs.Field.{field}
use Rattle.rg_record.specs.declared.record.Record.{Record}
use Rattle.rg_record.specs.Filled.{padded}
use Rattle.rg_record.specs.Spelling.{record_bytes, record_size}
use Rattle.rg_image.specs.Pack.{log_bytes}

-- a record behind its length
abbrev pub spelt : Record → List ℕ
spelt entry = field 2 (record_size entry) ++ record_bytes entry

-- `RGL1`, the page's number, the position of its first record, the number of its records and of
-- their bytes, and 4 zeros
abbrev pub page_head : ℕ → ℕ → ℕ → ℕ → List ℕ
page_head p first count used =
    82 ∷ 71 ∷ 76 ∷ 49
    ∷ (field 4 p ++ (field 8 first ++ (field 2 count ++ (field 2 used ++ field 4 0))))

-- page p with these records; a page without a record is zero
unfoldable pub page_bytes : ℕ → List Record → List ℕ
page_bytes p [] = replicate 4096 0
page_bytes p (entry ∷ rs) =
    padded (page_head p entry.position.0 (length (entry ∷ rs)) (log_bytes (entry ∷ rs))
    ++ flat_map spelt (entry ∷ rs))
