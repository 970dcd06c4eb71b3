-- The bytes of a row: key, clus and cat in 8 bytes each, the length of the text in 2, and the text.
use Rattle.std.specs.Prelude.{◌≡◌, ℕ, ◌+◌, ◌-◌, ◌≤◌, ◌<◌, List, ◌++◌, length, take, drop}
use Rattle.std.specs.Prelude.{slice_index}
use Rattle.byteorder.specs.Endian.{big_number}
use Rattle.rg_base.specs.declared.row.Row.{Row}
use Rattle.rg_base.specs.declared.row_bytes.RowFault.{RowFault}
use Rattle.rg_base.specs.declared.row_bytes.RowFault.TheVariants.{Short, Length, Byte, NoMemory}
use Rattle.rg_base.specs.Field.{field}
use Rattle.rg_base.specs.Text.{IsLetter}

abbrev pub row_bytes : Row → List ℕ
row_bytes row =
    field 8 row.key
    ++ (field 8 row.clus ++ (field 8 row.cat ++ (field 2 (length row.text) ++ row.text)))

-- The row that bytes show. Where they spell a row, it is that row.
unfoldable pub row_of : List ℕ → Row
row_of bytes = record {
  key = big_number 8 bytes;
  clus = big_number 8 (drop 8 bytes);
  cat = big_number 8 (drop 16 bytes);
  text = drop 26 bytes;
}

-- how many bytes a row has
abbrev pub row_size : Row → ℕ
row_size row = 26 + length row.text

-- bytes 24 and 25 are the number of the bytes that follow, which is at most 800
pub record HasLength (bytes : List ℕ) : Type 0 where
  pub whole : take 2 (drop 24 bytes) ≡ field 2 (length bytes - 26)
  pub short : length bytes ≤ 826

-- byte number `at`, counted from 0, is the first of the text that no text may have
pub record IsFirstOther (bytes : List ℕ) (at : ℕ) : Type 0 where
  pub low : 26 ≤ at
  pub high : at < length bytes
  pub other : IsLetter (slice_index bytes at) → ⊥
  pub first : (k : ℕ) → 26 ≤ k → k < at → IsLetter (slice_index bytes k)

-- why bytes are no row: the first of the three tests that they fail
abbrev pub RowFaultIs : List ℕ → RowFault → Type 0
RowFaultIs bytes Short = length bytes < 26
RowFaultIs bytes Length = (26 ≤ length bytes) × (HasLength bytes → ⊥)
RowFaultIs bytes (Byte at) = (26 ≤ length bytes) × HasLength bytes × IsFirstOther bytes at
RowFaultIs bytes NoMemory = Unit {0}
