-- The log of an image.
use Rattle.std.specs.Prelude.{◌≡◌, ◌≤◌, ◌+◌, ◌==◌, ℕ, suc, zero, Bool, not, List, [], ◌∷◌, ◌++◌}
use Rattle.std.specs.Prelude.{length, take, drop, take_while, option_to_list, replicate}
use Rattle.std.specs.List.{flat_map, list_all}
use Rattle.byteorder.specs.Endian.{big_number}
use Rattle.rg_base.specs.declared.set.Set.TheVariants.{Log}
use Rattle.rg_outside.specs.Calls.{Image}
use Rattle.rg_record.specs.declared.record.Record.{Record}
use Rattle.rg_record.specs.Reading.{record_at}
use Rattle.rg_image.specs.Pack.{on_page, start}
use Rattle.rg_image.specs.Page.{page_bytes}

-- so many records, each behind its length; what is no record is passed over
abbrev pub read_records : ℕ → List ℕ → List Record
read_records zero bytes = []
read_records (suc n) bytes =
    option_to_list (record_at (take (big_number 2 bytes) (drop 2 bytes)))
    ++ read_records n (drop (2 + big_number 2 bytes) bytes)

-- the records of a log page: their number stands in bytes 16 and 17
unfoldable pub records_of : List ℕ → List Record
records_of bytes = read_records (big_number 2 (drop 16 bytes)) (drop 24 bytes)

-- a page that is not all zeros
unfoldable pub is_used : List ℕ → Bool
is_used bytes = not (list_all (λ b. b == 0) bytes)

-- this many log pages, from page p on
abbrev pub log_pages : Image → ℕ → ℕ → List (List ℕ)
log_pages i p zero = []
log_pages i p (suc n) = i Log p ∷ log_pages i (suc p) n

-- the records of the log pages before the first that is all zeros, or before the end of the set
abbrev pub log_of : ℕ → Image → List Record
log_of capacity i = flat_map records_of (take_while is_used (log_pages i 1 capacity))

-- Each log page is the one that these records give. This says more than that the log is this list:
-- no page was ended too early, and all pages after the last are zero.
abbrev pub Spells : ℕ → List Record → Image → Type 0
Spells capacity rs i =
    (p : ℕ) → 1 ≤ p → p ≤ capacity → i Log p ≡ page_bytes p (on_page p start rs)

-- the log pages spell the first so many of the records, no fewer than `low`, and nothing after
pub record SpellsFrom (capacity : ℕ) (rs : List Record) (low : ℕ) (i : Image) : Type 0 where
  pub count : ℕ
  pub least : low ≤ count
  pub most : count ≤ length rs
  pub spells : Spells capacity (take count rs) i

-- all log pages are zero
abbrev pub IsZeroLog : ℕ → Image → Type 0
IsZeroLog capacity i = (p : ℕ) → 1 ≤ p → p ≤ capacity → i Log p ≡ replicate 4096 0
