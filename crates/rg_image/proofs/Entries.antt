-- The records that a log may hold.
use Rattle.std.proofs.Common.{◌≡◌, ◌<◌, ◌≤◌, ℕ, List, length, get_or, sym, arith}
use Rattle.rg_record.specs.declared.record.Record.{Record}
use Rattle.rg_record.proofs.Sizes.{record_size_limit}
use Rattle.rg_image.specs.Kept.{IsEntry, AreEntries, AllFit}
use Rattle.rg_image.specs.Pack.{size_of}
use Rattle.rg_image.proofs.Decode.{AreValues}

-- a record takes at most 1,731 bytes of a page
pub entry_size : (entry : Record) → IsEntry entry → size_of entry ≤ 1731
entry_size entry is = omega (arith, record_size_limit entry is.spelled is.fits)

pub all_fit : (rs : List Record) → AreEntries rs → AllFit rs
all_fit rs entries entry c = omega (arith, entry_size entry (entries entry c))

pub are_values : (rs : List Record) → AreEntries rs → AreValues rs
are_values rs entries entry c = (entries entry c).fits

pub item_is : (rs : List Record) (i : ℕ) (x : Record) → AreEntries rs → i < length rs
    → x ≡ get_or rs i x → IsEntry x
item_is rs i x entries lt is = entries x (i, lt, sym is)
