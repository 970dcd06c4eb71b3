-- What holds of the bytes of a data page.
--
-- 1. They are 4,096 (`IsWhole`).
-- 2. A page that is not blank is read back from them (`IsReadBack`).
-- 3. So two pages of one copy and one number that have the same bytes are one (`OneSpelling`).
-- 4. Bytes that are all zeros spell a blank page, and no other (`ZerosAreBlank`).
use Rattle.std.specs.Prelude.{◌≡◌, true, length, replicate, Some}
use Rattle.rg_page.specs.Bytes.PageBytes.{is_blank, page_bytes, filled_bytes}
use Rattle.rg_page.specs.Bytes.Reading.{page_shown}
use Rattle.rg_page.specs.Bytes.Content.{FitsPage, Content}

abbrev pub IsWhole : Type 0
IsWhole = (x : Content) → FitsPage x → length (page_bytes x) ≡ 4096

abbrev pub IsReadBack : Type 0
IsReadBack = (x : Content) → FitsPage x → page_shown (filled_bytes x) ≡ Some x

abbrev pub OneSpelling : Type 0
OneSpelling =
    (x y : Content) → FitsPage x → FitsPage y → x.copy ≡ y.copy → x.number ≡ y.number
    → page_bytes x ≡ page_bytes y → x ≡ y

abbrev pub ZerosAreBlank : Type 0
ZerosAreBlank = (x : Content) → page_bytes x ≡ replicate 4096 0 → is_blank x ≡ true
