-- What an opening leaves: the pages on the volume, and those in memory.
--
-- 1. The records after the last Switch are those past its position, which the log has
--    (`SinceTheSwitch`). The current copy has as many pages as that Switch counts, or more
--    (`SwitchedPages`).
-- 2. Each page of the current copy that was read may stand there, where all records are forced; so
--    may each page past them, if the volume is tidy there (`OpeningStands`).
-- 3. The pages that were taken are those with which a redo begins (`OpeningCanRedo`). So what the
--    redo leaves in memory is the newest version of each page (`OpeningIsNewest`).
-- 4. A page that was taken as it is shows the version that its position numbers (`OpeningMarks`).
use Rattle.std.specs.Prelude.{◌≡◌, ◌≤◌, ℕ, List, drop, length}
use Rattle.std.specs.List.{AllByRecursion}
use Rattle.rg_base.specs.Copies.{set_of}
use Rattle.rg_image.specs.Meaning.{current_of}
use Rattle.rg_image.specs.Rules.{ArePositions, copy_capacity}
use Rattle.rg_outside.specs.Calls.{Image}
use Rattle.rg_outside.specs.Capacities.{Capacities}
use Rattle.rg_page.specs.Content.{Content, content_at}
use Rattle.rg_page.specs.Seen.{Seen}
use Rattle.rg_record.specs.Applied.{parts_of}
use Rattle.rg_record.specs.declared.record.Record.{Record}
use Rattle.rg_redo.specs.Redo.{redone_all, since_switch}
use Rattle.rg_space.specs.Carries.{AllThere}
use Rattle.rg_laws_crash.specs.PageVersions.OnImage.{HasPages}
use Rattle.rg_laws_crash.specs.PageVersions.Versions.{Spells, taken_past, version}
use Rattle.rg_laws_crash.specs.NewestPages.Laws.{CanRedoFrom}
use Rattle.rg_laws_crash.specs.NewestPages.Newest.{AreNewest}
use Rattle.rg_laws_crash.specs.NewestPages.Tidy.{AreSpare, opened_epoch, switched_at}
use Rattle.rg_laws_crash.specs.NewestPages.Tidy.{switched_pages}

-- the log has the position of the last Switch, or it is 0; the records since then are those past it
pub record IsCutAtSwitch (rs : List Record) : Type 0 where
  pub since : since_switch rs ≡ drop (switched_at rs) rs
  pub high : switched_at rs ≤ length rs

abbrev pub SinceTheSwitch : Type 0
SinceTheSwitch = (rs : List Record) → ArePositions rs → IsCutAtSwitch rs

abbrev pub SwitchedPages : Type 0
SwitchedPages = (rs : List Record) → switched_pages rs ≤ (current_of rs).pages

-- these bytes were read as page n of the current copy, of a log with these records, and this was
-- taken of it
pub record IsTakenPage (rs : List Record) (n : ℕ) (bytes : List ℕ) (y : Content) : Type 0 where
  pub page : Content
  pub spells : Spells bytes page
  pub copy_is : page.copy ≡ (current_of rs).copy
  pub number : page.number ≡ n
  pub position : page.position ≤ length rs
  pub is : y ≡ taken_past (switched_at rs) (switched_pages rs) n page

-- The volume was opened: its log has these records, and these are the pages that were taken, with
-- which the redo begins. No record that is redone names a page past them.
pub record IsOpened (rs : List Record) (base : List Content) (i : Image) : Type 0 where
  pub positions : ArePositions rs
  pub count_is : length base ≡ (current_of rs).pages
  pub there :
      AllByRecursion (λ (entry : Record). AllThere (current_of rs).pages (parts_of entry.kind))
      (since_switch rs)
  pub each :
      (n : ℕ) → 1 ≤ n → n ≤ (current_of rs).pages
      → IsTakenPage rs n (i (set_of (current_of rs).copy) n) (content_at base n)

abbrev pub OpeningStands : Type 0
OpeningStands =
    (capacities : Capacities) (rs : List Record) (base : List Content) (i : Image)
    → IsOpened rs base i → AreSpare capacities rs i
    → HasPages (set_of (current_of rs).copy) (copy_capacity capacities (current_of rs).copy)
    (opened_epoch rs base) rs (length rs) i

abbrev pub OpeningCanRedo : Type 0
OpeningCanRedo =
    (rs : List Record) (base : List Content) (i : Image) → IsOpened rs base i
    → CanRedoFrom (opened_epoch rs base) rs (since_switch rs) base

abbrev pub OpeningIsNewest : Type 0
OpeningIsNewest =
    (rs : List Record) (base : List Content) (i : Image) (s : Seen) → IsOpened rs base i
    → s.copy ≡ (current_of rs).copy → s.pages ≡ redone_all (since_switch rs) base
    → AreNewest (opened_epoch rs base) rs s

-- the log has the position of page n, x, and the version of that number is x, which these bytes
-- spell
pub record IsMark (rs : List Record) (base : List Content) (n : ℕ) (bytes : List ℕ) (x : Content)
    : Type 0 where
  pub position : x.position ≤ length rs
  pub version_is : version (opened_epoch rs base) rs x.position n ≡ x
  pub spells : Spells bytes (version (opened_epoch rs base) rs x.position n)

abbrev pub OpeningMarks : Type 0
OpeningMarks =
    (rs : List Record) (base : List Content) (i : Image) (n : ℕ) (x : Content)
    → IsOpened rs base i → 1 ≤ n → n ≤ (current_of rs).pages
    → Spells (i (set_of (current_of rs).copy) n) x → content_at base n ≡ x
    → IsMark rs base n (i (set_of (current_of rs).copy) n) x
