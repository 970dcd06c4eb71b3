-- What keeps the pages in memory the newest versions.
--
-- 1. The parts of a record that can be applied are on pages that are there or on the next one
--    (`CanIsNear`, `ThereIsNear`).
-- 2. A record with the next position was written to the pages and appended to the log: its pages
--    are the newest versions again (`RecordIsNewest`). So it is after several (`EachIsNewest`). One
--    without parts changes no page (`EndIsNewest`).
-- 3. Redo of a log, on the pages with which it begins, leaves the newest versions
--    (`RebuiltAreNewest`).
use Rattle.std.specs.Prelude.{◌≡◌, ◌≤◌, ◌+◌, ◌++◌, ℕ, List, [], ◌∷◌, Option, drop, length}
use Rattle.std.specs.List.{AllByRecursion}
use Rattle.rg_base.specs.declared.part.Part.{Part}
use Rattle.rg_base.specs.declared.row.Row.{Row}
use Rattle.rg_image.specs.Rules.{ArePositions}
use Rattle.rg_page.specs.Content.{Content}
use Rattle.rg_page.specs.Seen.{Seen}
use Rattle.rg_record.specs.Applied.{parts_of}
use Rattle.rg_record.specs.declared.record.Record.{Record}
use Rattle.rg_redo.specs.Redo.{redone_all}
use Rattle.rg_space.specs.Carries.{AllThere}
use Rattle.rg_space.specs.Ready.{CanApply, record_wrote}
use Rattle.rg_undo.specs.Wrote.{AllOnPages, wrote_each}
use Rattle.rg_laws_crash.specs.PageVersions.Versions.{Epoch}
use Rattle.rg_laws_crash.specs.NewestPages.Newest.{AllNear, AreNewest, CountUp, page_in}

abbrev pub ThereIsNear : Type 0
ThereIsNear = (count : ℕ) (parts : List Part) → AllThere count parts → AllNear count parts

abbrev pub CanIsNear : Type 0
CanIsNear =
    (s : Seen) (capacity owner : ℕ) (after : Option Row) (parts : List Part)
    → CanApply s capacity owner after parts → AllNear (length s.pages) parts

abbrev pub RecordIsNewest : Type 0
RecordIsNewest =
    (e : Epoch) (rs : List Record) (entry : Record) (a b : Seen) → AreNewest e rs a
    → entry.position.0 ≡ length rs + 1 → AllNear (length a.pages) (parts_of entry.kind)
    → b.copy ≡ a.copy → b.pages ≡ record_wrote a.copy a.pages entry
    → AreNewest e (rs ++ entry ∷ []) b

abbrev pub EachIsNewest : Type 0
EachIsNewest =
    (e : Epoch) (rs more : List Record) (a b : Seen) → AreNewest e rs a
    → CountUp (length rs + 1) more → AllOnPages (length a.pages) more
    → b.copy ≡ a.copy → b.pages ≡ wrote_each a.copy a.pages more → AreNewest e (rs ++ more) b

abbrev pub EndIsNewest : Type 0
EndIsNewest =
    (e : Epoch) (rs : List Record) (entry : Record) (s : Seen) → AreNewest e rs s
    → entry.position.0 ≡ length rs + 1 → parts_of entry.kind ≡ []
    → AreNewest e (rs ++ entry ∷ []) s

-- The pages with which a redo begins: each has its number, and a position that the log has. The
-- records that are redone are those after the copy became current, and name no other page.
pub record CanRedoFrom (e : Epoch) (rs since : List Record) (base : List Content) : Type 0 where
  pub begun : e.from ≤ length rs
  pub since_is : since ≡ drop e.from rs
  pub positions : ArePositions rs
  pub base_is : (p : ℕ) → 1 ≤ p → e.base p ≡ page_in e.copy base p
  pub numbers : (p : ℕ) → 1 ≤ p → (e.base p).number ≡ p
  pub low : (p : ℕ) → 1 ≤ p → (e.base p).position ≤ length rs
  pub there :
      AllByRecursion (λ (entry : Record). AllThere (length base) (parts_of entry.kind)) since

abbrev pub RebuiltAreNewest : Type 0
RebuiltAreNewest =
    (e : Epoch) (rs since : List Record) (base : List Content) (s : Seen)
    → CanRedoFrom e rs since base → s.copy ≡ e.copy → s.pages ≡ redone_all since base
    → AreNewest e rs s
