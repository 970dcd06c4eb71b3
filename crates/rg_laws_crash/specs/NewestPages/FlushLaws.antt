-- When a page in memory may be written, and what a page on the volume shows.
--
-- 1. A page in memory may be written once the log is forced up to its position
--    (`NewestMayBeWritten`).
-- 2. What was written then shows the version that the page's own position numbers, and shows it
--    whatever is appended later (`WrittenIsVersion`). So does a page that was read and taken as it
--    is (`BaseIsVersion`).
-- 3. A page whose position is no higher than such a version's number shows the page in memory: it
--    is clean (`CleanIsNewest`).
use Rattle.std.specs.Prelude.{◌≡◌, ◌≤◌, ◌++◌, ℕ, List, length}
use Rattle.rg_image.specs.Rules.{ArePositions}
use Rattle.rg_page.specs.Content.{Content, content_at}
use Rattle.rg_page.specs.Seen.{Seen}
use Rattle.rg_record.specs.declared.record.Record.{Record}
use Rattle.rg_laws_crash.specs.PageVersions.Versions.{Epoch, IsOnVolume, Spells, version}
use Rattle.rg_laws_crash.specs.NewestPages.Newest.{AreNewest, IsNewest}

abbrev pub NewestMayBeWritten : Type 0
NewestMayBeWritten =
    (e : Epoch) (rs : List Record) (s : Seen) (p forced : ℕ) (bytes : List ℕ) → ArePositions rs
    → AreNewest e rs s → 1 ≤ p → p ≤ length s.pages → e.from ≤ forced → forced ≤ length rs
    → (content_at s.pages p).position ≤ forced → Spells bytes (content_at s.pages p)
    → IsOnVolume e rs forced p bytes

abbrev pub WrittenIsVersion : Type 0
WrittenIsVersion =
    (e : Epoch) (rs more : List Record) (p : ℕ) (x : Content) → ArePositions rs → e.from ≤ length rs
    → IsNewest e rs p x → x ≡ version e (rs ++ more) x.position p

abbrev pub BaseIsVersion : Type 0
BaseIsVersion =
    (e : Epoch) (rs : List Record) (p : ℕ) → ArePositions rs → e.from ≤ length rs
    → (e.base p).position ≤ length rs → version e rs (e.base p).position p ≡ e.base p

abbrev pub CleanIsNewest : Type 0
CleanIsNewest =
    (e : Epoch) (rs : List Record) (p q : ℕ) (x : Content) → ArePositions rs → e.from ≤ length rs
    → q ≤ length rs → IsNewest e rs p x → x.position ≤ q → x ≡ version e rs q p
