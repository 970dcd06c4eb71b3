-- When the records of a log can be opened again, whatever of its pages is on the volume.
--
-- 1. They follow from each other, and leave room for the end of each open transaction.
-- 2. Each of them fitted its page when it was made. So it fits in a redo from any version.
-- 3. The rules on rows and slots hold of the newest versions: that is what redo makes of the pages.
-- 4. All of this is said of the records and of the pages with which the copy began. Nothing is said
--    of a volume.
-- 5. Of a volume that is tidy no dead area has a number above those of the log. So it is of all
--    pages of the copy if it is of those with which it began.
use Rattle.std.specs.Prelude.{◌≡◌, ◌≤◌, ℕ, List, drop, length}
use Rattle.rg_home.specs.Slots.{slot_at}
use Rattle.rg_image.specs.Rules.{HasSpace, IsChain, greatest_tran}
use Rattle.rg_laws_log.specs.LogState.Act.{LogState}
use Rattle.rg_home.specs.Owners.{OwnerBelow}
use Rattle.rg_log.specs.Kept.{log_pages}
use Rattle.rg_laws_crash.specs.NewestPages.Newest.{AreNewest}
use Rattle.rg_outside.specs.Calls.{Image}
use Rattle.rg_outside.specs.Capacities.{Capacities}
use Rattle.rg_page.specs.Content.{Content, content_at, slots_of}
use Rattle.rg_page.specs.Seen.{Seen}
use Rattle.rg_record.specs.declared.record.Record.{Record}
use Rattle.rg_laws_crash.specs.PageVersions.Versions.{EachFits, Epoch}
use Rattle.rg_laws_crash.specs.SoundVolume.Pages.{CanClose, IsMatched, count_of, undone_from}
use Rattle.rg_laws_crash.specs.SoundVolume.Sound.{TakesBase}

-- no dead area of a page has an owner above this number
abbrev pub IsBelow : (top : ℕ) → Content → Type 0
IsBelow top x = (n : ℕ) → OwnerBelow top (slot_at x.slots n)

-- these are the newest versions of the pages of a copy, as many as the log counts, and each record
-- fitted its page when it was made
pub record IsRedone (e : Epoch) (rs : List Record) (seen : Seen) : Type 0 where
  pub newest : AreNewest e rs seen
  pub count : length seen.pages ≡ count_of rs
  pub fits : (p : ℕ) → 1 ≤ p → EachFits (drop e.from rs) (e.base p)

-- they have the slots of this state
pub record Stands (e : Epoch) (rs : List Record) (s : LogState) : Type 0 where
  pub seen : Seen
  pub redone : IsRedone e rs seen
  pub slots : slots_of seen.pages ≡ s.pages

-- a log with these records can be opened, of a copy that began so
pub record CanReopen (capacities : Capacities) (e : Epoch) (rs : List Record) : Type 0 where
  pub chain : IsChain capacities rs
  pub space : HasSpace (log_pages capacities) rs
  pub seen : Seen
  pub redone : IsRedone e rs seen
  pub closes : CanClose rs (slots_of seen.pages)
  pub matched : IsMatched rs (undone_from rs (slots_of seen.pages))

-- no dead area of the pages with which a copy began has a number above those of the log
abbrev pub HasLowOwners : Epoch → List Record → Type 0
HasLowOwners e rs = (p : ℕ) → 1 ≤ p → IsBelow (greatest_tran rs) (e.base p)

-- no dead area of the pages that are taken has a number above those of the log
abbrev pub AreTidyOwners : List Record → Image → Type 0
AreTidyOwners rs i =
    (base : List Content) → TakesBase rs i base
    → (p : ℕ) → 1 ≤ p → p ≤ count_of rs → IsBelow (greatest_tran rs) (content_at base p)
