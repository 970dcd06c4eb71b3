-- A table turns to its other copy.
--
-- 1. The log gets a Switch record, which names the copy and counts its pages. No transaction is
--    open then.
-- 2. The pages were written to the copy's set before. Past them stand old pages, of which none has
--    a position that the log did not have before the Switch.
-- 3. The copy begins with these pages just as an opening of that log has it begin (`opened_epoch`).
use Rattle.std.specs.Prelude.{◌≡◌, ◌≢◌, ◌≤◌, ◌<◌, ◌+◌, ◌++◌, ℕ, List, [], ◌∷◌, length}
use Rattle.rg_base.specs.Copies.{set_of}
use Rattle.rg_image.specs.Meaning.{current_of, stored}
use Rattle.rg_image.specs.Rules.{ArePositions, HasSpace, IsOpen, copy_capacity, greatest_tran}
use Rattle.rg_laws_log.specs.LogState.Act.{LogState}
use Rattle.rg_laws_log.specs.LogState.Consistent.{IsClean, IsConsistent, stored_of}
use Rattle.rg_log.specs.Kept.{log_pages}
use Rattle.rg_laws_crash.specs.NewestPages.Tidy.{opened_epoch}
use Rattle.rg_outside.specs.Calls.{Image}
use Rattle.rg_outside.specs.Capacities.{Capacities}
use Rattle.rg_page.specs.Content.{Content, content_at, slots_of}
use Rattle.rg_record.specs.declared.record.Kind.TheVariants.{Switch}
use Rattle.rg_record.specs.declared.record.Record.{Record}
use Rattle.rg_laws_crash.specs.PageVersions.Versions.{Epoch, Spells}

-- the record that turns to this copy, of so many pages
abbrev pub switch_to : (position copy pages : ℕ) → Record
switch_to position copy pages = record {
  position = record { 0 = position };
  tran = record { 0 = 0 };
  back = record { 0 = 0 };
  kind = Switch copy pages;
}

-- a log that ends with it
abbrev pub switched : List Record → (copy : ℕ) → List Content → List Record
switched rs copy pages = rs ++ switch_to (length rs + 1) copy (length pages) ∷ []

-- the copy, as it begins then
abbrev pub next_epoch : List Record → (copy : ℕ) → List Content → Epoch
next_epoch rs copy pages = opened_epoch (switched rs copy pages) pages

-- a page is of this copy, has this number, and no position above this one
pub record IsPageOfCopy (copy high p : ℕ) (x : Content) : Type 0 where
  pub copy_is : x.copy ≡ copy
  pub number : x.number ≡ p
  pub position : x.position ≤ high

-- The log may turn to this copy: no transaction is open, and the copy has room for the pages. They
-- have the slots of a state without live units, and with the rows that the log stores.
pub record CanSwitch (capacities : Capacities) (limit : ℕ) (rs : List Record) (copy : ℕ)
    (pages : List Content) (s : LogState) : Type 0 where
  pub other : copy ≢ (current_of rs).copy
  pub room : length pages ≤ copy_capacity capacities copy
  pub closed : (t : ℕ) → IsOpen t rs → ⊥
  pub positions : ArePositions rs
  pub space : HasSpace (log_pages capacities) (switched rs copy pages)
  pub each :
      (p : ℕ) → 1 ≤ p → p ≤ length pages → IsPageOfCopy copy (length rs) p (content_at pages p)
  pub slots : slots_of pages ≡ s.pages
  pub good : IsConsistent limit s
  pub clean : IsClean s
  pub live : s.live ≡ []
  pub top : greatest_tran rs ≡ s.top
  pub stores : (k : ℕ) → stored rs k ≡ stored_of s k

-- these bytes spell an old page
pub record IsOldPage (copy high p : ℕ) (bytes : List ℕ) : Type 0 where
  pub page : Content
  pub spells : Spells bytes page
  pub is : IsPageOfCopy copy high p page

-- so do all pages of the copy's set
abbrev pub AreOldPages : Capacities → (copy high : ℕ) → Image → Type 0
AreOldPages capacities copy high i =
    (p : ℕ) → 1 ≤ p → p ≤ copy_capacity capacities copy
    → IsOldPage copy high p (i (set_of copy) p)

-- the copy's set has the pages, and past them old ones
pub record HasNewCopy (capacities : Capacities) (rs : List Record) (copy : ℕ)
    (pages : List Content) (i : Image) : Type 0 where
  pub each :
      (p : ℕ) → 1 ≤ p → p ≤ length pages → Spells (i (set_of copy) p) (content_at pages p)
  pub past :
      (p : ℕ) → length pages < p → p ≤ copy_capacity capacities copy
      → IsOldPage copy (length rs) p (i (set_of copy) p)
