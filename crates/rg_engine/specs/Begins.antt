-- What a table over pages can be begun with.
use Rattle.std.specs.Prelude.{◌≡◌, ◌≤◌, ◌<◌, ◌*◌, ◌^◌, ℕ, suc, List, [], length}
use Rattle.rg_model.specs.State.{Table, row_count}
use Rattle.rg_laws_pages.specs.ByteClaims.Claim.{claimed_all, holding}
use Rattle.rg_laws_crash.specs.LogChain.Tells.{Tells}
use Rattle.rg_home.specs.Slot.{Slot}
use Rattle.rg_image.specs.Rules.{HasSpace, owed}
use Rattle.rg_laws_log.specs.LogState.Act.{LogState}
use Rattle.rg_laws_log.specs.LogState.Consistent.{IsConsistent}
use Rattle.rg_log.specs.Kept.{Listed}
use Rattle.rg_engine.specs.Stored.{IsSettled, IsStored, StoresCommitted}

-- Pages and a log that a desk may begin with: all units of the log have ended, the rows that are
-- there are the stored ones and fewer than 2^32, the pages claim no more bytes than pages have, and
-- the records tell the state and are within the limit.
pub record CanBegin (capacity : ℕ) (pages : List (List Slot)) (log : Listed) (top : ℕ) : Type 0
  where
    pub first : LogState
    pub good : IsConsistent capacity first
    pub stores : StoresCommitted capacity first log.records
    pub settled : IsSettled log
    pub pages_are : first.pages ≡ pages
    pub live : first.live ≡ []
    pub writes : first.writes ≡ []
    pub top_is : first.top ≡ top
    pub idle : log.reserved ≡ 0
    pub claimed : claimed_all (holding [] (suc top)) pages ≤ 4064 * length pages
    pub start : Table
    pub starts : IsStored log.records start
    pub few : row_count start < 2 ^ 32
    pub tells : Tells log.records first
    pub owes : owed log.records ≡ 0
    pub space : HasSpace log.pages log.records

-- the same of pages and a log, but for the stored table
pub record CanShow (capacity : ℕ) (pages : List (List Slot)) (log : Listed) (top : ℕ) : Type 0
  where
    pub first : LogState
    pub good : IsConsistent capacity first
    pub stores : StoresCommitted capacity first log.records
    pub settled : IsSettled log
    pub pages_are : first.pages ≡ pages
    pub live : first.live ≡ []
    pub writes : first.writes ≡ []
    pub top_is : first.top ≡ top
    pub idle : log.reserved ≡ 0
    pub claimed : claimed_all (holding [] (suc top)) pages ≤ 4064 * length pages
    pub tells : Tells log.records first
    pub owes : owed log.records ≡ 0
    pub space : HasSpace log.pages log.records
