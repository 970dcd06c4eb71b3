-- What a write leaves of an engine.
--
-- 1. A plan that purges is carried out by a Purge record, which is of no transaction, and then by
--    the Change of its unit.
-- 2. The Change's back is the unit's last record before.
use Rattle.std.specs.Prelude.{◌≡◌, ◌≤◌, ◌<◌, ◌+◌, nat_le, ℕ, List, [], ◌∷◌, ◌++◌, Option, Some}
use Rattle.std.specs.Prelude.{if◌then◌else◌, length, slice_set}
use Rattle.rg_base.specs.declared.part.Part.{Part}
use Rattle.rg_base.specs.declared.place.Place.{Place}
use Rattle.rg_base.specs.declared.row.Row.{Row}
use Rattle.rg_base.specs.declared.session.Session.{Session}
use Rattle.rg_home.specs.declared.plan.Plan.{Plan}
use Rattle.rg_home.specs.Pages.{applied, row_or_empty}
use Rattle.rg_index.specs.Listed.{SetsRow}
use Rattle.rg_btree.specs.Indexes.Listings.{AreListings, HasSpare, SameEntries}
use Rattle.rg_lock.specs.Taken.{take_key}
use Rattle.rg_log.specs.Kept.{left_of}
use Rattle.rg_record.specs.declared.record.Kind.TheVariants.{Purge}
use Rattle.rg_record.specs.declared.record.Record.{Record}
use Rattle.rg_laws_log.specs.LogState.Write.{write_of}
use Rattle.rg_stmt.specs.declared.stmt.Reply.{Reply}
use Rattle.rg_stmt.specs.declared.stmt.Reply.TheVariants.{Done, LogFull, NoMemory}
use Rattle.rg_space.specs.Carries.{Carries, cleared}
use Rattle.rg_space.specs.Space.{capacity_in}
use Rattle.rg_engine.specs.Bytes.{most_needed, needed, plan_bytes}
use Rattle.rg_engine.specs.Engine.{HasPages, ground_of, seen_in, slots_in}
use Rattle.rg_engine.specs.Newest.{KeepsNewest}
use Rattle.rg_engine.specs.Stored.{SameBase}
use Rattle.rg_engine.specs.Units.{unit_at}
use Rattle.rg_engine.specs.Walks.{change_record}
use Rattle.rg_engine.specs.declared.engine.Engine.{Engine}
use Rattle.rg_engine.specs.declared.units.OpenUnit.{OpenUnit}

-- the Purge record of these parts
abbrev pub purge_record : (position : ℕ) → List Part → Record
purge_record position parts = record {
  position = record { 0 = position };
  tran = record { 0 = 0 };
  back = record { 0 = 0 };
  kind = Purge parts;
}

-- the records once a plan has purged
abbrev pub records_cleared : List Record → List Part → List Record
records_cleared records [] = records
records_cleared records (x ∷ parts) =
    records ++ purge_record (length records + 1) (x ∷ parts) ∷ []

-- the records once it has written
abbrev pub records_wrote : List Record → OpenUnit → Plan → Option Row → List Record
records_wrote records unit plan after =
    records_cleared records plan.purge
    ++ change_record (length (records_cleared records plan.purge) + 1) unit.tran.0 unit.last.0
    (write_of unit.tran.0 plan.home plan.before after plan.parts)
    ∷ []

-- the unit after the write
abbrev pub unit_wrote : List Record → OpenUnit → Plan → OpenUnit
unit_wrote records unit plan = record {
  tran = unit.tran;
  last = record { 0 = length (records_cleared records plan.purge) + 1 };
  writes = unit.writes + 1;
}

-- the records of the plan were made, and pages, indexes and units follow them
pub record Puts
    (old : Engine) (session : Session) (unit : OpenUnit) (plan : Plan) (after : Option Row)
    (new : Engine) : Type 0 where
  pub capacity : capacity_in new.space ≡ capacity_in old.space
  pub pages : HasPages old → HasPages new
  pub slots :
      Carries unit.tran.0 0 (capacity_in old.space) (slots_in old) after plan
      → slots_in new
      ≡ applied unit.tran.0 (row_or_empty after) (cleared 0 (slots_in old) plan) plan.parts
  pub newest :
      Carries unit.tran.0 0 (capacity_in old.space) (slots_in old) after plan → KeepsNewest old new
  pub records : new.log.records ≡ records_wrote old.log.records unit plan after
  pub reserved : new.log.reserved + plan_bytes plan after ≡ old.log.reserved
  pub base : SameBase old new
  pub indexes :
      (rows next : Place → Option Row) → AreListings rows old.indexes
      → rows plan.home ≡ plan.before → SetsRow rows next plan.home after
      → AreListings next new.indexes
  pub locks : new.locks ≡ old.locks
  pub claims : new.claims ≡ old.claims
  pub units :
      new.units
      ≡ slice_set old.units session.0 (Some (unit_wrote old.log.records unit plan))
  pub top : new.top ≡ (if nat_le unit.tran.0 old.top then old.top else unit.tran.0)

-- all that a write may be refused was taken: room in the indexes, so many bytes of the log, and the
-- lock
pub record Prepares
    (old : Engine) (session : Session) (need key : ℕ) (kept : Option Row) (new : Engine) : Type 0
  where
    pub space : new.space ≡ old.space
    pub log : new.log ≡ record old.log { reserved = old.log.reserved + need }
    pub room : need ≤ left_of old.log
    pub entries : SameEntries old.indexes new.indexes
    pub spare : HasSpare 1 new.indexes
    pub locks : new.locks ≡ take_key old.locks session key kept
    pub claims : new.claims ≡ old.claims
    pub units : new.units ≡ old.units
    pub top : new.top ≡ old.top
    pub opened : new.opened ≡ old.opened
    pub set_aside : new.set_aside ≡ old.set_aside

-- a write: it was prepared and carried out
pub record Wrote
    (old : Engine) (session : Session) (unit : OpenUnit) (plan : Plan) (key : ℕ)
    (after : Option Row) (new : Engine) : Type 0 where
  pub middle : Engine
  pub prepared :
      Prepares old session (needed (unit_at old.units session.0) plan after) key plan.before middle
  pub put : Puts middle session unit plan after new
  pub most : needed (unit_at old.units session.0) plan after ≤ most_needed

-- all is as it was, but for room
pub record SameEngine (old new : Engine) : Type 0 where
  pub capacity : capacity_in new.space ≡ capacity_in old.space
  pub pages : HasPages old → HasPages new
  pub slots : slots_in new ≡ slots_in old
  pub contents : (seen_in new).pages ≡ (seen_in old).pages
  pub of_copy : (seen_in new).copy ≡ (seen_in old).copy
  pub log : new.log ≡ old.log
  pub entries : SameEntries old.indexes new.indexes
  pub locks : new.locks ≡ old.locks
  pub claims : new.claims ≡ old.claims
  pub units : new.units ≡ old.units
  pub top : new.top ≡ old.top
  pub opened : new.opened ≡ old.opened
  pub set_aside : new.set_aside ≡ old.set_aside

-- what writes are planned over is as it was, and the pages
pub record KeepsGround (old new : Engine) : Type 0 where
  pub ground : ground_of new ≡ ground_of old
  pub contents : (seen_in new).pages ≡ (seen_in old).pages

-- so many bytes are more than the log has left, or it is out of memory; and all is as it was
abbrev pub Refuses : Engine → (need : ℕ) → Reply → Engine → Type 0
Refuses old need (LogFull asked left) new =
    (asked ≡ need) × (left ≡ left_of old.log) × (left < need) × (need ≤ most_needed)
    × SameEngine old new
Refuses old need NoMemory new = SameEngine old new
Refuses old need reply new = ⊥

-- a planned write is done, or it is refused and all is as it was
abbrev pub Writes :
    Engine → Session → OpenUnit → Plan → (key : ℕ) → Option Row → Reply → Engine → Type 0
Writes old session unit plan key after Done new = Wrote old session unit plan key after new
Writes old session unit plan key after reply new =
    Refuses old (needed (unit_at old.units session.0) plan after) reply new
