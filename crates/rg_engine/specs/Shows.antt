-- How an engine stands to the state of the trace.
--
-- 1. The records are lawful from a consistent start. So the state that they leave has the engine's
--    pages, its rows by key are the table, and each open unit can be undone.
-- 2. A key that is not locked has no write of an open unit. A locked key has writes of its owner's
--    unit alone, and the lock keeps its committed row.
-- 3. Each session's unit is live, its records lead from write to write, and no two sessions have
--    one transaction. Every live unit is some session's.
-- 4. The log has reserved what the open units are owed, what is set aside for the utility, and
--    nothing else.
-- 5. The pages claim no more bytes than the entries so far have allowed.
-- 6. The log stores the committed rows, and what is forced of it stores no others.
-- 7. Its records tell of the open units, and it has room for all that it has reserved.
use Rattle.std.specs.Prelude.{◌≡◌, ◌≤◌, ◌+◌, ℕ, suc, false, List, [], Option, Some, None, length}
use Rattle.std.specs.Prelude.{take, drop}
use Rattle.rg_base.specs.declared.lock.Lock.{Lock}
use Rattle.rg_home.specs.Able.{IsLive}
use Rattle.rg_home.specs.Pages.{slot_of}
use Rattle.rg_home.specs.Rows.{row_at}
use Rattle.rg_laws_pages.specs.ByteClaims.Claim.{claimed_all, holding}
use Rattle.rg_btree.specs.Indexes.Listings.{AreListings}
use Rattle.rg_record.specs.declared.record.Record.{Record}
use Rattle.rg_laws_log.specs.LogState.Act.{Act, LogState, is_in, state}
use Rattle.rg_laws_log.specs.LogState.Consistent.{IsConsistent, stored_of}
use Rattle.rg_laws_log.specs.LogState.Lawful.{Runs}
use Rattle.rg_laws_log.specs.LogState.Records.{acts_of}
use Rattle.rg_laws_log.specs.LogState.Write.{HitBy, NoneHit, at_key, own_of}
use Rattle.rg_model.specs.State.{State, row_of}
use Rattle.std.specs.FinMap as fin
use Rattle.rg_space.specs.Space.{capacity_in}
use Rattle.rg_engine.specs.Engine.{HasPages, slots_in}
use Rattle.rg_engine.specs.Stored.{IsSettled, StoresCommitted}
use Rattle.rg_engine.specs.Trails.{Trails}
use Rattle.rg_engine.specs.Units.{owed, unit_at}
use Rattle.rg_engine.specs.Walks.{Walks}
use Rattle.rg_engine.specs.declared.engine.Engine.{Engine}
use Rattle.rg_engine.specs.declared.units.OpenUnit.{OpenUnit}

-- a locked key: the writes of the key are its owner's, and the lock keeps the committed row
pub record IsLocked (units : List (Option OpenUnit)) (s : LogState) (lock : Lock) (k : ℕ)
    : Type 0 where
  pub unit : OpenUnit
  pub has : unit_at units lock.owner.0 ≡ Some unit
  pub own : HitBy unit.tran.0 (at_key k) s.writes
  pub kept : lock.row ≡ stored_of s k

-- a key, by its lock
abbrev pub KeyShown : List (Option OpenUnit) → LogState → Option Lock → (k : ℕ) → Type 0
KeyShown units s None k = NoneHit (at_key k) s.writes
KeyShown units s (Some lock) k = IsLocked units s lock k

-- an open unit of a session
pub record UnitShown (records : List Record) (s : LogState) (unit : OpenUnit) : Type 0 where
  pub live : IsLive s.live unit.tran.0
  pub steady : is_in unit.tran.0 s.rolling ≡ false
  pub walks : Walks records unit.tran.0 unit.last.0 (own_of unit.tran.0 s.writes)
  pub count : length (own_of unit.tran.0 s.writes) ≡ unit.writes
  pub wrote : 1 ≤ unit.writes

-- the live unit of this number is the open one of some session
pub record HasSession (units : List (Option OpenUnit)) (t : ℕ) : Type 0 where
  pub session : ℕ
  pub unit : OpenUnit
  pub has : unit_at units session ≡ Some unit
  pub is : unit.tran.0 ≡ t

-- units of sessions, by the state that the records leave
pub record UnitsShown (records : List Record) (s : LogState) (units : List (Option OpenUnit))
    : Type 0 where
  pub each : (n : ℕ) (unit : OpenUnit) → unit_at units n ≡ Some unit → UnitShown records s unit
  pub apart :
      (m n : ℕ) (one other : OpenUnit) → unit_at units m ≡ Some one
      → unit_at units n ≡ Some other → one.tran.0 ≡ other.tran.0 → m ≡ n
  pub all : (t : ℕ) → IsLive s.live t → HasSession units t

-- the engine shows the state by what its records leave, and the entries so far have allowed so many
-- bytes
pub record ShowsBy (st : State) (allowed : ℕ) (d : Engine) (s : LogState) : Type 0 where
  pub up : st.down ≡ false
  pub sure : st.doubt ≡ None
  pub copy : st.copydoubt ≡ false
  pub table : (k : ℕ) → row_of st.table k ≡ s.now k
  pub locks : st.locks ≡ d.locks
  pub claims : st.claims ≡ d.claims.claims
  pub drain : st.drain ≡ d.claims.drain
  pub pages : HasPages d
  pub slots : slots_in d ≡ s.pages
  pub indexes : AreListings (row_at (slot_of s.pages)) d.indexes
  pub keys : (k : ℕ) → KeyShown d.units s (fin.get d.locks k) k
  pub places : length d.units ≡ 256
  pub units : UnitsShown d.log.records s d.units
  pub top : d.top ≡ s.top
  pub owed : owed d.units + d.set_aside ≡ d.log.reserved
  pub claimed : claimed_all (holding s.live (suc s.top)) s.pages ≤ allowed

-- what the records do that the log did not have when the engine began
abbrev pub since : Engine → List Act
since d = acts_of [] (drop d.opened d.log.records)

-- the state that the records leave
abbrev pub left_by : LogState → Engine → LogState
left_by first d = state first (since d)

-- the engine shows the state
pub record Shows (st : State) (allowed : ℕ) (d : Engine) : Type 0 where
  pub first : LogState
  pub begun : IsConsistent (capacity_in d.space) first
  pub within : d.opened ≤ length d.log.records
  pub stores : StoresCommitted (capacity_in d.space) first (take d.opened d.log.records)
  pub settled : IsSettled d.log
  pub runs : Runs (capacity_in d.space) first (since d)
  pub by : ShowsBy st allowed d (left_by first d)
  pub trails : Trails d.log d.set_aside d.units (left_by first d)

-- it shows some state
pub record IsShown (d : Engine) : Type 0 where
  pub state : State
  pub allowed : ℕ
  pub shows : Shows state allowed d
