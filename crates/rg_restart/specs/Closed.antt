-- What the undo of open units leaves.
--
-- 1. The Changes that are left are undone, each tested at its turn.
-- 2. The records of the undo are appended to the log, and nothing is forced. They take no more of
--    it than was reserved: 911 bytes for an Undo, and 23 for the RolledBack.
-- 3. The pages stay the newest versions that the records of the log make of them.
use Rattle.std.specs.Prelude.{◌≡◌, ◌≤◌, ◌+◌, ◌*◌, ◌++◌, ◌∷◌, ℕ, true, List, [], length, Option}
use Rattle.std.specs.Prelude.{Some, None}
use Rattle.rg_base.specs.declared.place.Place.{Place}
use Rattle.rg_home.specs.Able.{Proper}
use Rattle.rg_home.specs.Undo.{undone_all}
use Rattle.rg_home.specs.Written.{Written}
use Rattle.rg_image.specs.Pack.{log_bytes}
use Rattle.rg_laws_log.specs.StoredRows.Keyed.{AllTakeBack, TransBelow}
use Rattle.rg_laws_log.specs.LogState.Tested.{all_of}
use Rattle.rg_log.specs.Kept.{Listed}
use Rattle.rg_page.specs.declared.list.ListFrames.{ListFrames}
use Rattle.rg_laws_pages.specs.UndoRoom.Needed.{NeededInTurn}
use Rattle.rg_record.specs.declared.record.Record.{Record}
use Rattle.rg_record.specs.Spelled.{IsRecord}
use Rattle.rg_space.specs.Space.{Agree, InStep, capacity_in, frames_of, summaries_of}
use Rattle.rg_space.specs.declared.space.Space.{Space}
use Rattle.rg_undo.specs.Unit.{writes_of}
use Rattle.rg_check.specs.OpenUnits.Unended.{left_of, owed_for}
use Rattle.rg_space.specs.Memory.{list_seen, space_pages}
use Rattle.rg_engine.specs.Newest.{StayNewest}
use Rattle.rg_image.specs.Rules.{is_undo}
use Rattle.rg_laws_crash.specs.SoundVolume.Closing.{all_closed, closed_by}
use Rattle.rg_laws_crash.specs.SoundVolume.Left.{IsLacking, lefts_of, writes_left}

-- summaries and pages are in step, and agree
pub record IsInStep (space : Space ListFrames) : Type 0 where
  pub step : InStep (list_seen (frames_of space)) (summaries_of space) (capacity_in space)
  pub agree : Agree (list_seen (frames_of space)) (summaries_of space)

-- these writes had what they need, each at its turn, and were undone
pub record Undid (old new : Space ListFrames) (cs : List Written) : Type 0 where
  pub in_step : IsInStep new
  pub proper : Proper (space_pages new)
  pub capacity : capacity_in new ≡ capacity_in old
  pub needed : NeededInTurn (space_pages old) cs
  pub slots : space_pages new ≡ undone_all (space_pages old) cs
  pub count : length (space_pages new) ≡ length (space_pages old)

-- no number of these is above `top`
abbrev pub AllAtMost : (top : ℕ) → List ℕ → Type 0
AllAtMost top [] = Unit {0}
AllAtMost top (t ∷ ts) = (t ≤ top) × AllAtMost top ts

-- Undos and RolledBacks of these transactions were appended, and take at most so many bytes, of
-- those that were reserved
pub record TookBack (trans : List ℕ) (most : ℕ) (old new : Listed) : Type 0 where
  pub more : List Record
  pub records : new.records ≡ old.records ++ more
  pub back : AllTakeBack more
  pub below : (top : ℕ) → AllAtMost top trans → TransBelow top more
  pub forced : new.forced ≡ old.forced
  pub pages : new.pages ≡ old.pages
  pub reserved : old.reserved ≤ new.reserved + most
  pub least : log_bytes old.records ≤ log_bytes new.records
  pub most_bytes : log_bytes new.records ≤ log_bytes old.records + most

-- the records of a unit's undo, whose positions count up from this one
abbrev pub AreUndosFrom : ℕ → (tran : ℕ) → List Record → Type 0
AreUndosFrom position tran [] = Unit {0}
AreUndosFrom position tran (undo ∷ undos) =
    IsRecord undo × (is_undo undo.kind ≡ true) × (undo.position.0 ≡ position)
    × (undo.tran.0 ≡ tran) × AreUndosFrom (position + 1) tran undos

-- a unit is undone, and has its RolledBack
pub record ClosedUnit
    (tran : ℕ) (rs : List Record) (old new : Space ListFrames) (log later : Listed) : Type 0 where
  pub undid : Undid old new (writes_of (left_of tran rs))
  pub took : TookBack (tran ∷ []) (911 * length (left_of tran rs) + 23) log later
  pub records : later.records ≡ closed_by tran rs (space_pages old) log.records
  pub newest : StayNewest log.records old later.records new

-- what the undo of a unit came to: it is closed, or a Change lacks something
abbrev pub ClosesUnit :
    (tran : ℕ) → List Record → (old new : Space ListFrames) → (log later : Listed)
    → Option Place → Type 0
ClosesUnit tran rs old new log later None = ClosedUnit tran rs old new log later
ClosesUnit tran rs old new log later (Some place) =
    IsLacking (space_pages old) (left_of tran rs) place

-- these units are closed, one after the other
pub record ClosedAll
    (ts : List ℕ) (rs : List Record) (old new : Space ListFrames) (log later : Listed) : Type 0
  where
    pub undid : Undid old new (all_of (writes_left ts rs))
    pub took : TookBack ts (owed_for ts rs) log later
    pub records : later.records ≡ all_closed ts rs (space_pages old) log.records
    pub newest : StayNewest log.records old later.records new

-- what that came to
abbrev pub Closes :
    List ℕ → List Record → (old new : Space ListFrames) → (log later : Listed) → Option Place
    → Type 0
Closes ts rs old new log later None = ClosedAll ts rs old new log later
Closes ts rs old new log later (Some place) =
    IsLacking (space_pages old) (lefts_of ts rs) place
