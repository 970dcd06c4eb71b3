-- What the end of a unit leaves of the state of its records.
--
-- 1. Its writes are no longer kept and it is no longer live, whether it commits or was undone. No
--    other unit's writes are touched, nor what is committed of keys that it has not written.
use Rattle.std.specs.Prelude.{◌≡◌, ◌≤◌, ◌+◌, ℕ, false, List, [], ◌∷◌, ◌++◌, Option, Some, None}
use Rattle.std.specs.Prelude.{length, slice_set}
use Rattle.std.specs.FinMap as fin
use Rattle.rg_base.specs.declared.session.Session.{Session}
use Rattle.rg_model.specs.Committed.{locks_without}
use Rattle.rg_record.specs.declared.record.Kind.TheVariants.{Commit, RolledBack}
use Rattle.rg_record.specs.declared.record.Record.{Record}
use Rattle.rg_laws_log.specs.LogState.Act.{LogState, is_in, not_of, others}
use Rattle.rg_laws_log.specs.LogState.Consistent.{stored_of}
use Rattle.rg_laws_log.specs.LogState.Write.{NoneHit, at_key, kept_of, own_of}
use Rattle.rg_engine.specs.Bytes.{taken_of}
use Rattle.rg_engine.specs.Newest.{KeepsNewest}
use Rattle.rg_engine.specs.Stored.{SameBase}
use Rattle.rg_engine.specs.Units.{owed_to, unit_at}
use Rattle.rg_engine.specs.declared.engine.Engine.{Engine}
use Rattle.rg_engine.specs.declared.units.OpenUnit.{OpenUnit}

-- what is left, once unit t has ended
pub record HasEnded (t : ℕ) (s left : LogState) : Type 0 where
  pub writes : left.writes ≡ kept_of (not_of t) s.writes
  pub live : left.live ≡ others t s.live
  pub stored :
      (k : ℕ) → NoneHit (at_key k) (own_of t s.writes) → stored_of left k ≡ stored_of s k
  pub steady :
      (u : ℕ) → (u ≡ t → ⊥) → is_in u s.rolling ≡ false → is_in u left.rolling ≡ false

-- the Commit record of a unit
abbrev pub commit_record : (position : ℕ) → OpenUnit → Record
commit_record position unit = record {
  position = record { 0 = position };
  tran = unit.tran;
  back = unit.last;
  kind = Commit;
}

-- the records once the unit has committed, if it has written
abbrev pub records_committed : List Record → Option OpenUnit → List Record
records_committed records None = records
records_committed records (Some unit) = records ++ commit_record (length records + 1) unit ∷ []

-- the Commit of a session's unit was appended, from the room that was reserved for the unit
pub record LogsCommit (old : Engine) (session : Session) (new : Engine) : Type 0 where
  pub same : new ≡ record old { log = new.log }
  pub records :
      new.log.records ≡ records_committed old.log.records (unit_at old.units session.0)
  pub reserved :
      new.log.reserved + owed_to (unit_at old.units session.0) ≡ old.log.reserved
  pub newest : KeepsNewest old new
  pub base : SameBase old new

-- a session has no unit, no locks and no claim any more
pub record EndsSession (old : Engine) (session : Session) (new : Engine) : Type 0 where
  pub space : new.space ≡ old.space
  pub log : new.log ≡ old.log
  pub indexes : new.indexes ≡ old.indexes
  pub top : new.top ≡ old.top
  pub locks : new.locks ≡ locks_without session old.locks
  pub claims : new.claims ≡ record old.claims { claims = fin.remove old.claims.claims session.0 }
  pub units : new.units ≡ slice_set old.units session.0 None
  pub opened : new.opened ≡ old.opened
  pub set_aside : new.set_aside ≡ old.set_aside

-- the RolledBack record of a unit
abbrev pub rolled_record : (position last : ℕ) → OpenUnit → Record
rolled_record position last unit = record {
  position = record { 0 = position };
  tran = unit.tran;
  back = record { 0 = last };
  kind = RolledBack;
}

-- the RolledBack of a unit was appended, and what is reserved is others'
pub record LogsRolledBack
    (old : Engine) (unit : OpenUnit) (last others : ℕ) (new : Engine) : Type 0 where
  pub same : new ≡ record old { log = new.log }
  pub records :
      new.log.records
      ≡ old.log.records ++ rolled_record (length old.log.records + 1) last unit ∷ []
  pub newest : KeepsNewest old new
  pub reserved : new.log.reserved ≡ others
  pub taken : taken_of new.log ≤ taken_of old.log
  pub base : SameBase old new
