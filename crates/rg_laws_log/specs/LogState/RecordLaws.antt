-- What holds of the acts of records, and of every prefix of a log.
--
-- 1. A record appended is an act before (`RecordsAppend`).
-- 2. Each lawful act fits its pages and keeps the invariant (`RecordsKeep`). It holds of the empty
--    log. So it holds of every prefix, and the committed rows by place are the stored rows by key
--    (`PrefixesHold`).
-- 3. The stored rows are those that are there once all open units are taken back, and so they are
--    if some of the open units committed now (`CommitsTell`).
use Rattle.std.specs.Prelude.{◌≡◌, ◌||◌, ◌++◌, not, ℕ, Bool, true, List, [], ◌∷◌}
use Rattle.rg_record.specs.declared.record.Record.{Record}
use Rattle.rg_home.specs.Slot.{Slot}
use Rattle.rg_laws_log.specs.LogState.Write.{at_key, kept_of, gone_back}
use Rattle.rg_home.specs.Table.{IsTable}
use Rattle.rg_laws_log.specs.LogState.Act.{Act, LogState, nothing, state, step}
use Rattle.rg_laws_log.specs.LogState.Lawful.{Lawful, Runs, ActFits}
use Rattle.rg_laws_log.specs.LogState.Consistent.{base_of, stored_of, IsConsistent, IsClean}
use Rattle.rg_laws_log.specs.LogState.Stored.{has_commit, last_of, stored_at, MayCount}
use Rattle.rg_laws_log.specs.LogState.Records.{act_of, acts_of}

-- the act of a record that is appended comes before the others
abbrev pub RecordsAppend : Type 0
RecordsAppend =
    (pages : List (List Slot)) (records : List Record) (entry : Record)
    → acts_of pages (records ++ entry ∷ []) ≡ act_of pages entry ∷ acts_of pages records

-- so do the acts of several records
abbrev pub RecordsJoin : Type 0
RecordsJoin =
    (pages : List (List Slot)) (records more : List Record)
    → acts_of pages (records ++ more) ≡ acts_of pages more ++ acts_of pages records

-- a list of acts after another: the state that it leaves, and that it is lawful
pub record RunsJoin : Type 0 where
  pub leaves :
      (first : LogState) (more acts : List Act)
      → state first (more ++ acts) ≡ state (state first acts) more
  pub runs :
      (limit : ℕ) (first : LogState) (more acts : List Act) → Runs limit first acts
      → Runs limit (state first acts) more → Runs limit first (more ++ acts)
  pub rest :
      (limit : ℕ) (first : LogState) (more acts : List Act) → Runs limit first (more ++ acts)
      → Runs limit (state first acts) more

-- each lawful act fits its pages, and keeps the invariant
abbrev pub RecordsKeep : Type 0
RecordsKeep =
    (limit : ℕ) (s : LogState) (a : Act) → IsConsistent limit s → Lawful limit s a
    → ActFits limit s a × IsConsistent limit (step s a) × (IsClean s → IsClean (step s a))

-- the empty log meets it
abbrev pub NothingHolds : Type 0
NothingHolds = (limit : ℕ) → IsConsistent limit nothing × IsClean nothing

-- so it holds of every list that is lawful from a consistent state on
abbrev pub RunsKeep : Type 0
RunsKeep =
    (limit : ℕ) (first : LogState) (acts : List Act)
    → IsConsistent limit first → Runs limit first acts
    → IsConsistent limit (state first acts) × (IsClean first → IsClean (state first acts))

-- and the stored rows of every prefix, by key, are its committed rows, by place
abbrev pub PrefixesHold : Type 0
PrefixesHold =
    (limit : ℕ) (acts : List Act) → Runs limit nothing acts
    → IsConsistent limit (state nothing acts) × IsClean (state nothing acts)
    × IsTable (base_of (state nothing acts)) (stored_at acts)

-- a prefix of a lawful log is lawful
abbrev pub PrefixesRun : Type 0
PrefixesRun =
    (limit : ℕ) (first : LogState) (more acts : List Act) → Runs limit first (more ++ acts)
    → Runs limit first acts

-- the committed rows of a consistent state are one table, by place and by key
abbrev pub StoredIsTable : Type 0
StoredIsTable =
    (limit : ℕ) (s : LogState) → IsConsistent limit s → IsTable (base_of s) (stored_of s)

-- if some open units committed now, the stored rows would be those that are there once all others
-- are taken back
abbrev pub CommitsTell : Type 0
CommitsTell =
    (limit : ℕ) (acts : List Act) → Runs limit nothing acts → (f : ℕ → Bool)
    → ((u : ℕ) → f u ≡ true → MayCount (state nothing acts) u) → (k : ℕ)
    → last_of (λ u. f u || has_commit u acts) k acts
    ≡ gone_back (at_key k) (kept_of (λ u. not (f u)) (state nothing acts).writes)
    ((state nothing acts).now k)

-- so the stored row of a key is the committed row that the state computes
abbrev pub StoredTells : Type 0
StoredTells =
    (limit : ℕ) (acts : List Act) → Runs limit nothing acts → (k : ℕ)
    → stored_at acts k ≡ stored_of (state nothing acts) k
