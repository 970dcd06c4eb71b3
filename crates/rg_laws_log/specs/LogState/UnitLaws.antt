-- What each act makes of the rows by key, of the committed rows, and of a unit's writes.
--
-- 1. A Change sets the row of its key, an Undo sets it back, and no other act changes a row
--    (`NowAfter`).
-- 2. The committed row of a key changes by a Commit alone, and then at the keys that the unit has
--    written: there it becomes the row that is there (`StoredAfter`).
-- 3. Writes of a key stay writes of one unit, and are none once that unit has ended (`HitAfter`).
-- 4. A unit is live from its first Change to its end (`UnitsAfter`), and open until it begins to be
--    undone (`OpenAfter`).
-- 5. A unit's own writes grow by its Change, lose their first by its Undo, and are none after its
--    end (`OwnAfter`).
-- 6. So a unit that is undone by its Undos and a RollBack leaves the committed rows at the keys
--    that it has written, and every other row as it was (`RollbackRows`).
use Rattle.std.specs.Prelude.{◌≡◌, ◌==◌, ◌≤◌, ◌++◌, ℕ, suc, true, false, List, [], ◌∷◌, length}
use Rattle.std.specs.Prelude.{Option, Some, None, if◌then◌else◌, Bool}
use Rattle.rg_base.specs.declared.place.Place.{Place}
use Rattle.rg_base.specs.declared.row.Row.{Row as TableRow}
use Rattle.rg_base.specs.declared.part.Part.{Part}
use Rattle.rg_home.specs.Slot.{Slot}
use Rattle.rg_home.specs.Pages.{slot_of}
use Rattle.rg_home.specs.Undo.{planned_undo, undone, undone_all}
use Rattle.rg_home.specs.Able.{AllUndoable, IsLive, Proper}
use Rattle.rg_laws_log.specs.LogState.Write.{Write, at_key, HitBy, NoneHit, latest_of, own_of}
use Rattle.rg_laws_log.specs.LogState.Write.{first_write, written_of}
use Rattle.rg_laws_log.specs.LogState.Act.{Act, LogState, is_in, others, state, step}
use Rattle.rg_laws_log.specs.LogState.Act.{Purge, Change, Undo, Commit, RollBack, Switch}
use Rattle.rg_laws_log.specs.LogState.Lawful.{IsOpen, MayBegin, Lawful, Runs}
use Rattle.rg_laws_log.specs.LogState.Consistent.{stored_of, IsConsistent}
use Rattle.rg_laws_log.specs.LogState.Closing.{AreUndos, undos_from}

-- what each act makes of the row of key k
pub record NowAfter : Type 0 where
  pub purge :
      (s : LogState) (parts : List Part) (k : ℕ) → (step s (Purge parts)).now k ≡ s.now k
  pub change :
      (s : LogState) (w : Write) (k : ℕ)
      → (step s (Change w)).now k ≡ (if w.key == k then w.after else s.now k)
  pub undo :
      (s : LogState) (t : ℕ) (home : Place) (after : Option TableRow) (parts : List Part)
      (w : Write) (k : ℕ) → latest_of t s.writes ≡ Some w
      → (step s (Undo t home after parts)).now k
      ≡ (if w.key == k then w.written.before else s.now k)
  pub commit : (s : LogState) (t k : ℕ) → (step s (Commit t)).now k ≡ s.now k
  pub roll_back : (s : LogState) (t k : ℕ) → (step s (RollBack t)).now k ≡ s.now k
  pub switch :
      (s : LogState) (pages : List (List Slot)) (k : ℕ)
      → (step s (Switch pages)).now k ≡ s.now k

-- what each lawful act makes of the committed row of key k
pub record StoredAfter : Type 0 where
  pub purge :
      (limit : ℕ) (s : LogState) (parts : List Part) (k : ℕ) → IsConsistent limit s
      → Lawful limit s (Purge parts) → stored_of (step s (Purge parts)) k ≡ stored_of s k
  pub change :
      (limit : ℕ) (s : LogState) (w : Write) (k : ℕ) → IsConsistent limit s
      → Lawful limit s (Change w) → stored_of (step s (Change w)) k ≡ stored_of s k
  pub undo :
      (limit : ℕ) (s : LogState) (t : ℕ) (home : Place) (after : Option TableRow)
      (parts : List Part) (k : ℕ) → IsConsistent limit s
      → Lawful limit s (Undo t home after parts)
      → stored_of (step s (Undo t home after parts)) k ≡ stored_of s k
  pub roll_back :
      (limit : ℕ) (s : LogState) (t k : ℕ) → IsConsistent limit s
      → Lawful limit s (RollBack t) → stored_of (step s (RollBack t)) k ≡ stored_of s k
  pub switch :
      (limit : ℕ) (s : LogState) (pages : List (List Slot)) (k : ℕ) → IsConsistent limit s
      → Lawful limit s (Switch pages) → stored_of (step s (Switch pages)) k ≡ stored_of s k
  pub commit :
      (limit : ℕ) (s : LogState) (t k : ℕ) → IsConsistent limit s
      → HitBy t (at_key k) s.writes → stored_of (step s (Commit t)) k ≡ s.now k
  pub commit_others :
      (limit : ℕ) (s : LogState) (t k : ℕ) → IsConsistent limit s
      → NoneHit (at_key k) (own_of t s.writes)
      → stored_of (step s (Commit t)) k ≡ stored_of s k
  pub quiet :
      (s : LogState) (k : ℕ) → NoneHit (at_key k) s.writes → stored_of s k ≡ s.now k

-- writes that meet a test are of unit u, and stay so
pub record HitAfter : Type 0 where
  pub purge :
      (s : LogState) (u : ℕ) (hit : Write → Bool) (parts : List Part)
      → HitBy u hit s.writes → HitBy u hit (step s (Purge parts)).writes
  pub change :
      (s : LogState) (u : ℕ) (hit : Write → Bool) (w : Write)
      → (hit w ≡ true → w.written.owner ≡ u)
      → HitBy u hit s.writes → HitBy u hit (step s (Change w)).writes
  pub undo :
      (s : LogState) (u : ℕ) (hit : Write → Bool) (t : ℕ) (home : Place)
      (after : Option TableRow) (parts : List Part)
      → HitBy u hit s.writes → HitBy u hit (step s (Undo t home after parts)).writes
  pub commit :
      (s : LogState) (u : ℕ) (hit : Write → Bool) (t : ℕ)
      → HitBy u hit s.writes → HitBy u hit (step s (Commit t)).writes
  pub roll_back :
      (s : LogState) (u : ℕ) (hit : Write → Bool) (t : ℕ)
      → HitBy u hit s.writes → HitBy u hit (step s (RollBack t)).writes
  pub switch :
      (s : LogState) (u : ℕ) (hit : Write → Bool) (pages : List (List Slot))
      → HitBy u hit s.writes → HitBy u hit (step s (Switch pages)).writes
  -- once the unit has ended, none is left that meets the test
  pub committed :
      (s : LogState) (t : ℕ) (hit : Write → Bool)
      → HitBy t hit s.writes → NoneHit hit (step s (Commit t)).writes
  pub rolled_back :
      (s : LogState) (t : ℕ) (hit : Write → Bool)
      → HitBy t hit s.writes → NoneHit hit (step s (RollBack t)).writes
  -- where none does, they are of any unit
  pub free : (u : ℕ) (hit : Write → Bool) (ws : List Write) → NoneHit hit ws → HitBy u hit ws
  -- those of u are none of another unit's
  pub apart :
      (u t : ℕ) (hit : Write → Bool) (ws : List Write)
      → (u ≡ t → ⊥) → HitBy u hit ws → NoneHit hit (own_of t ws)

-- the test of a key is met by the writes of that key, and by no other
pub record KeysDiffer : Type 0 where
  pub own : (w : Write) → at_key w.key w ≡ true
  pub other : (k : ℕ) (w : Write) → (w.key ≡ k → ⊥) → at_key k w ≡ false
  pub same : (k : ℕ) (w : Write) → at_key k w ≡ true → w.key ≡ k

-- what each act makes of the writes of unit u
pub record OwnAfter : Type 0 where
  pub purge :
      (s : LogState) (u : ℕ) (parts : List Part)
      → own_of u (step s (Purge parts)).writes ≡ own_of u s.writes
  pub change :
      (s : LogState) (w : Write)
      → own_of w.written.owner (step s (Change w)).writes
      ≡ w ∷ own_of w.written.owner s.writes
  pub change_others :
      (s : LogState) (u : ℕ) (w : Write) → (w.written.owner ≡ u → ⊥)
      → own_of u (step s (Change w)).writes ≡ own_of u s.writes
  pub undo :
      (s : LogState) (t : ℕ) (home : Place) (after : Option TableRow) (parts : List Part)
      (w : Write) → latest_of t s.writes ≡ Some w
      → own_of t s.writes ≡ w ∷ own_of t (step s (Undo t home after parts)).writes
  pub undo_others :
      (s : LogState) (u t : ℕ) (home : Place) (after : Option TableRow) (parts : List Part)
      → (u ≡ t → ⊥)
      → own_of u (step s (Undo t home after parts)).writes ≡ own_of u s.writes
  pub commit : (s : LogState) (t : ℕ) → own_of t (step s (Commit t)).writes ≡ []
  pub commit_others :
      (s : LogState) (u t : ℕ) → (u ≡ t → ⊥)
      → own_of u (step s (Commit t)).writes ≡ own_of u s.writes
  pub roll_back : (s : LogState) (t : ℕ) → own_of t (step s (RollBack t)).writes ≡ []
  pub roll_back_others :
      (s : LogState) (u t : ℕ) → (u ≡ t → ⊥)
      → own_of u (step s (RollBack t)).writes ≡ own_of u s.writes
  pub switch :
      (s : LogState) (u : ℕ) (pages : List (List Slot))
      → own_of u (step s (Switch pages)).writes ≡ own_of u s.writes
  -- a unit's latest write is the first of its own
  pub latest : (t : ℕ) (ws : List Write) → latest_of t ws ≡ first_write (own_of t ws)
  pub owner :
      (t : ℕ) (ws : List Write) (w : Write) → latest_of t ws ≡ Some w → w.written.owner ≡ t
  -- a unit that is not live has none
  pub ended :
      (limit : ℕ) (s : LogState) (t : ℕ) → IsConsistent limit s → (IsLive s.live t → ⊥)
      → own_of t s.writes ≡ []

-- which units are live after an act, which have begun to be undone, and the greatest number
pub record UnitsAfter : Type 0 where
  pub begins :
      (s : LogState) (w : Write) (u : ℕ)
      → (IsLive (w.written.owner ∷ s.live) u → IsLive (step s (Change w)).live u)
      × (IsLive (step s (Change w)).live u → IsLive (w.written.owner ∷ s.live) u)
  pub same : (live : List ℕ) (t : ℕ) → IsLive (t ∷ live) t
  pub more : (live : List ℕ) (t u : ℕ) → IsLive live u → IsLive (t ∷ live) u
  pub known : (live : List ℕ) (t u : ℕ) → IsLive live t → IsLive (t ∷ live) u → IsLive live u
  pub other : (live : List ℕ) (t u : ℕ) → (u ≡ t → ⊥) → IsLive (t ∷ live) u → IsLive live u
  pub ends :
      (live : List ℕ) (t u : ℕ) → IsLive (others t live) u → IsLive live u × (u ≡ t → ⊥)
  pub stays : (live : List ℕ) (t u : ℕ) → (u ≡ t → ⊥) → IsLive live u → IsLive (others t live) u
  pub rolls :
      (s : LogState) (t u : ℕ) (home : Place) (after : Option TableRow) (parts : List Part)
      → (u ≡ t → ⊥) → is_in u (step s (Undo t home after parts)).rolling ≡ is_in u s.rolling
  pub top_same :
      (s : LogState) (w : Write) → w.written.owner ≤ s.top → (step s (Change w)).top ≡ s.top
  pub top_next :
      (s : LogState) (w : Write) → w.written.owner ≡ suc s.top
      → (step s (Change w)).top ≡ suc s.top

-- which units are open after an act, and so may write or commit
pub record OpenAfter : Type 0 where
  pub next : (limit : ℕ) (s : LogState) → IsConsistent limit s → MayBegin s (suc s.top)
  pub open_one : (s : LogState) (t : ℕ) → IsOpen s t → MayBegin s t
  pub begins :
      (limit : ℕ) (s : LogState) (w : Write) → Lawful limit s (Change w)
      → IsOpen (step s (Change w)) w.written.owner
  pub purge :
      (s : LogState) (u : ℕ) (parts : List Part) → IsOpen s u → IsOpen (step s (Purge parts)) u
  pub change : (s : LogState) (u : ℕ) (w : Write) → IsOpen s u → IsOpen (step s (Change w)) u
  pub undo :
      (s : LogState) (t u : ℕ) (home : Place) (after : Option TableRow) (parts : List Part)
      → (u ≡ t → ⊥) → IsOpen s u → IsOpen (step s (Undo t home after parts)) u
  pub commit :
      (s : LogState) (t u : ℕ) → (u ≡ t → ⊥) → IsOpen s u → IsOpen (step s (Commit t)) u
  pub roll_back :
      (s : LogState) (t u : ℕ) → (u ≡ t → ⊥) → IsOpen s u → IsOpen (step s (RollBack t)) u

-- no write meets a test, and so it stays
pub record NoneAfter : Type 0 where
  pub change :
      (s : LogState) (hit : Write → Bool) (w : Write) → hit w ≡ false
      → NoneHit hit s.writes → NoneHit hit (step s (Change w)).writes
  pub undo :
      (s : LogState) (hit : Write → Bool) (t : ℕ) (home : Place) (after : Option TableRow)
      (parts : List Part) → NoneHit hit s.writes
      → NoneHit hit (step s (Undo t home after parts)).writes
  pub commit :
      (s : LogState) (hit : Write → Bool) (t : ℕ) → NoneHit hit s.writes
      → NoneHit hit (step s (Commit t)).writes
  pub roll_back :
      (s : LogState) (hit : Write → Bool) (t : ℕ) → NoneHit hit s.writes
      → NoneHit hit (step s (RollBack t)).writes
  pub own :
      (hit : Write → Bool) (t : ℕ) (ws : List Write) → NoneHit hit ws → NoneHit hit (own_of t ws)

-- a lawful Undo is that of the unit's latest write, and its pages are those of that undo
abbrev pub UndoLeaves : Type 0
UndoLeaves =
    (limit : ℕ) (s : LogState) (t : ℕ) (home : Place) (after : Option TableRow)
    (parts : List Part) (w : Write)
    → Lawful limit s (Undo t home after parts) → latest_of t s.writes ≡ Some w
    → (home ≡ w.written.home) × (after ≡ w.written.before)
    × (parts ≡ (planned_undo s.pages w.written).parts)
    × ((step s (Undo t home after parts)).pages ≡ undone s.pages w.written)

-- a whole rollback: committed rows where only this unit has written, and the rest as it was
abbrev pub RollbackRows : Type 0
RollbackRows =
    (limit : ℕ) (s : LogState) (t : ℕ) (undos : List Act) → IsConsistent limit s
    → AreUndos t undos → Runs limit s (RollBack t ∷ undos) → (k : ℕ)
    → (HitBy t (at_key k) s.writes
    → (state s (RollBack t ∷ undos)).now k ≡ stored_of s k)
    × (NoneHit (at_key k) (own_of t s.writes)
    → (state s (RollBack t ∷ undos)).now k ≡ s.now k)
    × (stored_of (state s (RollBack t ∷ undos)) k ≡ stored_of s k)

-- the Undos of a unit's writes, after acts that are there already, and its RollBack are lawful
pub record RollbackRuns : Type 0 where
  pub runs :
      (limit : ℕ) (first : LogState) (t : ℕ) (acts : List Act) → Runs limit first acts
      → IsLive (state first acts).live t
      → Runs limit first (RollBack t
      ∷ undos_from t (state first acts).pages (own_of t (state first acts).writes) acts)
  pub are :
      (t : ℕ) (pages : List (List Slot)) (ws : List Write)
      → AreUndos t (undos_from t pages ws [])
  pub joins :
      (t : ℕ) (pages : List (List Slot)) (ws : List Write) (acts : List Act)
      → undos_from t pages ws acts ≡ undos_from t pages ws [] ++ acts

-- and its pages are those that the undo of the unit leaves
abbrev pub RollbackPages : Type 0
RollbackPages =
    (limit : ℕ) (s : LogState) (t : ℕ) (undos : List Act) → IsConsistent limit s
    → AreUndos t undos → Runs limit s (RollBack t ∷ undos)
    → (state s (RollBack t ∷ undos)).pages
    ≡ undone_all s.pages (written_of (own_of t s.writes))

-- what undo needs, in every consistent state: proper pages within the limit, and every write of a
-- unit can be undone
abbrev pub UnitsUndo : Type 0
UnitsUndo =
    (limit : ℕ) (s : LogState) (t : ℕ) → IsConsistent limit s
    → Proper s.pages × (length s.pages ≤ limit)
    × AllUndoable None (slot_of s.pages) (written_of (own_of t s.writes))
