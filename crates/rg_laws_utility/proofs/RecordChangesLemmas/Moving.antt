-- The changes of lawful records move the rows, in order.
use Rattle.std.proofs.Common.{◌≡◌, ◌≤◌, ◌+◌, ◌++◌, ℕ, suc, true, List, []}
use Rattle.std.proofs.Common.{◌∷◌, Option, Some, None, length, refl, sym, ◌∙◌, ap, subst, arith}
use Rattle.rg_base.specs.declared.change.Change.{Change}
use Rattle.rg_base.specs.declared.part.Part.{Part}
use Rattle.rg_base.specs.declared.place.Place.{Place}
use Rattle.rg_base.specs.declared.position.Position.{Position}
use Rattle.rg_base.specs.declared.row.Row.{Row}
use Rattle.rg_home.specs.Pages.{slot_of}
use Rattle.rg_base.proofs.SamePlace.{same_place-sym}
use Rattle.rg_home.specs.Rows.{ChangesHome, row_at}
use Rattle.rg_home.specs.Slot.{Slot}
use Rattle.rg_home.specs.Undo.{planned_undo, undone}
use Rattle.rg_home.proofs.Planned.{purge_buries}
use Rattle.rg_home.proofs.Purge.{buried_rows}
use Rattle.rg_home.proofs.NoPages.{row_none}
use Rattle.rg_laws_pages.proofs.UndoRoomLemmas.Next.{undo_does}
use Rattle.rg_laws_log.specs.LogState.Act.{LogState, state, step}
use Rattle.rg_laws_log.specs.LogState.Act.{Purge, Change as ChangeAct, Undo, Switch}
use Rattle.rg_laws_log.specs.LogState.Consistent.{IsConsistent}
use Rattle.rg_laws_log.specs.LogState.Lawful.{Lawful, MayPurge, MaySwitch, MayUndo, Runs}
use Rattle.rg_laws_log.specs.LogState.Records.{act_of_kind, act_of, acts_of}
use Rattle.rg_laws_log.specs.LogState.Write.{write_of}
use Rattle.rg_laws_log.proofs.LogStateLemmas.Hits.{latest_owner}
use Rattle.rg_laws_log.proofs.LogStateLemmas.KeptUndo.{latest_undoable}
use Rattle.rg_laws_log.proofs.LogStateLemmas.Runs.{runs_consistent, runs_rest, runs_shorter}
use Rattle.rg_laws_log.proofs.LogStateLemmas.Runs.{state_joined}
use Rattle.rg_laws_log.proofs.StoredRowsLemmas.Stores.{acts_join}
use Rattle.rg_record.specs.declared.record.Record.{Record}
use Rattle.rg_record.specs.declared.record.Kind.{Kind}
use Rattle.rg_record.specs.declared.record.Kind.TheVariants as kind
use Rattle.rg_feed.specs.SentItems.Keeps.{AreAbove, MovesRows, Rows}
use Rattle.rg_laws_utility.specs.RecordChanges.Changed.{changes_at, changes_in}
use Rattle.rg_laws_utility.specs.RecordChanges.Laws.{AreNumbered}

-- the rows of a state
abbrev pub rows_of : LogState → Rows
rows_of s = row_at (slot_of s.pages)

-- ---- one after another

moves_from : (made : List Change) (a b c : Rows) → ((place : Place) → b place ≡ a place)
    → MovesRows made b c → MovesRows made a c
moves_from [] a b c same moves = λ place. moves place ∙ same place
moves_from (change ∷ made) a b c same moves = (
  moves.0,
  record { here = moves.1.here; others = λ place apart. moves.1.others place apart ∙ same place },
  moves.2,
)

moves_join : (made more : List Change) (a b c : Rows) → MovesRows made a b → MovesRows more b c
    → MovesRows (made ++ more) a c
moves_join [] more a b c first second = moves_from more a b c first second
moves_join (change ∷ made) more a b c first second =
    (first.0, first.1, moves_join made more first.0 b c first.2 second)

-- ---- one record

one_move : (position : Position) (home : Place) (after : Option Row) (old new : List (List Slot))
    → ChangesHome (slot_of old) (slot_of new) home after
    → MovesRows (record { position = position; home = home; after = after } ∷ [])
    (row_at (slot_of old)) (row_at (slot_of new))
one_move position home after old new changes = (
  row_at (slot_of new),
  record {
    here = changes.here;
    others = λ place apart. changes.others place (same_place-sym home place apart);
  },
  λ place. refl,
)

module _ (limit : ℕ) (s : LogState) (good : IsConsistent limit s) (position : Position) where
  purge_moves : (parts : List Part) → MayPurge s parts → (place : Place)
      → rows_of (step s (Purge parts)) place ≡ rows_of s place
  purge_moves parts may place =
      subst (λ (ps : List Part). rows_of (step s (Purge ps)) place ≡ rows_of s place) (sym may.is)
      (buried_rows (slot_of s.pages) _
      (purge_buries 0 _ may.more s.pages good.ready.proper.tied may.page true may.low)
      good.ready.proper.tied place)

  undo_moves : (t : ℕ) (home : Place) (after : Option Row) (parts : List Part)
      → MayUndo s t home after parts
      → MovesRows (record { position = position; home = home; after = after } ∷ []) (rows_of s)
      (rows_of (step s (Undo t home after parts)))
  undo_moves t home after parts may =
      let w = may.write in
      let c = w.written in
      let does : ChangesHome (slot_of s.pages) (slot_of (undone s.pages c)) c.home c.before =
      undo_does c s.pages good.ready.proper (latest_undoable limit s good t w may.latest) in
      let of_t : ChangesHome (slot_of s.pages)
      (slot_of (step s (Undo t c.home c.before (planned_undo s.pages c).parts)).pages) c.home
      c.before =
      subst
      (λ (u : ℕ). ChangesHome (slot_of s.pages)
      (slot_of (step s (Undo u c.home c.before (planned_undo s.pages c).parts)).pages) c.home
      c.before) (latest_owner t s.writes w may.latest) does in
      one_move position home after s.pages (step s (Undo t home after parts)).pages (subst
      (λ (ps : List Part). ChangesHome (slot_of s.pages)
      (slot_of (step s (Undo t home after ps)).pages) home after) (sym may.is) (subst
      (λ (x : Option Row). ChangesHome (slot_of s.pages)
      (slot_of (step s (Undo t home x (planned_undo s.pages c).parts)).pages) home x) (sym may.row)
      (subst
      (λ (h : Place). ChangesHome (slot_of s.pages)
      (slot_of (step s (Undo t h c.before (planned_undo s.pages c).parts)).pages) h c.before)
      (sym may.at) of_t)))

  -- a Switch to no pages comes only where there are no rows
  switch_moves : MaySwitch limit s [] → (place : Place)
      → rows_of (step s (Switch [])) place ≡ rows_of s place
  switch_moves may place = go (rows_of s place) refl
    where
      go : (o : Option Row) → rows_of s place ≡ o → row_at (slot_of []) place ≡ rows_of s place
      go None e = row_none place ∙ sym e
      go (Some row) e =
          let placed = may.table.placed row.key row (good.table.there place row e) in
          absurd (cc (placed.2, row_none placed.1))

  kind_moves : (t : ℕ) (k : Kind) → Lawful limit s (act_of_kind [] t k)
      → MovesRows (changes_at position k) (rows_of s) (rows_of (step s (act_of_kind [] t k)))
  kind_moves t (kind.Change home before after parts) may = one_move position home after s.pages
      (step s (ChangeAct (write_of t home before after parts))).pages may.makes.changes
  kind_moves t (kind.Undo next home after parts) may = undo_moves t home after parts may
  kind_moves t kind.Commit may = λ place. refl
  kind_moves t kind.RolledBack may = λ place. refl
  kind_moves t (kind.Purge parts) may = purge_moves parts may
  kind_moves t (kind.Switch copy pages) may = switch_moves may

-- ---- all records

pub changes_move : (limit : ℕ) (s : LogState) (records : List Record) → IsConsistent limit s
    → Runs limit s (acts_of [] records)
    → MovesRows (changes_in records) (rows_of s) (rows_of (state s (acts_of [] records)))
changes_move limit s [] good runs = λ place. refl
changes_move limit s (entry ∷ records) good runs =
    let act = act_of [] entry in
    let joined : acts_of [] (entry ∷ records) ≡ acts_of [] records ++ act ∷ [] =
    acts_join (entry ∷ []) records in
    let all : Runs limit s (acts_of [] records ++ act ∷ []) = subst (Runs limit s) joined runs in
    let one : Runs limit s (act ∷ []) = runs_shorter limit s (acts_of [] records) (act ∷ []) all in
    let rest : Runs limit (step s act) (acts_of [] records) =
    runs_rest limit s (acts_of [] records) (act ∷ []) all in
    let mid : IsConsistent limit (step s act) = runs_consistent limit s good (act ∷ []) one in
    subst (λ (x : LogState). MovesRows (changes_in (entry ∷ records)) (rows_of s) (rows_of x))
    (sym (ap (state s) joined ∙ state_joined s (acts_of [] records) (act ∷ [])))
    (moves_join (changes_at entry.position entry.kind) (changes_in records) (rows_of s)
    (rows_of (step s act)) (rows_of (state (step s act) (acts_of [] records)))
    (kind_moves limit s good entry.position entry.tran.0 entry.kind one.0)
    (changes_move limit (step s act) records mid rest))

-- ---- positions

above_join : (last mid later : ℕ) (made more : List Change) → AreAbove last mid made
    → AreAbove mid later more → AreAbove last later (made ++ more)
above_join last mid later [] more first second = above_from last mid later more first second
  where
    above_from : (last mid later : ℕ) (more : List Change) → last ≤ mid → AreAbove mid later more
        → AreAbove last later more
    above_from last mid later [] low above = omega (arith, low, above)
    above_from last mid later (change ∷ more) low above = (omega (arith, low, above.0), above.1)
above_join last mid later (change ∷ made) more first second =
    (first.0, above_join change.position.0 mid later made more first.1 second)

kind_above : (last : ℕ) (position : Position) (k : Kind) → position.0 ≡ last + 1
    → AreAbove last (last + 1) (changes_at position k)
kind_above last position (kind.Change home before after parts) is =
    (omega (arith, is), omega (arith, is))
kind_above last position (kind.Undo next home after parts) is =
    (omega (arith, is), omega (arith, is))
kind_above last position kind.Commit is = omega arith
kind_above last position kind.RolledBack is = omega arith
kind_above last position (kind.Purge parts) is = omega arith
kind_above last position (kind.Switch copy pages) is = omega arith

pub changes_above : (last : ℕ) (records : List Record) → AreNumbered last records
    → AreAbove last (last + length records) (changes_in records)
changes_above last [] numbered = omega arith
changes_above last (entry ∷ records) numbered =
    subst (λ (n : ℕ). AreAbove last n (changes_in (entry ∷ records))) (plus last (length records))
    (above_join last (last + 1) (last + 1 + length records) (changes_at entry.position entry.kind)
    (changes_in records)
    (kind_above last entry.position entry.kind numbered.0)
    (changes_above (last + 1) records numbered.1))
  where
    plus : (a n : ℕ) → a + 1 + n ≡ a + suc n
    plus a n = omega arith
