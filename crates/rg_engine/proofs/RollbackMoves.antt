-- How a rollback moves the rows: by its undos, one for each write.
use Rattle.std.proofs.Common.{◌≡◌, ◌+◌, ◌++◌, ℕ, List, [], ◌∷◌, Option, length, refl, sym, ◌∙◌, ap}
use Rattle.std.proofs.Common.{subst, arith, append-nil, length-append}
use Rattle.rg_laws_utility.specs.RecordChanges.Changed.{changes_at, changes_in, rows_after}
use Rattle.rg_laws_utility.specs.RecordChanges.Laws.{WritesLoud}
use Rattle.rg_laws_utility.specs.RecordChanges.Laws.{told_before, told_by}
use Rattle.rg_laws_utility.proofs.RecordChangesLemmas.Counting.{undos_counted, undos_told}
use Rattle.rg_laws_utility.proofs.RecordChangesLemmas.Counting.{undos_front}
use Rattle.rg_base.specs.declared.change.Change.{Change}
use Rattle.rg_base.specs.declared.place.Place.{Place}
use Rattle.rg_base.specs.declared.row.Row.{Row}
use Rattle.rg_engine.specs.Moves.{rows_before}
use Rattle.rg_laws_crash.proofs.LogChainLemmas.Telling.{acts_first}
use Rattle.rg_laws_log.specs.LogState.Act.{LogState, state}
use Rattle.rg_laws_log.specs.LogState.Closing.{AreUndos}
use Rattle.rg_laws_log.specs.LogState.Lawful.{Runs}
use Rattle.rg_laws_log.specs.LogState.Records.{act_of, act_of_kind, acts_of}
use Rattle.rg_laws_log.specs.LogState.Write.{Write, own_of}
use Rattle.rg_record.specs.declared.record.Kind.{Kind}
use Rattle.rg_record.specs.declared.record.Kind.TheVariants as kind
use Rattle.rg_record.specs.declared.record.Record.{Record}
use Rattle.rg_stmt.specs.declared.event.Entry.{Entry}
use Rattle.rg_engine.specs.Ended.{rolled_record}
use Rattle.rg_engine.specs.declared.units.OpenUnit.{OpenUnit}
use Rattle.rg_engine.proofs.Moving.{AllLoud}

-- Undos and the record of the unit's end write no key
undo_loud : (past : List Entry) (t u : ℕ) (k : Kind) → AreUndos t (act_of_kind [] u k ∷ [])
    → WritesLoud past k
undo_loud past t u (kind.Undo next home after parts) are = tt
undo_loud past t u (kind.Change home before after parts) are = absurd are
undo_loud past t u kind.Commit are = absurd are
undo_loud past t u kind.RolledBack are = absurd are
undo_loud past t u (kind.Purge parts) are = absurd are
undo_loud past t u (kind.Switch copy pages) are = absurd are

pub undos_loud :
    (past : List Entry) (t : ℕ) (more : List Record) (unit : OpenUnit) (position last : ℕ)
    → AreUndos t (acts_of [] more) → AllLoud past (more ++ rolled_record position last unit ∷ [])
undos_loud past t [] unit position last are = (tt, tt)
undos_loud past t (r ∷ more) unit position last are =
    let both = undos_front t (acts_of [] more) (act_of [] r ∷ [])
    (subst (AreUndos t) (acts_first r more) are) in
    (undo_loud past t r.tran.0 r.kind both.1, undos_loud past t more unit position last both.0)

changes_rolled : (more : List Record) (unit : OpenUnit) (position last : ℕ)
    → length (changes_in (more ++ rolled_record position last unit ∷ [])) ≡ length (changes_in more)
changes_rolled [] unit position last = refl
changes_rolled (r ∷ more) unit position last =
    length-append (changes_at r.position r.kind)
    (changes_in (more ++ rolled_record position last unit ∷ []))
    ∙ ap (λ (n : ℕ). length (changes_at r.position r.kind) + n)
    (changes_rolled more unit position last)
    ∙ sym (length-append (changes_at r.position r.kind) (changes_in more))

-- they are as many as the unit's writes, where none is left
pub undos_made :
    (limit : ℕ) (s : LogState) (unit : OpenUnit) (more : List Record) (position last : ℕ)
    → AreUndos unit.tran.0 (acts_of [] more) → Runs limit s (acts_of [] more)
    → own_of unit.tran.0 (state s (acts_of [] more)).writes ≡ []
    → length (own_of unit.tran.0 s.writes) ≡ unit.writes
    → length (changes_in (more ++ rolled_record position last unit ∷ [])) ≡ unit.writes
undos_made limit s unit more position last are runs none count =
    omega (
      arith,
      changes_rolled more unit position last,
      undos_counted limit s unit.tran.0 more are runs,
      ap (λ (ws : List Write). length ws) none,
      count,
    )

-- their rows are those that the unit's writes found

rows_joined : (xs ys : List Change) → rows_after (xs ++ ys) ≡ rows_after xs ++ rows_after ys
rows_joined [] ys = refl
rows_joined (x ∷ xs) ys = ap (λ (rows : List (Option Row)). x.after ∷ rows) (rows_joined xs ys)

rows_rolled : (more : List Record) (unit : OpenUnit) (position last : ℕ)
    → rows_after (changes_in (more ++ rolled_record position last unit ∷ []))
    ≡ rows_after (changes_in more)
rows_rolled [] unit position last = refl
rows_rolled (r ∷ more) unit position last =
    rows_joined (changes_at r.position r.kind)
    (changes_in (more ++ rolled_record position last unit ∷ []))
    ∙ ap (λ (rows : List (Option Row)). rows_after (changes_at r.position r.kind) ++ rows)
    (rows_rolled more unit position last)
    ∙ sym (rows_joined (changes_at r.position r.kind) (changes_in more))

abbrev second_of : List (Place × Option Row) → List (Option Row)
second_of [] = []
second_of (x ∷ xs) = x.1 ∷ second_of xs

second_told : (changes : List Change) → second_of (told_by changes) ≡ rows_after changes
second_told [] = refl
second_told (change ∷ changes) =
    ap (λ (rows : List (Option Row)). change.after ∷ rows) (second_told changes)

second_before : (ws : List Write) → second_of (told_before ws) ≡ rows_before ws
second_before [] = refl
second_before (w ∷ ws) =
    ap (λ (rows : List (Option Row)). w.written.before ∷ rows) (second_before ws)

pub undos_rows :
    (limit : ℕ) (s : LogState) (unit : OpenUnit) (more : List Record) (position last : ℕ)
    → AreUndos unit.tran.0 (acts_of [] more) → Runs limit s (acts_of [] more)
    → own_of unit.tran.0 (state s (acts_of [] more)).writes ≡ []
    → rows_after (changes_in (more ++ rolled_record position last unit ∷ []))
    ≡ rows_before (own_of unit.tran.0 s.writes)
undos_rows limit s unit more position last are runs none =
    let t = unit.tran.0 in
    let told : told_by (changes_in more) ≡ told_before (own_of t s.writes) =
    sym (append-nil (told_by (changes_in more)))
    ∙ ap (λ (ws : List Write). told_by (changes_in more) ++ told_before ws) (sym none)
    ∙ undos_told limit s t more are runs in
    rows_rolled more unit position last
    ∙ sym (second_told (changes_in more))
    ∙ ap second_of told
    ∙ second_before (own_of t s.writes)
