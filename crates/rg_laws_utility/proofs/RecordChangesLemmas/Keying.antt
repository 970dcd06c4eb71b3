-- The keys of changes are not quiet: each is written by its record, or was written before.
use Rattle.std.proofs.Common.{◌≡◌, ◌==◌, ◌++◌, ℕ, Bool, true, false, List, [], ◌∷◌, Option, Some}
use Rattle.std.proofs.Common.{None, refl, sym, ◌∙◌, subst}
use Rattle.std.specs.List.{AllByRecursion}
use Rattle.std.proofs.lemmas.Bool.{eqb-true}
use Rattle.rg_base.specs.declared.part.Part.{Part}
use Rattle.rg_base.specs.declared.place.Place.{Place}
use Rattle.rg_base.specs.declared.position.Position.{Position}
use Rattle.rg_base.specs.declared.row.Row.{Row}
use Rattle.rg_base.proofs.Each.{Each-append}
use Rattle.rg_base.proofs.Small.{nat_itself}
use Rattle.rg_laws_log.specs.LogState.Act.{LogState, not_of, step}
use Rattle.rg_laws_log.specs.LogState.Consistent.{IsConsistent}
use Rattle.rg_laws_log.specs.LogState.Lawful.{Lawful, MayUndo, Runs}
use Rattle.rg_laws_log.specs.LogState.Records.{act_of_kind, act_of, acts_of}
use Rattle.rg_laws_log.specs.LogState.Write.{IsOf, NoneHit, OfKey, Write, at_key, key_of, latest_if}
use Rattle.rg_laws_log.specs.LogState.Write.{latest_of, write_of}
use Rattle.rg_laws_log.proofs.LogStateLemmas.Free.{free_kept, free_less}
use Rattle.rg_laws_log.proofs.LogStateLemmas.Hits.{latest_key, some_is}
use Rattle.rg_laws_log.proofs.LogStateLemmas.Runs.{runs_consistent, runs_rest, runs_shorter}
use Rattle.rg_laws_log.proofs.StoredRowsLemmas.Stores.{acts_join}
use Rattle.rg_model.specs.Quiet.{is_quiet}
use Rattle.rg_record.specs.declared.record.Record.{Record}
use Rattle.rg_record.specs.declared.record.Kind.{Kind}
use Rattle.rg_record.specs.declared.record.Kind.TheVariants as kind
use Rattle.rg_feed.specs.SentItems.Keeps.{IsLoud}
use Rattle.rg_stmt.specs.declared.event.Entry.{Entry}
use Rattle.rg_laws_utility.specs.RecordChanges.Changed.{changes_at, changes_in}
use Rattle.rg_laws_utility.specs.RecordChanges.Laws.{WritesLoud}

-- the key of a row, where rows are of this key
key_is : (k : ℕ) (o : Option Row) → IsOf k o → (row : Row) → o ≡ Some row → row.key ≡ k
key_is k None of_key row e = absurd (cc (e))
key_is k (Some other) of_key row e = subst (IsOf k) e of_key

-- the latest write is one of them
latest_hit : (hit : Write → Bool) (t : ℕ) (ws : List Write) (w : Write) → latest_of t ws ≡ Some w
    → NoneHit hit ws → hit w ≡ false
latest_hit hit t [] w e none = absurd (cc (e))
latest_hit hit t (d ∷ ws) w e none =
    go (d.written.owner == t) e (λ f. latest_hit hit t ws w f none.1)
  where
    go : (b : Bool) → latest_if b d (latest_of t ws) ≡ Some w
        → (latest_of t ws ≡ Some w → hit w ≡ false) → hit w ≡ false
    go true e rest = subst (λ (v : Write). hit v ≡ false) (some_is d w e) none.0
    go false e rest = rest e

module _ (past : List Entry) where
  -- whatever is hit is not quiet
  abbrev AreHit : List Write → Type 0
  AreHit ws = (key : ℕ) → (NoneHit (at_key key) ws → ⊥) → is_quiet key past ≡ false

  -- a write more
  hit_more : (w : Write) (ws : List Write) → is_quiet w.key past ≡ false → AreHit ws
      → AreHit (w ∷ ws)
  hit_more w ws is hits key some = go (w.key == key) refl
    where
      go : (b : Bool) → (w.key == key) ≡ b → is_quiet key past ≡ false
      go true e = subst (λ (k : ℕ). is_quiet k past ≡ false) (eqb-true w.key key e) is
      go false e = hits key (λ none. some (e, none))

  module _ (limit : ℕ) (s : LogState) (good : IsConsistent limit s) (hits : AreHit s.writes) where
    kind_hits : (t : ℕ) (k : Kind) → Lawful limit s (act_of_kind [] t k) → WritesLoud past k
        → AreHit (step s (act_of_kind [] t k)).writes
    kind_hits t (kind.Change home before after parts) may is =
        hit_more (write_of t home before after parts) s.writes is hits
    kind_hits t (kind.Undo next home after parts) may is =
        λ key some. hits key (λ none. some (free_less (at_key key) t s.writes none))
    kind_hits t kind.Commit may is =
        λ key some. hits key (λ none. some (free_kept (at_key key) (not_of t) s.writes none))
    kind_hits t kind.RolledBack may is =
        λ key some. hits key (λ none. some (free_kept (at_key key) (not_of t) s.writes none))
    kind_hits t (kind.Purge parts) may is = hits
    kind_hits t (kind.Switch copy pages) may is = hits

    undo_key : (position : Position) (t : ℕ) (home : Place) (after : Option Row) (parts : List Part)
        → MayUndo s t home after parts
        → AllByRecursion (IsLoud past)
        (record { position = position; home = home; after = after } ∷ [])
    undo_key position t home after parts may =
        let w = may.write in
        let of_key : OfKey w = latest_key t s.writes w good.of_key may.latest in (
          (
            w.key,
            λ row e. key_is w.key w.written.before of_key.before row (sym may.row ∙ e),
            hits w.key
                (λ none. absurd
                (cc (latest_hit (at_key w.key) t s.writes w may.latest none, nat_itself w.key))),
          ),
          tt,
        )

    kind_keys : (position : Position) (t : ℕ) (k : Kind) → Lawful limit s (act_of_kind [] t k)
        → WritesLoud past k → AllByRecursion (IsLoud past) (changes_at position k)
    kind_keys position t (kind.Change home before after parts) may is = (
      (key_of before after, λ row e. key_is (key_of before after) after may.of_key.after row e, is),
      tt,
    )
    kind_keys position t (kind.Undo next home after parts) may is =
        undo_key position t home after parts may
    kind_keys position t kind.Commit may is = tt
    kind_keys position t kind.RolledBack may is = tt
    kind_keys position t (kind.Purge parts) may is = tt
    kind_keys position t (kind.Switch copy pages) may is = tt

pub changes_loud : (limit : ℕ) (s : LogState) (records : List Record) (past : List Entry)
    → IsConsistent limit s → Runs limit s (acts_of [] records)
    → ((key : ℕ) → (NoneHit (at_key key) s.writes → ⊥) → is_quiet key past ≡ false)
    → AllByRecursion (λ (entry : Record). WritesLoud past entry.kind) records
    → AllByRecursion (IsLoud past) (changes_in records)
changes_loud limit s [] past good runs hits writes = tt
changes_loud limit s (entry ∷ records) past good runs hits writes =
    let act = act_of [] entry in
    let joined : acts_of [] (entry ∷ records) ≡ acts_of [] records ++ act ∷ [] =
    acts_join (entry ∷ []) records in
    let all : Runs limit s (acts_of [] records ++ act ∷ []) = subst (Runs limit s) joined runs in
    let one : Runs limit s (act ∷ []) = runs_shorter limit s (acts_of [] records) (act ∷ []) all in
    let rest : Runs limit (step s act) (acts_of [] records) =
    runs_rest limit s (acts_of [] records) (act ∷ []) all in
    let mid : IsConsistent limit (step s act) = runs_consistent limit s good (act ∷ []) one in
    Each-append (IsLoud past) (changes_at entry.position entry.kind) (changes_in records)
    (kind_keys past limit s good hits entry.position entry.tran.0 entry.kind one.0 writes.0)
    (changes_loud limit (step s act) records past mid rest
    (kind_hits past limit s good hits entry.tran.0 entry.kind one.0 writes.0) writes.1)
