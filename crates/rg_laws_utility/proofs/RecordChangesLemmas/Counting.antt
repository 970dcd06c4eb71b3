-- Undos make one change for each write that they undo.
use Rattle.std.proofs.Common.{◌≡◌, ◌+◌, ◌++◌, ℕ, List, [], ◌∷◌, Option, length, refl, sym, ◌∙◌, ap}
use Rattle.std.proofs.Common.{subst, arith, append_assoc, length-append}
use Rattle.rg_base.specs.declared.change.Change.{Change}
use Rattle.rg_base.specs.declared.place.Place.{Place}
use Rattle.rg_base.specs.declared.position.Position.{Position}
use Rattle.rg_base.specs.declared.row.Row.{Row}
use Rattle.rg_laws_log.specs.LogState.Act.{Act, LogState, state, step}
use Rattle.rg_laws_log.specs.LogState.Act.{Purge, Change as ChangeAct, Undo, Commit, RollBack}
use Rattle.rg_laws_log.specs.LogState.Act.{Switch}
use Rattle.rg_laws_log.specs.LogState.Closing.{AreUndos}
use Rattle.rg_laws_log.specs.LogState.Lawful.{Lawful, Runs}
use Rattle.rg_laws_log.specs.LogState.Records.{act_of_kind, act_of, acts_of}
use Rattle.rg_laws_log.specs.LogState.Write.{Write, less_of, own_of}
use Rattle.rg_laws_log.proofs.LogStateLemmas.Own.{own_less}
use Rattle.rg_laws_log.proofs.LogStateLemmas.Runs.{runs_rest, runs_shorter, state_joined}
use Rattle.rg_laws_log.proofs.StoredRowsLemmas.Stores.{acts_join}
use Rattle.rg_record.specs.declared.record.Record.{Record}
use Rattle.rg_record.specs.declared.record.Kind.{Kind}
use Rattle.rg_record.specs.declared.record.Kind.TheVariants as kind
use Rattle.rg_laws_utility.specs.RecordChanges.Changed.{changes_at, changes_in}
use Rattle.rg_laws_utility.specs.RecordChanges.Laws.{told_before, told_by}

pub undos_front : (t : ℕ) (more acts : List Act) → AreUndos t (more ++ acts)
    → AreUndos t more × AreUndos t acts
undos_front t [] acts are = (tt, are)
undos_front t (Undo u home after parts ∷ more) acts are =
    ((are.0, (undos_front t more acts are.1).0), (undos_front t more acts are.1).1)
undos_front t (Purge parts ∷ more) acts are = absurd are
undos_front t (ChangeAct w ∷ more) acts are = absurd are
undos_front t (Commit u ∷ more) acts are = absurd are
undos_front t (RollBack u ∷ more) acts are = absurd are
undos_front t (Switch pages ∷ more) acts are = absurd are

-- one record
one_undo : (limit : ℕ) (s : LogState) (t u : ℕ) (position : Position) (k : Kind)
    → AreUndos t (act_of_kind [] u k ∷ []) → Lawful limit s (act_of_kind [] u k)
    → length (own_of t (step s (act_of_kind [] u k)).writes) + length (changes_at position k)
    ≡ length (own_of t s.writes)
one_undo limit s t u position (kind.Undo next home after parts) are may =
    let fewer = ap (λ (ws : List Write). length ws) (own_less u s.writes may.write may.latest) in
    subst
    (λ (n : ℕ). length (own_of n (step s (Undo u home after parts)).writes) + 1
    ≡ length (own_of n s.writes)) are.0 (omega (arith, fewer))
one_undo limit s t u position (kind.Change home before after parts) are may = absurd are
one_undo limit s t u position kind.Commit are may = absurd are
one_undo limit s t u position kind.RolledBack are may = absurd are
one_undo limit s t u position (kind.Purge parts) are may = absurd are
one_undo limit s t u position (kind.Switch copy pages) are may = absurd are

pub undos_counted : (limit : ℕ) (s : LogState) (t : ℕ) (records : List Record)
    → AreUndos t (acts_of [] records) → Runs limit s (acts_of [] records)
    → length (own_of t (state s (acts_of [] records)).writes) + length (changes_in records)
    ≡ length (own_of t s.writes)
undos_counted limit s t [] are runs = omega arith
undos_counted limit s t (entry ∷ records) are runs =
    let act = act_of [] entry in
    let joined : acts_of [] (entry ∷ records) ≡ acts_of [] records ++ act ∷ [] =
    acts_join (entry ∷ []) records in
    let each = undos_front t (acts_of [] records) (act ∷ []) (subst (AreUndos t) joined are) in
    let all : Runs limit s (acts_of [] records ++ act ∷ []) = subst (Runs limit s) joined runs in
    let one = one_undo limit s t entry.tran.0 entry.position entry.kind each.1
    (runs_shorter limit s (acts_of [] records) (act ∷ []) all).0 in
    let rest = undos_counted limit (step s act) t records each.0
    (runs_rest limit s (acts_of [] records) (act ∷ []) all) in
    let left = ap (λ (x : LogState). length (own_of t x.writes))
    (ap (state s) joined ∙ state_joined s (acts_of [] records) (act ∷ [])) in
    omega (
      arith,
      one,
      rest,
      left,
      length-append (changes_at entry.position entry.kind) (changes_in records),
    )

-- ---- what they tell

told_join : (xs ys : List Change) → told_by (xs ++ ys) ≡ told_by xs ++ told_by ys
told_join [] ys = refl
told_join (x ∷ xs) ys =
    ap (λ (told : List (Place × Option Row)). (x.home, x.after) ∷ told) (told_join xs ys)

one_told : (limit : ℕ) (s : LogState) (t u : ℕ) (position : Position) (k : Kind)
    → AreUndos t (act_of_kind [] u k ∷ []) → Lawful limit s (act_of_kind [] u k)
    → told_by (changes_at position k) ++ told_before (own_of t (step s (act_of_kind [] u k)).writes)
    ≡ told_before (own_of t s.writes)
one_told limit s t u position (kind.Undo next home after parts) are may =
    let left = told_before (own_of u (less_of u s.writes)) in
    subst
    (λ (n : ℕ). (home, after) ∷ told_before (own_of n (less_of u s.writes))
    ≡ told_before (own_of n s.writes)) are.0
    (ap (λ (h : Place). (h, after) ∷ left) may.at
    ∙ ap (λ (x : Option Row). (may.write.written.home, x) ∷ left) may.row
    ∙ ap told_before (sym (own_less u s.writes may.write may.latest)))
one_told limit s t u position (kind.Change home before after parts) are may = absurd are
one_told limit s t u position kind.Commit are may = absurd are
one_told limit s t u position kind.RolledBack are may = absurd are
one_told limit s t u position (kind.Purge parts) are may = absurd are
one_told limit s t u position (kind.Switch copy pages) are may = absurd are

pub undos_told : (limit : ℕ) (s : LogState) (t : ℕ) (records : List Record)
    → AreUndos t (acts_of [] records) → Runs limit s (acts_of [] records)
    → told_by (changes_in records) ++ told_before (own_of t (state s (acts_of [] records)).writes)
    ≡ told_before (own_of t s.writes)
undos_told limit s t [] are runs = refl
undos_told limit s t (entry ∷ records) are runs =
    let act = act_of [] entry in
    let joined : acts_of [] (entry ∷ records) ≡ acts_of [] records ++ act ∷ [] =
    acts_join (entry ∷ []) records in
    let each = undos_front t (acts_of [] records) (act ∷ []) (subst (AreUndos t) joined are) in
    let all : Runs limit s (acts_of [] records ++ act ∷ []) = subst (Runs limit s) joined runs in
    let one = one_told limit s t entry.tran.0 entry.position entry.kind each.1
    (runs_shorter limit s (acts_of [] records) (act ∷ []) all).0 in
    let rest = undos_told limit (step s act) t records each.0
    (runs_rest limit s (acts_of [] records) (act ∷ []) all) in
    let first = told_by (changes_at entry.position entry.kind) in
    let left : LogState → List (Place × Option Row) =
    λ (x : LogState). told_before (own_of t x.writes) in
    ap (λ (x : LogState). told_by (changes_in (entry ∷ records)) ++ left x)
    (ap (state s) joined ∙ state_joined s (acts_of [] records) (act ∷ []))
    ∙ ap
    (λ (told : List (Place × Option Row)). told ++ left (state (step s act) (acts_of [] records)))
    (told_join (changes_at entry.position entry.kind) (changes_in records))
    ∙ append_assoc first (told_by (changes_in records))
    (left (state (step s act) (acts_of [] records)))
    ∙ ap (λ (told : List (Place × Option Row)). first ++ told) rest
    ∙ one
