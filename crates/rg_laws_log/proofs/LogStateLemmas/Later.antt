-- What follows an opening of any tested image.
use Rattle.std.proofs.Common.{◌≡◌, inl, inr, ◌⊎◌, ◌||◌, ◌&&◌, ◌==◌, ◌++◌, ℕ, ◌≤◌, suc, Bool, true}
use Rattle.std.proofs.Common.{false, not, List, [], ◌∷◌, Option, refl, ◌∙◌, ap, if◌then◌else◌}
use Rattle.std.proofs.Common.{arith}
use Rattle.std.proofs.lemmas.Bool.{eqb-true}
use Rattle.rg_base.specs.declared.row.Row.{Row as TableRow}
use Rattle.rg_home.specs.Slot.{Slot}
use Rattle.rg_home.specs.Written.{Written}
use Rattle.rg_home.specs.Able.{IsLive}
use Rattle.rg_laws_log.specs.LogState.Write.{Write, at_key, kept_of, gone_back}
use Rattle.rg_home.specs.Table.{IsTable}
use Rattle.rg_laws_log.specs.LogState.Act.{Act, LogState, state, Purge, Change, Undo, Commit}
use Rattle.rg_laws_log.specs.LogState.Act.{RollBack, Switch}
use Rattle.rg_laws_log.specs.LogState.Lawful.{Runs}
use Rattle.rg_laws_log.specs.LogState.Consistent.{base_of, stored_of, IsConsistent}
use Rattle.rg_laws_log.specs.LogState.Stored.{has_commit, last_of, stored_at, MayCount, AgreesWith}
use Rattle.rg_laws_log.specs.LogState.Tested.{Tested, opened, units_of, TakeInAll, LogBelow}
use Rattle.rg_home.proofs.Tables.{table_same}
use Rattle.rg_laws_log.proofs.LogStateLemmas.Keeps.{keeps}
use Rattle.rg_laws_log.proofs.LogStateLemmas.Agrees.{agrees_keeps, kept_all}
use Rattle.rg_laws_log.proofs.LogStateLemmas.Prefixes.{stored_table}
use Rattle.rg_laws_log.proofs.LogStateLemmas.Testing.{tested_consistent}
use Rattle.rg_laws_log.proofs.LogStateLemmas.Opens.{consistent_tested}

commit_below : (top u : ℕ) (acts : List Act) → LogBelow top acts → has_commit u acts ≡ true
    → u ≤ top
commit_below top u [] low e = absurd (cc (e))
commit_below top u (Commit t ∷ acts) low e = go (u == t) refl e (commit_below top u acts low.1)
  where
    go : (b : Bool) → (u == t) ≡ b → (b || has_commit u acts) ≡ true
        → (has_commit u acts ≡ true → u ≤ top) → u ≤ top
    go true f e rest = omega (arith, eqb-true u t f, low.0)
    go false f e rest = rest e
commit_below top u (Change w ∷ acts) low e = commit_below top u acts low.1 e
commit_below top u (Purge parts ∷ acts) low e = commit_below top u acts low e
commit_below top u (Undo t home after parts ∷ acts) low e = commit_below top u acts low e
commit_below top u (RollBack t ∷ acts) low e = commit_below top u acts low e
commit_below top u (Switch pages ∷ acts) low e = commit_below top u acts low e

last_old : (top : ℕ) (c d : ℕ → Bool) → ((u : ℕ) → u ≤ top → c u ≡ d u) → (k : ℕ) (acts : List Act)
    → LogBelow top acts → last_of c k acts ≡ last_of d k acts
last_old top c d e k [] low = refl
last_old top c d e k (Change w ∷ acts) low =
    ap (λ (b : Bool). if b && w.key == k then w.after else last_of c k acts)
    (e w.written.owner low.0)
    ∙ ap (λ (x : Option TableRow). if d w.written.owner && w.key == k then w.after else x)
    (last_old top c d e k acts low.1)
last_old top c d e k (Commit t ∷ acts) low = last_old top c d e k acts low.1
last_old top c d e k (Purge parts ∷ acts) low = last_old top c d e k acts low
last_old top c d e k (Undo t home after parts ∷ acts) low = last_old top c d e k acts low
last_old top c d e k (RollBack t ∷ acts) low = last_old top c d e k acts low
last_old top c d e k (Switch pages ∷ acts) low = last_old top c d e k acts low

agrees_first : (pages : List (List Slot)) (units : List (List Written)) (top : ℕ) (old : List Act)
    → LogBelow top old → AgreesWith (opened pages units (stored_at old) top) old []
agrees_first pages units top old low = record {
  ended = λ u e. ((λ l. cc (l)), commit_below top u old low e);
  rows = λ f may k. last_old top (λ u. f u || has_commit u old) (λ u. has_commit u old)
      (λ u l. none f u l (f u) refl (may u)) k old low;
}
  where
    none : (f : ℕ → Bool) (u : ℕ) → u ≤ top → (b : Bool) → f u ≡ b
        → (f u ≡ true → MayCount (opened pages units (stored_at old) top) u)
        → (f u || has_commit u old) ≡ has_commit u old
    none f u l true e may = absurd (new (may e).0)
      where
        new : (IsLive [] u ⊎ (suc top ≤ u)) → ⊥
        new (inl x) = cc (x)
        new (inr x) = omega (arith, x, l)
    none f u l false e may = ap (λ (b : Bool). b || has_commit u old) e

-- what holds of all that is appended
pub record GoesOn (limit : ℕ) (first : LogState) (old acts : List Act) : Type 0 where
  pub consistent : IsConsistent limit (state first acts)
  pub agrees : AgreesWith first old acts

goes_on : (limit : ℕ) (first : LogState) (old : List Act) → IsConsistent limit first
    → AgreesWith first old [] → (acts : List Act) → Runs limit first acts
    → GoesOn limit first old acts
goes_on limit first old good agrees [] runs = record { consistent = good; agrees = agrees }
goes_on limit first old good agrees (r ∷ acts) runs =
    go (goes_on limit first old good agrees acts runs.1)
  where
    go : GoesOn limit first old acts → GoesOn limit first old (r ∷ acts)
    go b = record {
      consistent = (keeps limit (state first acts) b.consistent r runs.0).1;
      agrees = agrees_keeps limit first old acts b.consistent b.agrees r runs.0;
    }

pub later :
    (limit : ℕ) (pages : List (List Slot)) (units : List (List Written)) (top : ℕ) (old : List Act)
    → Tested limit pages units (stored_at old) top → LogBelow top old → (acts : List Act)
    → Runs limit (opened pages units (stored_at old) top) acts
    → IsConsistent limit (state (opened pages units (stored_at old) top) acts)
    × IsTable (base_of (state (opened pages units (stored_at old) top) acts))
    (stored_at (acts ++ old))
    × ((ts : List ℕ) → TakeInAll ts (state (opened pages units (stored_at old) top) acts).writes
    → Tested limit (state (opened pages units (stored_at old) top) acts).pages
    (units_of ts (state (opened pages units (stored_at old) top) acts).writes)
    (stored_at (acts ++ old)) (state (opened pages units (stored_at old) top) acts).top)
later limit pages units top old tested low acts runs =
    let first = opened pages units (stored_at old) top in
    let b = goes_on limit first old (tested_consistent limit pages units (stored_at old) top tested)
    (agrees_first pages units top old low) acts runs in
    let stored : (k : ℕ) → stored_at (acts ++ old) k ≡ stored_of (state first acts) k =
    λ k. b.agrees.rows (λ u. false) (λ u e. absurd (cc (e))) k
    ∙ ap (λ (ws : List Write). gone_back (at_key k) ws ((state first acts).now k))
    (kept_all (state first acts).writes) in (
      b.consistent,
      table_same (base_of (state first acts)) (base_of (state first acts))
          (stored_of (state first acts)) (stored_at (acts ++ old)) (λ p. refl) stored
          (stored_table limit (state first acts) b.consistent),
      λ ts covers. consistent_tested limit (state first acts) b.consistent (stored_at (acts ++ old))
          stored ts covers,
    )

pub later_tells :
    (limit : ℕ) (pages : List (List Slot)) (units : List (List Written)) (top : ℕ) (old : List Act)
    → Tested limit pages units (stored_at old) top → LogBelow top old → (acts : List Act)
    → Runs limit (opened pages units (stored_at old) top) acts
    → (f : ℕ → Bool)
    → ((u : ℕ) → f u ≡ true → MayCount (state (opened pages units (stored_at old) top) acts) u)
    → (k : ℕ)
    → last_of (λ u. f u || has_commit u (acts ++ old)) k (acts ++ old)
    ≡ gone_back (at_key k)
    (kept_of (λ u. not (f u)) (state (opened pages units (stored_at old) top) acts).writes)
    ((state (opened pages units (stored_at old) top) acts).now k)
later_tells limit pages units top old tested low acts runs f may k =
    (goes_on limit (opened pages units (stored_at old) top) old
    (tested_consistent limit pages units (stored_at old) top tested)
    (agrees_first pages units top old low) acts runs).agrees.rows f may k

pub later_stored :
    (limit : ℕ) (pages : List (List Slot)) (units : List (List Written)) (top : ℕ) (old : List Act)
    → Tested limit pages units (stored_at old) top → LogBelow top old → (acts : List Act)
    → Runs limit (opened pages units (stored_at old) top) acts
    → (k : ℕ)
    → stored_at (acts ++ old) k ≡ stored_of (state (opened pages units (stored_at old) top) acts) k
later_stored limit pages units top old tested low acts runs k =
    later_tells limit pages units top old tested low acts runs (λ u. false) (λ u e. absurd (cc (e)))
    k
    ∙ ap
    (λ (ws : List Write). gone_back (at_key k) ws
    ((state (opened pages units (stored_at old) top) acts).now k))
    (kept_all (state (opened pages units (stored_at old) top) acts).writes)
