-- The state that a whole rollback leaves.
use Rattle.std.proofs.Common.{◌≡◌, ◌==◌, ◌≤◌, ℕ, Bool, true, false, not, List, [], ◌∷◌, Some, refl}
use Rattle.std.proofs.Common.{◌∙◌, ap, subst, arith}
use Rattle.rg_base.specs.declared.place.Place.{Place}
use Rattle.rg_laws_pages.specs.ByteClaims.Claim.{claimed_all}
use Rattle.rg_laws_pages.proofs.ByteClaimsLemmas.Undo.{undo_claims}
use Rattle.rg_home.specs.Able.{CanUndo, Undoable}
use Rattle.rg_home.specs.Pages.{slot_of}
use Rattle.rg_home.specs.Slot.{Slot}
use Rattle.rg_home.specs.Undo.{undone}
use Rattle.rg_laws_log.specs.LogState.Act.{Act, LogState, is_in, not_of, others, state, step}
use Rattle.rg_laws_log.specs.LogState.Act.{Purge, Change, Undo, Commit, RollBack, Switch}
use Rattle.rg_laws_log.specs.LogState.Closing.{AreUndos}
use Rattle.rg_laws_log.specs.LogState.Consistent.{IsConsistent}
use Rattle.rg_laws_log.specs.LogState.Lawful.{MayUndo, Runs}
use Rattle.rg_laws_log.specs.LogState.Write.{Write, kept_if, kept_of, latest_if, latest_of, less_if}
use Rattle.rg_laws_log.specs.LogState.Write.{less_of, written_of}
use Rattle.rg_laws_log.proofs.LogStateLemmas.Hits.{latest_owner, some_is}
use Rattle.rg_laws_log.proofs.LogStateLemmas.Live.{in_others}
use Rattle.rg_laws_log.proofs.LogStateLemmas.Rolls.{rollback_rows, undo_leaves}
use Rattle.rg_laws_log.proofs.LogStateLemmas.Runs.{runs_consistent}
use Rattle.rg_engine.specs.Ended.{HasEnded}

-- other units' writes are not touched
kept_less : (t : ℕ) (ws : List Write) → kept_of (not_of t) (less_of t ws) ≡ kept_of (not_of t) ws
kept_less t [] = refl
kept_less t (w ∷ ws) = go (w.written.owner == t) refl (kept_less t ws)
  where
    go : (b : Bool) → (w.written.owner == t) ≡ b
        → kept_of (not_of t) (less_of t ws) ≡ kept_of (not_of t) ws
        → kept_of (not_of t) (less_if b w ws (less_of t ws))
        ≡ kept_if (not b) w (kept_of (not_of t) ws)
    go true e rest = refl
    go false e rest = ap (λ (b : Bool). kept_if (not b) w (kept_of (not_of t) (less_of t ws))) e
        ∙ ap (λ (xs : List Write). w ∷ xs) rest

-- what Undos of a unit leave as it was
pub record HasUndone (t : ℕ) (s left : LogState) : Type 0 where
  pub kept : kept_of (not_of t) left.writes ≡ kept_of (not_of t) s.writes
  pub live : left.live ≡ s.live
  pub top : left.top ≡ s.top
  pub steady : (u : ℕ) → (u ≡ t → ⊥) → is_in u s.rolling ≡ false → is_in u left.rolling ≡ false

pub undos_leave : (t : ℕ) (s : LogState) (undos : List Act) → AreUndos t undos
    → HasUndone t s (state s undos)
undos_leave t s [] are = record { kept = refl; live = refl; top = refl; steady = λ u n e. e }
undos_leave t s (Undo v home after parts ∷ acts) are =
    let rest = undos_leave t s acts are.1 in
    record {
      kept = ap (λ (x : ℕ). kept_of (not_of t) (less_of x (state s acts).writes)) are.0
          ∙ kept_less t (state s acts).writes ∙ rest.kept;
      live = rest.live;
      top = rest.top;
      steady =
          λ u n e. in_others (state s acts).rolling v u (λ f. n (f ∙ are.0)) ∙ rest.steady u n e;
    }
undos_leave t s (Purge parts ∷ acts) are = absurd are
undos_leave t s (Change w ∷ acts) are = absurd are
undos_leave t s (Commit v ∷ acts) are = absurd are
undos_leave t s (RollBack v ∷ acts) are = absurd are
undos_leave t s (Switch pages ∷ acts) are = absurd are

module _ (limit : ℕ) (s : LogState) (good : IsConsistent limit s) (t : ℕ) (undos : List Act)
    (are : AreUndos t undos) (runs : Runs limit s (RollBack t ∷ undos)) where
  pub rolled_back : HasEnded t s (state s (RollBack t ∷ undos))
  rolled_back =
      let undone_so = undos_leave t s undos are in
      record {
        writes = undone_so.kept;
        live = ap (others t) undone_so.live;
        stored = λ k none. (rollback_rows limit s good t undos are runs k).2;
        steady = undone_so.steady;
      }

-- an undo claims nothing more
can_latest : (live : List ℕ) (at : Place → Slot) (t : ℕ) (ws : List Write) (w : Write)
    → CanUndo live at (written_of ws) → latest_of t ws ≡ Some w
    → Undoable (Some w.written.owner) at w.written
can_latest live at t [] w can e = absurd (cc (e))
can_latest live at t (d ∷ ws) w can e =
    go (d.written.owner == t) e (can_latest live at t ws w can.2)
  where
    go : (b : Bool) → latest_if b d (latest_of t ws) ≡ Some w
        → (latest_of t ws ≡ Some w → Undoable (Some w.written.owner) at w.written)
        → Undoable (Some w.written.owner) at w.written
    go true e rest =
        subst (λ (v : Write). Undoable (Some v.written.owner) at v.written) (some_is d w e) can.0
    go false e rest = rest e

pub undos_claim : (limit : ℕ) (s : LogState) (t : ℕ) (holds : ℕ → Bool) (undos : List Act)
    → IsConsistent limit s → holds t ≡ true → AreUndos t undos → Runs limit s undos
    → claimed_all holds (state s undos).pages ≤ claimed_all holds s.pages
undos_claim limit s t holds [] good has are runs = omega arith
undos_claim limit s t holds (Undo v home after parts ∷ acts) good has are runs =
    let u : LogState = state s acts in
    let m : MayUndo u v home after parts = runs.0 in
    let now : IsConsistent limit u = runs_consistent limit s good acts runs.1 in
    let owner : m.write.written.owner ≡ v = latest_owner v u.writes m.write m.latest in
    let pages : (step u (Undo v home after parts)).pages ≡ undone u.pages m.write.written =
    (undo_leaves u v home after parts m.write m m.latest).3 in
    let less : claimed_all holds (undone u.pages m.write.written) ≤ claimed_all holds u.pages =
    undo_claims holds m.write.written u.pages (ap holds (owner ∙ are.0) ∙ has) now.ready.proper
    (can_latest u.live (slot_of u.pages) v u.writes m.write now.ready.can m.latest) in
    omega (
      arith,
      ap (claimed_all holds) pages,
      less,
      undos_claim limit s t holds acts good has are.1 runs.1,
    )
undos_claim limit s t holds (Purge parts ∷ acts) good has are runs = absurd are
undos_claim limit s t holds (Change w ∷ acts) good has are runs = absurd are
undos_claim limit s t holds (Commit v ∷ acts) good has are runs = absurd are
undos_claim limit s t holds (RollBack v ∷ acts) good has are runs = absurd are
undos_claim limit s t holds (Switch pages ∷ acts) good has are runs = absurd are
