-- The stored rows, as the list of acts shows them.
--
-- 1. A key's stored row is the row after its last Change whose unit has committed. It takes two
--    passes over the list to find it, and no state.
-- 2. It is the row that is there once all writes that are not yet undone are taken back. If some
--    open units committed now, it would be the row that is there once all others are taken back.
use Rattle.std.specs.Prelude.{◌≡◌, ◌==◌, ◌≤◌, ◌⊎◌, ◌||◌, ◌&&◌, ◌++◌, ℕ, suc, Bool, true, false, not}
use Rattle.std.specs.Prelude.{List, [], ◌∷◌, Option, None, if◌then◌else◌}
use Rattle.rg_base.specs.declared.row.Row.{Row as TableRow}
use Rattle.rg_home.specs.Able.{IsLive}
use Rattle.rg_laws_log.specs.LogState.Write.{at_key, kept_of, gone_back}
use Rattle.rg_laws_log.specs.LogState.Act.{Act, LogState, is_in, state}
use Rattle.rg_laws_log.specs.LogState.Act.{Purge, Change, Undo, Commit, RollBack, Switch}

-- a unit has committed
abbrev pub has_commit : ℕ → List Act → Bool
has_commit t [] = false
has_commit t (Commit u ∷ acts) = t == u || has_commit t acts
has_commit t (Purge parts ∷ acts) = has_commit t acts
has_commit t (Change w ∷ acts) = has_commit t acts
has_commit t (Undo u home after parts ∷ acts) = has_commit t acts
has_commit t (RollBack u ∷ acts) = has_commit t acts
has_commit t (Switch pages ∷ acts) = has_commit t acts

-- the row after the last Change of a key, by the units that count
abbrev pub last_of : (ℕ → Bool) → ℕ → List Act → Option TableRow
last_of counts k [] = None
last_of counts k (Change w ∷ acts) =
    if counts w.written.owner && w.key == k then w.after else last_of counts k acts
last_of counts k (Purge parts ∷ acts) = last_of counts k acts
last_of counts k (Undo u home after parts ∷ acts) = last_of counts k acts
last_of counts k (Commit u ∷ acts) = last_of counts k acts
last_of counts k (RollBack u ∷ acts) = last_of counts k acts
last_of counts k (Switch pages ∷ acts) = last_of counts k acts

-- the stored row of a key
abbrev pub stored_at : List Act → ℕ → Option TableRow
stored_at acts k = last_of (λ t. has_commit t acts) k acts

-- a unit that could commit now, or one that has not begun
abbrev pub MayCount : LogState → ℕ → Type 0
MayCount s u = (IsLive s.live u ⊎ (suc s.top ≤ u)) × (is_in u s.rolling ≡ false)

-- Over acts that were there already, and the state that they led to: a unit that has committed is
-- known and not live; and if these open units committed now, each key's stored row would be the
-- one that is there once all others are taken back.
pub record AgreesWith (first : LogState) (old acts : List Act) : Type 0 where
  pub ended :
      (u : ℕ) → has_commit u (acts ++ old) ≡ true
      → (IsLive (state first acts).live u → ⊥) × (u ≤ (state first acts).top)
  pub rows :
      (f : ℕ → Bool) → ((u : ℕ) → f u ≡ true → MayCount (state first acts) u) → (k : ℕ)
      → last_of (λ u. f u || has_commit u (acts ++ old)) k (acts ++ old)
      ≡ gone_back (at_key k) (kept_of (λ u. not (f u)) (state first acts).writes)
      ((state first acts).now k)
