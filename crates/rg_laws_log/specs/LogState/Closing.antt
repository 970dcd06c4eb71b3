-- How open units are ended without a commit.
--
-- 1. A unit is rolled back by an Undo for each of its writes, the latest first, and a RollBack. An
--    opening does so with each open unit, one after another, in any order.
use Rattle.std.specs.Prelude.{◌≡◌, ℕ, List, [], ◌∷◌, ◌++◌}
use Rattle.rg_home.specs.Slot.{Slot}
use Rattle.rg_home.specs.Able.{IsLive}
use Rattle.rg_home.specs.Undo.{planned_undo, undone}
use Rattle.rg_laws_log.specs.LogState.Write.{Write, kept_of, own_of}
use Rattle.rg_laws_log.specs.LogState.Act.{Act, LogState, nothing, others, not_of, state}
use Rattle.rg_laws_log.specs.LogState.Act.{Purge, Change, Undo, Commit, RollBack, Switch}
use Rattle.rg_laws_log.specs.LogState.Lawful.{Runs}

-- all of these are Undos of one unit
abbrev pub AreUndos : ℕ → List Act → Type 0
AreUndos t [] = Unit {0}
AreUndos t (Undo u home after parts ∷ acts) = (u ≡ t) × AreUndos t acts
AreUndos t (Purge parts ∷ acts) = ⊥
AreUndos t (Change w ∷ acts) = ⊥
AreUndos t (Commit u ∷ acts) = ⊥
AreUndos t (RollBack u ∷ acts) = ⊥
AreUndos t (Switch pages ∷ acts) = ⊥

-- the Undos of these writes of a unit, before the acts that are there already, where each finds the
-- pages that the one before left
abbrev pub undos_from : ℕ → List (List Slot) → List Write → List Act → List Act
undos_from t pages [] acts = acts
undos_from t pages (w ∷ ws) acts =
    undos_from t (undone pages w.written) ws
    (Undo t w.written.home w.written.before (planned_undo pages w.written).parts ∷ acts)

-- all of these are Undos or RollBacks
abbrev pub IsClosing : List Act → Type 0
IsClosing [] = Unit {0}
IsClosing (Undo t home after parts ∷ acts) = IsClosing acts
IsClosing (RollBack t ∷ acts) = IsClosing acts
IsClosing (Purge parts ∷ acts) = ⊥
IsClosing (Change w ∷ acts) = ⊥
IsClosing (Commit t ∷ acts) = ⊥
IsClosing (Switch pages ∷ acts) = ⊥

-- such acts, each lawful, lead from the log to a state of which P holds
pub record Closes (limit : ℕ) (acts : List Act) (P : LogState → Type 0) : Type 0 where
  pub more : List Act
  pub closing : IsClosing more
  pub runs : Runs limit nothing (more ++ acts)
  pub reached : P (state nothing (more ++ acts))

-- the units that are left without these
abbrev pub all_others : List ℕ → List ℕ → List ℕ
all_others [] us = us
all_others (t ∷ ts) us = all_others ts (others t us)

-- each of these is live at its turn
abbrev pub LiveInTurn : List ℕ → List ℕ → Type 0
LiveInTurn [] us = Unit {0}
LiveInTurn (t ∷ ts) us = IsLive us t × LiveInTurn ts (others t us)

-- the writes unit by unit, in this order of the units, the latest first within each
abbrev pub in_order : List ℕ → List Write → List Write
in_order [] ws = []
in_order (t ∷ ts) ws = own_of t ws ++ in_order ts (kept_of (not_of t) ws)
