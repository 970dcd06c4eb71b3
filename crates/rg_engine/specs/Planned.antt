-- The plans of a write, over the pages of the engine that is to carry them out.
--
-- 1. A write is planned for its own unit and all open ones: their areas are not freed.
use Rattle.std.specs.Prelude.{◌≡◌, ℕ, List, ◌∷◌, Option, None}
use Rattle.rg_base.specs.declared.place.Place.{Place}
use Rattle.rg_home.specs.Pages.{slot_of}
use Rattle.rg_home.specs.Plan.{new_area, planned_put, planned_change, planned_drop}
use Rattle.rg_home.specs.declared.plan.Plan.{Plan}
use Rattle.rg_space.specs.Ready.{IsAtHand}
use Rattle.rg_space.specs.Space.{capacity_in}
use Rattle.rg_space.specs.declared.fault.SpaceFault.{SpaceFault}
use Rattle.rg_space.specs.declared.fault.SpaceFault.TheVariants.{Full, Device, NoMemory}
use Rattle.rg_stmt.specs.declared.stmt.Reply.{Reply}
use Rattle.rg_stmt.specs.declared.stmt.Reply.TheVariants as reply
use Rattle.rg_engine.specs.Engine.{HasPages, seen_in, slots_in}
use Rattle.rg_engine.specs.Units.{trans_of}
use Rattle.rg_engine.specs.declared.engine.Engine.{Engine}

-- the units whose areas stay: t and all that are open
abbrev pub units_with : ℕ → Engine → List ℕ
units_with t d = t ∷ trans_of d.units

-- the plan of a new row of b bytes, by unit t
abbrev pub put_plan : ℕ → (b : ℕ) → Engine → Option Plan
put_plan t b d =
    planned_put (units_with t d) b (slots_in d)
    (new_area (units_with t d) b (capacity_in d.space) (slots_in d))

-- the plan of a row of b bytes in the place of the one whose home this is
abbrev pub change_plan : ℕ → (b : ℕ) → Place → Engine → Option Plan
change_plan t b home d =
    planned_change (units_with t d) b (capacity_in d.space) (slots_in d) home

-- the plan of the drop of the row whose home this is
abbrev pub drop_plan : Place → Engine → Plan
drop_plan home d = planned_drop (slots_in d) home (slot_of (slots_in d) home)

-- the pages of a plan are at hand
pub record IsHanded (d : Engine) (plan : Plan) : Type 0 where
  pub pages : HasPages d
  pub hand : IsAtHand (seen_in d) (capacity_in d.space) plan

-- a plan is refused where there is none, for a row of b bytes, or without memory
abbrev pub IsRefusal : (b : ℕ) → Option Plan → SpaceFault → Type 0
IsRefusal b plan (Full need) = (need ≡ b) × (plan ≡ None)
IsRefusal b plan Device = ⊥
IsRefusal b plan NoMemory = Unit {0}

-- the reply to a statement whose write has no plan
abbrev pub refused : SpaceFault → Reply
refused (Full need) = reply.Full need
refused Device = reply.Device
refused NoMemory = reply.NoMemory
