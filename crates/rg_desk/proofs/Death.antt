-- What the log stores is what process death leaves of a desk's state.
use Rattle.std.proofs.Common.{ℕ, Bool, true, false, List, Option, refl}
use Rattle.rg_laws_utility.specs.ByteAccount.Account.{allowed_of}
use Rattle.rg_base.specs.declared.position.Position.{Position}
use Rattle.rg_desk.specs.Chronicle.{ChronicleState}
use Rattle.rg_desk.specs.Desk.{IsDesk}
use Rattle.rg_engine.specs.Left.{LeavesState}
use Rattle.rg_outside.specs.Volume.{VolumeSeen}
use Rattle.rg_engine.specs.declared.engine.Engine.{Engine}
use Rattle.rg_engine.specs.declared.origin.Origin.{Origin}
use Rattle.rg_engine.proofs.Refused.{shown_left}

-- a desk, whether it is up or down
pub desk_left : (d : Engine) (c : ChronicleState) (origin : Origin) (copy : ℕ) (down : Bool)
    (marks : List (Option Position)) (seen : VolumeSeen)
    (desk : IsDesk d c origin copy down marks seen) → LeavesState desk.state d.log
desk_left d c origin copy false marks seen desk =
    shown_left desk.state (allowed_of desk.start c.trace) d (desk.shown refl)
desk_left d c origin copy true marks seen desk = desk.left refl
