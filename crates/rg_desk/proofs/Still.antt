-- A desk stays as it is where its engine shows the same.
use Rattle.std.proofs.Common.{◌≤◌, ℕ, Bool, List, take, length, Option, sym, ◌∙◌, ap, subst}
use Rattle.rg_laws_utility.specs.ByteAccount.Account.{allowed_of}
use Rattle.rg_base.specs.declared.position.Position.{Position}
use Rattle.rg_log.specs.Kept.{Listed}
use Rattle.rg_outside.proofs.Every.{told_weaken}
use Rattle.rg_engine.specs.Bytes.{taken_of}
use Rattle.rg_desk.specs.Chronicle.{ChronicleState, logged_by}
use Rattle.rg_desk.specs.Desk.{IsDesk}
use Rattle.rg_engine.specs.Left.{LeavesState}
use Rattle.rg_engine.specs.OnVolume.{WasAllTidy}
use Rattle.rg_engine.specs.Reopens.{IsCleanIn}
use Rattle.rg_engine.specs.Stored.{IsStored}
use Rattle.rg_engine.specs.Volume.{LeavesIfTidy}
use Rattle.rg_outside.specs.Volume.{VolumeSeen}
use Rattle.rg_engine.specs.Wrote.{SameEngine}
use Rattle.rg_engine.specs.declared.engine.Engine.{Engine}
use Rattle.rg_engine.specs.declared.origin.Origin.{Origin}
use Rattle.rg_engine.proofs.OnVolume.{on_same}
use Rattle.rg_engine.proofs.Reopens.{same_clean}
use Rattle.rg_engine.proofs.Same.{same_shows}

pub desk_still : (d : Engine) (c : ChronicleState) (origin : Origin) (copy : ℕ) (down : Bool)
    (marks : List (Option Position)) (seen : VolumeSeen) → IsDesk d c origin copy down marks seen
    → (next : Engine) → SameEngine d next → IsDesk next c origin copy down marks seen
desk_still d c origin copy down marks seen desk next same = record {
  start = desk.start;
  starts = subst (λ (l : Listed). IsStored (take origin.records l.records) desk.start)
      (sym same.log) desk.starts;
  within = subst (λ (l : Listed). origin.records ≤ length l.records) (sym same.log) desk.within;
  state = desk.state;
  begun = desk.begun;
  run = desk.run;
  told = desk.told;
  is_first = desk.is_first;
  is_copy = desk.is_copy;
  copy_is = desk.copy_is;
  down_is = desk.down_is;
  counted = desk.counted;
  recorded = desk.recorded;
  shown = λ up. same_shows desk.state (allowed_of desk.start c.trace) d next same (desk.shown up);
  left = λ is. subst (LeavesState desk.state) (sym same.log) (desk.left is);
  logged = subst (λ (l : Listed). taken_of l ≤ logged_by 0 c.trace) (sym same.log) desk.logged;
  pages = ap (λ (l : Listed). l.pages) same.log ∙ desk.pages;
  leaves = subst (LeavesIfTidy seen) (sym same.log) desk.leaves;
  is_on = λ up. record {
    epoch = (desk.is_on up).epoch;
    is_on = on_same (desk.is_on up).epoch copy d next marks seen same (desk.is_on up).is_on;
  };
  rests = desk.rests;
  clean = λ up. told_weaken (λ t. WasAllTidy seen.capacities t → IsCleanIn d)
      (λ t. WasAllTidy seen.capacities t → IsCleanIn next) seen.told
      (λ t h tidy. same_clean d next same (h tidy)) (desk.clean up);
  keys = desk.keys;
  among = desk.among;
  few = desk.few;
  few_rows = desk.few_rows;
}
