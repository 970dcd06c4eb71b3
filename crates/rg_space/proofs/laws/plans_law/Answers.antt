use Rattle.std.proofs.Common.{List, Option, Some, None, length, IfSome}
use Rattle.rg_home.specs.Slot.{Slot}
use Rattle.rg_home.specs.declared.plan.Plan.{Plan}
use Rattle.rg_space.specs.Carries.{PlanNext}
use Rattle.rg_space.proofs.Next.{Shaped, shaped_next, put_next, change_next, drop_next, drop_there}
use Rattle.rg_space.proofs.Next.{undo_next, undo_there}
use Rattle.rg_space.proofs.Carried.{put_carries, change_carries, drop_carries, undo_carries}
use Rattle.rg_space.proofs.Carried.{there_ready, purge_applies, parts_apply}
use Rattle.rg_space.proofs.Readying.{ready_held}
use Rattle.rg_space.proofs.laws.plans_law.Goals as goal

next_all : (pages : List (List Slot)) (o : Option Plan) → IfSome o (Shaped pages)
    → IfSome o (PlanNext (length pages))
next_all pages None h = tt
next_all pages (Some plan) h = shaped_next pages plan h

pub returns-clause-next : goal.returns-clause-next
returns-clause-next c = record {
  put = λ live b capacity pages. next_all pages _ (put_next live b capacity pages);
  change = λ live b capacity pages home tied is. next_all pages _
      (change_next pages tied home live b capacity is);
  drop = λ pages home tied is.
      (shaped_next pages _ (drop_next pages tied home is), drop_there pages tied home is);
  undo = λ by c pages tied can.
      (shaped_next pages _ (undo_next by c pages tied can), undo_there by c pages tied can);
}

pub returns-clause-carry : goal.returns-clause-carry
returns-clause-carry c = record {
  put = λ owner purger row live capacity pages small within proper. put_carries owner purger
      capacity pages within proper row live small;
  change = λ owner purger row live capacity pages home small within proper is. change_carries owner
      purger capacity pages within proper row live home small is;
  drop = λ owner purger capacity pages home within proper is. drop_carries owner purger capacity
      pages within proper home is;
  undo = undo_carries;
}

pub returns-clause-apply : goal.returns-clause-apply
returns-clause-apply c =
    record { ready = there_ready; held = ready_held; purge = purge_applies; parts = parts_apply }
