use Rattle.std.proofs.Common.{◌||◌, Bool, Option, ◌∙◌, ap}
use Rattle.std.specs.FinMap as map
use Rattle.std.specs.FinMap.{get-empty}
use Rattle.std.specs.Option.{is_some}
use Rattle.std.specs.Ordering.{nat_cmp}
use Rattle.rg_image.specs.Meaning.{is_committed}
use Rattle.rg_restart.proofs.stored.committed_in.Goals as goal

pub loop-at-init : goal.loop-at-init
loop-at-init c = λ tran.
    ap (λ m. map.contains_key m tran || is_committed c.args.records.now tran) c.new-ended.ensures
    ∙ ap (λ (o : Option Bool). is_some o || is_committed c.args.records.now tran)
    (get-empty {X = Bool} nat_cmp tran)
