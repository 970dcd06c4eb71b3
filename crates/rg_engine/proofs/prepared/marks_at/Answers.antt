use Rattle.std.proofs.Common.{◌≡◌, ◌+◌, ◌++◌, ◌∷◌, [], List, Option, Some, length, refl, sym, ap}
use Rattle.std.proofs.Common.{subst, arith, length-append}
use Rattle.rg_base.specs.declared.position.Position.{Position}
use Rattle.rg_engine.specs.Prepared.{AreMarksAt}
use Rattle.rg_engine.proofs.Marks.{marks_push}
use Rattle.rg_engine.proofs.prepared.marks_at.Goals as goal

pub loop-preserved : goal.loop-preserved
loop-preserved c =
    let items : c.push.new.self.items ≡ c.loop.marks.items ++ Some c.args.at ∷ [] =
    c.in_ok-push.ensures.items in
    let longer = length-append c.loop.marks.items (Some c.args.at ∷ []) in (
      subst (AreMarksAt (c.loop.counter + 1) c.args.at.0) (sym items)
          (marks_push c.loop.counter c.args.at.0 c.loop.marks.items c.args.at refl
          c.loop.invariant.1 c.loop.invariant.0),
      omega (
        arith,
        ap (λ (ms : List (Option Position)). length ms) items,
        longer,
        c.loop.invariant.1,
      ),
    )
