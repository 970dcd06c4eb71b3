use Rattle.std.proofs.Common.{arith}
use Rattle.reorgdb.proofs.Pieces.{given_more}
use Rattle.reorgdb.proofs.giving.give_all.Goals as goal

pub loop-rest-preserved : goal.loop-rest-preserved
loop-rest-preserved g c =
    record {
      given = rw c.split_at.ensures.back
          (given_more c.args.text.now c.loop-rest.rest.now c.in-Ok.n _ _ _
          c.loop-rest.invariant.given c.in-Ok.ensures.kept);
      later = omega (arith, c.in-Ok.ensures.cause.later);
    }
