use Rattle.std.proofs.Common.{◌<◌, length, arith, ◌∙◌, ap, sym, length-append, ◌∷◌, []}
use Rattle.rg_home.proofs.Slots.{put-more, put-end}
use Rattle.rg_page.proofs.summary.grow.Goals as goal

pub loop-headers-preserved : goal.loop-headers-preserved
loop-headers-preserved c =
    let m = c.loop-headers.headers.items in
    let below : length m < c.args.at = omega (arith, c.loop-headers.headers.ok.0) in
    record {
      in_range =
          omega (arith, ap length c.push.ensures.items, length-append m (c.free.result ∷ []));
      capacity = omega arith;
      same = rw (c.push.ensures.items, c.free.ensures) (put-more m _ _ below)
          ∙ c.loop-headers.invariant.same;
    }

pub returns-clause-items : goal.returns-clause-items
returns-clause-items c = c.push-2.ensures.items
    ∙ sym
    (put-end c.loop-headers.headers.items c.args.at c.args.header
    (omega (arith, c.loop-headers.headers.ok.0)))
    ∙ c.loop-headers.invariant.same
