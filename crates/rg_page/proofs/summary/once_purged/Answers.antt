use Rattle.rg_page.specs.Bare.{numbers_of}
use Rattle.std.proofs.Common.{◌<◌, ◌∙◌, length, sym, take, map, arith}
use Rattle.std.proofs.lemmas.List.{get_or_default}
use Rattle.rg_home.specs.Slot.{Free}
use Rattle.rg_home.specs.Plan.{swept}
use Rattle.rg_home.proofs.Offers.{used-trim, used-taken, after_free, after_full}
use Rattle.rg_page.proofs.summary.once_purged.Goals as goal
use Rattle.rg_page.proofs.summary.once_purged.Goals.{then-goes, else-goes}

pub overflow_add-all : goal.overflow_add-all
overflow_add-all c =
    omega (arith, used-taken (numbers_of c.args.live.now) c.args.headers.now c.loop-i.i)

pub overflow_sub-result : goal.overflow_sub-result
overflow_sub-result c = omega (
  arith,
  used-taken (numbers_of c.args.live.now) c.args.headers.now c.loop-i.i,
  used-trim (map (swept (numbers_of c.args.live.now)) (take c.loop-i.i c.args.headers.now)),
)

pub overflow_add-all-else-goes-2 : goal.overflow_add-all-else-goes-2
overflow_add-all-else-goes-2 c =
    omega (arith, used-taken (numbers_of c.args.live.now) c.args.headers.now c.loop-i.i)

pub loop-i-preserved : goal.loop-i-preserved
loop-i-preserved c =
    let below : c.loop-i.i < length c.args.headers.now = omega arith in
    elim c.if-goes.branch [
      | then-goes w ↦
          let s = after_free (numbers_of c.args.live.now) c.args.headers.now c.loop-i.i
          c.index-headers-i.result below
          (c.index-headers-i.is
          ∙ get_or_default c.args.headers.now c.loop-i.i c.index-headers-i.result Free below)
          (sym c.goes.ensures ∙ w.if-goes.true) in
          record {
            all = omega (arith, s.0);
            kept = w.kept-is ∙ c.loop-i.invariant.kept ∙ sym s.1;
            seen = w.seen-is ∙ sym s.2;
            gap = w.gap-is ∙ c.loop-i.invariant.gap ∙ sym s.3;
          }
      | else-goes w ↦
          let s = after_full (numbers_of c.args.live.now) c.args.headers.now c.loop-i.i
          c.index-headers-i.result below
          (c.index-headers-i.is
          ∙ get_or_default c.args.headers.now c.loop-i.i c.index-headers-i.result Free below)
          (sym c.goes.ensures ∙ w.if-goes.false) in
          record {
            all = omega (arith, s.0);
            kept = omega (arith, s.1);
            seen = w.seen-is ∙ c.loop-i.invariant.seen ∙ sym s.2;
            gap = w.gap-is ∙ c.loop-i.invariant.seen ∙ sym s.3;
          }
    ]
