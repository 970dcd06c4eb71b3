use Rattle.std.proofs.Common.{◌∙◌, sym, subst, List, arith}
use Rattle.rg_home.specs.Pages.{slot_of}
use Rattle.rg_page.specs.Bare.{numbers_of}
use Rattle.rg_page.specs.Content.{Content, slots_of}
use Rattle.rg_space.proofs.Whole.{slots_count}
use Rattle.rg_check.specs.PageTests.Ties.{IsTiedAt}
use Rattle.rg_check.proofs.PageTestsLemmas.Looking.{gave_next, looked_more}
use Rattle.rg_check.proofs.PageTestsLemmas.Order.{HoldsTo, to_more_of, to_all}
use Rattle.rg_check.proofs.PageTestsLemmas.Tying.{free_ties}
use Rattle.rg_check.proofs.page_tests.untied.untied_in.Goals as goal

pub loop-n-preserved : goal.loop-n-preserved
loop-n-preserved g c =
    let a = g.F.Frames.seen c.args.frames.now in
    let b = g.F.Frames.seen c.loop-n.frames in
    let last = g.F.Frames.seen c.untied_on.new.frames in
    let i = c.loop-n.invariant in
    let h = c.untied_on.ensures in
    let n = c.loop-n.n in
    let live = numbers_of c.args.live.now in
    record {
      bound = omega arith;
      looked = looked_more a b last i.looked h.looked;
      tied = λ sure. to_more_of (IsTiedAt live (slot_of (slots_of last.pages))) n
          c.in_ok-found.found (sym c.is_some.ensures ∙ c.if-is_some.false)
          (subst (λ (ps : List Content). HoldsTo (IsTiedAt live (slot_of (slots_of ps))) n)
          (sym (h.looked.reads.same sure)) (i.tied (h.looked.reads.keeps.sure sure)))
          (c.in_ok-found.ensures.least sure);
      gave = gave_next g.F.Frames.gave c.args.frames.now c.loop-n.frames c.untied_on.new.frames a b
          last i.looked.reads h.looked.reads
          (g.met.F.Frames.gave_more a.pages a.forced c.args.frames.now c.loop-n.frames
          c.untied_on.new.frames i.gave) h.gave;
    }

pub returns-clause-least : goal.returns-clause-least
returns-clause-least g c = λ sure.
    let b = g.F.Frames.seen c.loop-n.frames in
    let live = numbers_of c.args.live.now in
    to_all (IsTiedAt live (slot_of (slots_of b.pages))) (slots_of b.pages)
    (free_ties live (slot_of (slots_of b.pages))) c.loop-n.n
    (omega (
      arith,
      slots_count b.pages,
      c.loop-n-test.false,
      c.count-count.ensures,
      c.loop-n.invariant.looked.reads.count,
    )) (c.loop-n.invariant.tied sure)
