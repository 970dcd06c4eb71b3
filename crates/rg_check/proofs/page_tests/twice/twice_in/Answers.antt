use Rattle.std.proofs.Common.{◌+◌, sym, subst, List, arith}
use Rattle.rg_home.specs.Pages.{slot_of}
use Rattle.rg_home.specs.Rows.{row_at}
use Rattle.rg_page.specs.Content.{Content, slots_of}
use Rattle.rg_space.specs.Homes.{place_on}
use Rattle.rg_space.proofs.Whole.{slots_count}
use Rattle.rg_check.specs.PageTests.Twins.{Kept}
use Rattle.rg_check.proofs.PageTestsLemmas.Looking.{gave_next, looked_more, looked_same}
use Rattle.rg_check.proofs.PageTestsLemmas.Twinning.{kept_end, kept_start}
use Rattle.rg_check.proofs.page_tests.twice.twice_in.Goals as goal

pub loop-n-init : goal.loop-n-init
loop-n-init g c =
    let a = g.F.Frames.seen c.args.frames.now in
    record {
      bound = omega arith;
      looked = looked_same a;
      kept = λ sure. kept_start (slots_of a.pages) c.new-notes.result c.new-notes.ensures;
      gave = g.met.F.Frames.gave_none a.pages a.forced c.args.frames.now;
    }

pub loop-n-preserved : goal.loop-n-preserved
loop-n-preserved g c =
    let a = g.F.Frames.seen c.args.frames.now in
    let b = g.F.Frames.seen c.loop-n.frames in
    let last = g.F.Frames.seen c.twice_on.new.frames in
    let i = c.loop-n.invariant in
    let h = c.twice_on.ensures in
    record {
      bound = omega arith;
      looked = looked_more a b last i.looked h.looked;
      kept = λ sure. c.in_ok-least.ensures.kept sure
          (subst
          (λ (ps : List Content). Kept (row_at (slot_of (slots_of ps)))
          (place_on (c.loop-n.n + 1) 0) c.loop-n.notes c.loop-n.least)
          (sym (h.looked.reads.same sure)) (i.kept (h.looked.reads.keeps.sure sure)));
      gave = gave_next g.F.Frames.gave c.args.frames.now c.loop-n.frames c.twice_on.new.frames a b
          last i.looked.reads h.looked.reads
          (g.met.F.Frames.gave_more a.pages a.forced c.args.frames.now c.loop-n.frames
          c.twice_on.new.frames i.gave) h.gave;
    }

pub returns-clause-least : goal.returns-clause-least
returns-clause-least g c = λ sure.
    let b = g.F.Frames.seen c.loop-n.frames in
    kept_end (slots_of b.pages) (c.loop-n.n + 1) c.loop-n.notes c.loop-n.least
    (omega (
      arith,
      slots_count b.pages,
      c.loop-n-test.false,
      c.count-count.ensures,
      c.loop-n.invariant.looked.reads.count,
    )) (c.loop-n.invariant.kept sure)
