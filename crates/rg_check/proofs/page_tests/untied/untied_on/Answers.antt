use Rattle.std.proofs.Common.{◌≡◌, sym, subst, List, arith, length}
use Rattle.rg_home.specs.Pages.{page_at, slot_of}
use Rattle.rg_page.specs.Bare.{numbers_of}
use Rattle.rg_page.specs.Content.{Content, slots_of}
use Rattle.rg_space.specs.Homes.{place_on}
use Rattle.rg_check.specs.PageTests.Ties.{IsTiedAt}
use Rattle.rg_check.proofs.PageTestsLemmas.Looking.{gave_next, looked_more}
use Rattle.rg_check.proofs.PageTestsLemmas.Order.{HoldsOn, on_more}
use Rattle.rg_check.proofs.PageTestsLemmas.Says.{says_yes}
use Rattle.rg_check.proofs.page_tests.untied.untied_on.Goals as goal

pub loop-slot-preserved : goal.loop-slot-preserved
loop-slot-preserved g c =
    let a = g.F.Frames.seen c.args.frames.now in
    let b = g.F.Frames.seen c.loop-slot.frames in
    let last = g.F.Frames.seen c.is_tied.new.frames in
    let i = c.loop-slot.invariant in
    let h = c.is_tied.ensures in
    let page = c.args.page in
    let slot = c.loop-slot.slot in
    let live = numbers_of c.args.live.now in
    record {
      bound = omega arith;
      looked = looked_more a b last i.looked h.looked;
      count = λ sure.
          subst (λ (ps : List Content). c.in_ok-count.count ≡ length (page_at (slots_of ps) page))
          (sym (h.looked.reads.same sure)) (i.count (h.looked.reads.keeps.sure sure));
      tied = λ sure. on_more (IsTiedAt live (slot_of (slots_of last.pages))) page slot
          (subst (λ (ps : List Content). HoldsOn (IsTiedAt live (slot_of (slots_of ps))) page slot)
          (sym (h.looked.reads.same sure)) (i.tied (h.looked.reads.keeps.sure sure)))
          (says_yes c.in_ok-is_tied.field-0
          (IsTiedAt live (slot_of (slots_of last.pages)) (place_on page slot)) c.if-not-branch.false
          (c.in_ok-is_tied.ensures.tied sure));
      gave = gave_next g.F.Frames.gave c.args.frames.now c.loop-slot.frames c.is_tied.new.frames a b
          last i.looked.reads h.looked.reads
          (g.met.F.Frames.gave_more a.pages a.forced c.args.frames.now c.loop-slot.frames
          c.is_tied.new.frames i.gave) h.gave;
    }
