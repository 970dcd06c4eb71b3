use Rattle.std.proofs.Common.{◌≡◌, ◌≤◌, ◌-◌, true, length}
use Rattle.rg_home.specs.Pages.{page_at, slot_of}
use Rattle.rg_page.specs.Bare.{numbers_of}
use Rattle.rg_page.specs.Content.{slots_of}
use Rattle.rg_check.specs.PageTests.Looked.{Looked}
use Rattle.rg_check.specs.PageTests.Ties.{IsTiedAt}
use Rattle.rg_check.proofs.PageTestsLemmas.Order.{HoldsOn}
use Rattle.rg_check.proofs.page_tests.untied.untied_on.Given as goal

abbrev pub decreases-loop-slot : goal.decreases-loop-slot
decreases-loop-slot g l = l.count - l.slot

abbrev pub invariant-loop-slot : goal.invariant-loop-slot
invariant-loop-slot g l =
    let a = g.F.Frames.seen l.fn.frames in
    let b = g.F.Frames.seen l.frames in
    record {
      bound : l.slot ≤ l.count;
      looked : Looked a b;
      count : b.sure ≡ true → l.count ≡ length (page_at (slots_of b.pages) l.page);
      tied : b.sure ≡ true
          → HoldsOn (IsTiedAt (numbers_of l.live) (slot_of (slots_of b.pages))) l.page l.slot;
      gave : g.F.Frames.gave a.pages a.forced l.fn.frames l.frames;
    }
