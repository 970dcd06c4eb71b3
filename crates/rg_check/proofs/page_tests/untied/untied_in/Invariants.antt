use Rattle.std.proofs.Common.{◌≡◌, ◌≤◌, ◌-◌, true}
use Rattle.rg_home.specs.Pages.{slot_of}
use Rattle.rg_page.specs.Bare.{numbers_of}
use Rattle.rg_page.specs.Content.{slots_of}
use Rattle.rg_check.specs.PageTests.Looked.{Looked}
use Rattle.rg_check.specs.PageTests.Ties.{IsTiedAt}
use Rattle.rg_check.proofs.PageTestsLemmas.Order.{HoldsTo}
use Rattle.rg_check.proofs.page_tests.untied.untied_in.Given as goal

abbrev pub decreases-loop-n : goal.decreases-loop-n
decreases-loop-n g l = l.count - l.n

abbrev pub invariant-loop-n : goal.invariant-loop-n
invariant-loop-n g l =
    let a = g.F.Frames.seen l.fn.frames in
    let b = g.F.Frames.seen l.frames in
    record {
      bound : l.n ≤ l.count;
      looked : Looked a b;
      tied : b.sure ≡ true
          → HoldsTo (IsTiedAt (numbers_of l.live) (slot_of (slots_of b.pages))) l.n;
      gave : g.F.Frames.gave a.pages a.forced l.fn.frames l.frames;
    }
