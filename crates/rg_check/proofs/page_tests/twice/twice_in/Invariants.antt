use Rattle.std.proofs.Common.{◌≡◌, ◌≤◌, ◌-◌, ◌+◌, true}
use Rattle.rg_home.specs.Pages.{slot_of}
use Rattle.rg_home.specs.Rows.{row_at}
use Rattle.rg_page.specs.Content.{slots_of}
use Rattle.rg_space.specs.Homes.{place_on}
use Rattle.rg_check.specs.PageTests.Looked.{Looked}
use Rattle.rg_check.specs.PageTests.Twins.{Kept}
use Rattle.rg_check.proofs.page_tests.twice.twice_in.Given as goal

abbrev pub decreases-loop-n : goal.decreases-loop-n
decreases-loop-n g l = l.count - l.n

abbrev pub invariant-loop-n : goal.invariant-loop-n
invariant-loop-n g l =
    let a = g.F.Frames.seen l.fn.frames in
    let b = g.F.Frames.seen l.frames in
    record {
      bound : l.n ≤ l.count;
      looked : Looked a b;
      kept : b.sure ≡ true
          → Kept (row_at (slot_of (slots_of b.pages))) (place_on (l.n + 1) 0) l.notes l.least;
      gave : g.F.Frames.gave a.pages a.forced l.fn.frames l.frames;
    }
