use Rattle.std.proofs.Common.{◌≡◌, ◌≤◌, ◌-◌, true, length}
use Rattle.rg_home.specs.Pages.{page_at, slot_of}
use Rattle.rg_home.specs.Rows.{row_at}
use Rattle.rg_page.specs.Content.{slots_of}
use Rattle.rg_space.specs.Homes.{place_on}
use Rattle.rg_check.specs.PageTests.Looked.{Looked}
use Rattle.rg_check.specs.PageTests.Twins.{Kept}
use Rattle.rg_check.proofs.page_tests.twice.twice_on.Given as goal

abbrev pub decreases-loop-slot : goal.decreases-loop-slot
decreases-loop-slot g l = l.count - l.slot

abbrev pub invariant-loop-slot : goal.invariant-loop-slot
invariant-loop-slot g l =
    let a = g.F.Frames.seen l.fn.frames in
    let b = g.F.Frames.seen l.frames in
    record {
      bound : l.slot ≤ l.count;
      looked : Looked a b;
      count : b.sure ≡ true → l.count ≡ length (page_at (slots_of b.pages) l.page);
      kept : b.sure ≡ true
          → Kept (row_at (slot_of (slots_of b.pages))) (place_on l.page 0) l.fn.notes l.fn.least
          → Kept (row_at (slot_of (slots_of b.pages))) (place_on l.page l.slot) l.notes l.least;
      gave : g.F.Frames.gave a.pages a.forced l.fn.frames l.frames;
    }
