use Rattle.std.proofs.Common.{◌≡◌, ◌≤◌, ◌-◌, true}
use Rattle.rg_home.specs.Pages.{slot_of}
use Rattle.rg_home.specs.Rows.{row_at}
use Rattle.rg_page.specs.Content.{slots_of}
use Rattle.rg_check.specs.PageTests.Looked.{Looked}
use Rattle.rg_check.specs.PageTests.StoredRows.{AreSound, IsNoted, IsStoredAt}
use Rattle.rg_check.proofs.PageTestsLemmas.Order.{HoldsTo}
use Rattle.rg_check.proofs.page_tests.stored.strange_in.Given as goal

abbrev pub decreases-loop-n : goal.decreases-loop-n
decreases-loop-n g l = l.count - l.n

abbrev pub invariant-loop-n : goal.invariant-loop-n
invariant-loop-n g l =
    let a = g.F.Frames.seen l.fn.frames in
    let b = g.F.Frames.seen l.frames in
    record {
      bound : l.n ≤ l.count;
      looked : Looked a b;
      stored : b.sure ≡ true
          → HoldsTo (IsStoredAt l.stored (row_at (slot_of (slots_of b.pages)))) l.n;
      noted : b.sure ≡ true → HoldsTo (IsNoted (row_at (slot_of (slots_of b.pages))) l.notes) l.n;
      sound : b.sure ≡ true → AreSound (row_at (slot_of (slots_of b.pages))) l.notes;
      gave : g.F.Frames.gave a.pages a.forced l.fn.frames l.frames;
    }
