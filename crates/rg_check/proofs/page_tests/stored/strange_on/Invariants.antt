use Rattle.std.proofs.Common.{◌≡◌, ◌≤◌, ◌-◌, true, length, ℕ}
use Rattle.rg_home.specs.Pages.{page_at, slot_of}
use Rattle.rg_home.specs.Rows.{row_at}
use Rattle.rg_page.specs.Content.{slots_of}
use Rattle.rg_check.specs.PageTests.Looked.{Looked}
use Rattle.rg_check.specs.PageTests.StoredRows.{AreSound, IsIn, IsNoted, IsStoredAt}
use Rattle.rg_check.proofs.PageTestsLemmas.Order.{HoldsOn}
use Rattle.rg_check.proofs.page_tests.stored.strange_on.Given as goal

abbrev pub decreases-loop-slot : goal.decreases-loop-slot
decreases-loop-slot g l = l.count - l.slot

abbrev pub invariant-loop-slot : goal.invariant-loop-slot
invariant-loop-slot g l =
    let a = g.F.Frames.seen l.fn.frames in
    let b = g.F.Frames.seen l.frames in
    record {
      bound : l.slot ≤ l.count;
      looked : Looked a b;
      count : b.sure ≡ true → l.count ≡ length (page_at (slots_of b.pages) l.page);
      stored : b.sure ≡ true
          → HoldsOn (IsStoredAt l.stored (row_at (slot_of (slots_of b.pages)))) l.page l.slot;
      noted : b.sure ≡ true
          → HoldsOn (IsNoted (row_at (slot_of (slots_of b.pages))) l.notes) l.page l.slot;
      grows : (k : ℕ) → IsIn l.fn.notes k → IsIn l.notes k;
      sound : b.sure ≡ true → AreSound (row_at (slot_of (slots_of b.pages))) l.fn.notes
          → AreSound (row_at (slot_of (slots_of b.pages))) l.notes;
      gave : g.F.Frames.gave a.pages a.forced l.fn.frames l.frames;
    }
