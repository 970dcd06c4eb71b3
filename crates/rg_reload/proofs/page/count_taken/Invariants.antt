use Rattle.std.proofs.Common.{◌≡◌, ◌≤◌, ◌+◌, ◌-◌, length, take, drop}
use Rattle.rg_home.specs.Slots.{used}
use Rattle.rg_reload.specs.Moved.{more_taken, page_taken}
use Rattle.rg_reload.specs.Pages.{row_slots}
use Rattle.rg_reload.proofs.page.count_taken.Given as goal

abbrev pub decreases-loop-count : goal.decreases-loop-count
decreases-loop-count l = length l.rows - l.count

abbrev pub invariant-loop-count : goal.invariant-loop-count
invariant-loop-count l = record {
  low : 1 ≤ l.count;
  high : l.count ≤ length l.rows;
  free : l.free ≤ 4064;
  count : page_taken l.options l.rows ≡ l.count + more_taken l.options l.free (drop l.count l.rows);
  fits : used (row_slots (take l.count l.rows)) + l.free ≡ 4064;
}
