use Rattle.std.proofs.Common.{◌≡◌, ◌≤◌, ◌-◌, List, [], length}
use Rattle.rg_reload.specs.Moved.{Moved}
use Rattle.rg_reload.specs.Pages.{HasRows}
use Rattle.rg_reload.proofs.pad.add_empty.Given as goal

abbrev pub decreases-loop-alloc : goal.decreases-loop-alloc
decreases-loop-alloc l = l.count - length l.frames.pages.items

abbrev pub invariant-loop-alloc : goal.invariant-loop-alloc
invariant-loop-alloc l = record {
  copy : l.frames.copy ≡ l.copy;
  few : length l.frames.pages.items ≤ l.count;
  reserved : l.frames.reserved.items ≡ [];
  rows : (rows : List Moved) → HasRows l.fn.frames.pages.items rows
      → HasRows l.frames.pages.items rows;
}
