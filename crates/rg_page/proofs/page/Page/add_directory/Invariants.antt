use Rattle.std.proofs.Common.{◌≡◌, ◌≤◌, ◌+◌, ◌*◌, ◌++◌, length, take}
use Rattle.rg_page.specs.Bytes.PageBytes.{directory, slots_size}
use Rattle.rg_page.proofs.page.Page.add_directory.Given as goal

abbrev pub invariant-loop-i : goal.invariant-loop-i
invariant-loop-i l = record {
  within : l.i ≤ length l.fn.self.slots;
  at : l.at ≡ 32 + slots_size (take l.i l.fn.self.slots);
  bytes : l.page ++ directory 32 (take l.i l.fn.self.slots)
      ≡ l.fn.page ++ directory 32 l.fn.self.slots;
  len : length l.page + 2 * l.i ≡ length l.fn.page + 2 * length l.fn.self.slots;
}

abbrev pub decreases-loop-i : goal.decreases-loop-i
decreases-loop-i l = l.i
