use Rattle.std.proofs.Common.{◌≡◌, ◌+◌, ◌++◌, length, take}
use Rattle.std.specs.List.{AllByRecursion}
use Rattle.rg_page.specs.Bytes.Content.{FitsSlot}
use Rattle.rg_page.specs.Bytes.PageBytes.{slots_bytes, slots_size}
use Rattle.rg_page.proofs.page.Page.add_slots.Given as goal

abbrev pub invariant-loop-i : goal.invariant-loop-i
invariant-loop-i l = record {
  bytes : l.page ≡ l.fn.page ++ slots_bytes (take l.i l.fn.self.slots);
  len : length l.page ≡ 32 + slots_size (take l.i l.fn.self.slots);
  fits : AllByRecursion FitsSlot (take l.i l.fn.self.slots);
}
