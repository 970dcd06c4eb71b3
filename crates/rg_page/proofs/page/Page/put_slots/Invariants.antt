use Rattle.std.proofs.Common.{◌≡◌, ◌++◌, List, drop, take}
use Rattle.rg_home.specs.Slot.{Slot}
use Rattle.rg_home.specs.Slots.{trim}
use Rattle.rg_page.specs.Reading.{Begins}
use Rattle.rg_page.specs.Bytes.PageBytes.{slots_bytes}
use Rattle.rg_page.proofs.page.Page.put_slots.Given as goal

abbrev pub invariant-loop-i : goal.invariant-loop-i
invariant-loop-i l = record {
  slots : (slots : List Slot) (begins : Begins l.fn.count l.fn.bytes slots)
      → (l.self.slots ≡ trim (take l.i slots))
      × (l.rest ≡ slots_bytes (drop l.i slots) ++ begins.rest);
  same : l.self ≡ record l.fn.self { slots = l.self.slots };
}
