use Rattle.std.proofs.Common.{◌≡◌, ◌≤◌, ◌-◌, true, length, map}
use Rattle.rg_home.specs.Pages.{page_at, slot_of}
use Rattle.rg_page.specs.Content.{slots_of}
use Rattle.rg_page.specs.Seen.{Reads}
use Rattle.rg_space.specs.Homes.{homed_values, rows_from}
use Rattle.rg_space.proofs.homes.values_of.Given as goal

abbrev pub decreases-loop-slot : goal.decreases-loop-slot
decreases-loop-slot g l = l.count - l.slot

abbrev pub invariant-loop-slot : goal.invariant-loop-slot
invariant-loop-slot g l =
    let a = g.F.Frames.seen l.fn.frames in
    let b = g.F.Frames.seen l.frames in
    record {
      bound : l.slot ≤ l.count;
      reads : Reads a b;
      reserved : b.reserved ≡ a.reserved;
      idle : a.idle ≤ b.idle;
      count : b.sure ≡ true → l.count ≡ length (page_at (slots_of b.pages) l.page);
      values : b.sure ≡ true
          → l.values.items
          ≡ map homed_values (rows_from (slot_of (slots_of b.pages)) l.page 0 l.slot);
      gave : g.F.Frames.gave a.pages a.forced l.fn.frames l.frames;
    }
