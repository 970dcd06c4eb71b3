use Rattle.std.proofs.Common.{◌≡◌, ◌≤◌, ◌-◌, ◌++◌, true, length}
use Rattle.std.specs.List.{flat_map}
use Rattle.rg_home.specs.Pages.{page_at, slot_of}
use Rattle.rg_layout.specs.Spots.{spot_at, places_on}
use Rattle.rg_page.specs.Content.{slots_of}
use Rattle.rg_page.specs.Seen.{Reads}
use Rattle.rg_layout.proofs.spots.add_spots.Given as goal

abbrev pub decreases-loop-slot : goal.decreases-loop-slot
decreases-loop-slot g l = l.count - l.slot

abbrev pub invariant-loop-slot : goal.invariant-loop-slot
invariant-loop-slot g l =
    let a = g.F.Frames.seen l.fn.frames in
    let b = g.F.Frames.seen l.frames in
    record {
      bound : l.slot ≤ l.count;
      reads : Reads a b;
      reserved : b.reserved ≡ a.reserved;
      idle : a.idle ≤ b.idle;
      count : b.sure ≡ true → l.count ≡ length (page_at (slots_of b.pages) l.page);
      spots : b.sure ≡ true
          → l.spots.items
          ≡ l.fn.spots.items
          ++ flat_map (spot_at (slot_of (slots_of b.pages))) (places_on l.page l.slot);
      gave : g.F.Frames.gave a.pages a.forced l.fn.frames l.frames;
    }
