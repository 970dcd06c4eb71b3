use Rattle.std.proofs.Common.{◌≡◌, ◌≤◌, ◌-◌, true}
use Rattle.std.specs.List.{flat_map}
use Rattle.rg_home.specs.Pages.{slot_of}
use Rattle.rg_layout.specs.Spots.{spot_at, places_to}
use Rattle.rg_page.specs.Content.{slots_of}
use Rattle.rg_page.specs.Seen.{Reads}
use Rattle.rg_layout.proofs.spots.all_spots.Given as goal

abbrev pub decreases-loop-n : goal.decreases-loop-n
decreases-loop-n g l = l.count - l.n

abbrev pub invariant-loop-n : goal.invariant-loop-n
invariant-loop-n g l =
    let a = g.F.Frames.seen l.fn.frames in
    let b = g.F.Frames.seen l.frames in
    record {
      bound : l.n ≤ l.count;
      reads : Reads a b;
      reserved : b.reserved ≡ a.reserved;
      idle : a.idle ≤ b.idle;
      spots : b.sure ≡ true
          → l.spots.items
          ≡ flat_map (spot_at (slot_of (slots_of b.pages))) (places_to (slots_of b.pages) l.n);
      gave : g.F.Frames.gave a.pages a.forced l.fn.frames l.frames;
    }
