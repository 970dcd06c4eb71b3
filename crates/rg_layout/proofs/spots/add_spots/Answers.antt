use Rattle.std.proofs.Common.{◌≡◌, ◌∙◌, ◌++◌, sym, subst, List, ℕ, arith, length}
use Rattle.std.specs.List.{flat_map}
use Rattle.rg_home.specs.Pages.{page_at, slot_of}
use Rattle.rg_layout.proofs.Reading.{spot_added}
use Rattle.rg_layout.proofs.spots.add_spots.Goals as goal
use Rattle.rg_layout.specs.Spots.{spot_at, places_on}
use Rattle.rg_page.specs.Content.{Content, slots_of}
use Rattle.rg_space.proofs.Took.{reads_more}

pub loop-slot-preserved : goal.loop-slot-preserved
loop-slot-preserved g c =
    let a = g.F.Frames.seen c.args.frames.now in
    let b = g.F.Frames.seen c.loop-slot.frames in
    let last = g.F.Frames.seen c.add_spot.new.frames in
    let i = c.loop-slot.invariant in
    let h = c.add_spot.ensures in
    let page = c.args.page in
    let before = c.args.spots.now.items in
    record {
      bound = omega arith;
      reads = reads_more a b last i.reads h.reads;
      reserved = h.reserved ∙ i.reserved;
      idle = omega (arith, i.idle, h.idle);
      count = λ sure.
          subst (λ (ps : List Content). c.in_ok-count.count ≡ length (page_at (slots_of ps) page))
          (sym (h.reads.same sure)) (i.count (h.reads.keeps.sure sure));
      spots = λ sure. spot_added (slot_of (slots_of last.pages)) page c.loop-slot.slot before
          c.loop-slot.spots.items c.add_spot.new.spots.items
          (subst
          (λ (ps : List Content). c.loop-slot.spots.items
          ≡ before ++ flat_map (spot_at (slot_of (slots_of ps))) (places_on page c.loop-slot.slot))
          (sym (h.reads.same sure)) (i.spots (h.reads.keeps.sure sure)))
          c.in_ok-add_spot.ensures.added;
      gave = g.met.F.Frames.gave_more a.pages a.forced c.args.frames.now c.loop-slot.frames
          c.add_spot.new.frames i.gave (λ sure.
          subst (λ (n : ℕ). g.F.Frames.gave a.pages n c.loop-slot.frames c.add_spot.new.frames)
          i.reads.forced
          (subst
          (λ (ps : List Content). g.F.Frames.gave ps b.forced c.loop-slot.frames
          c.add_spot.new.frames) (i.reads.same (h.reads.keeps.sure sure)) h.gave));
    }
