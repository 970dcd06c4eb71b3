use Rattle.std.proofs.Common.{◌≡◌, ◌∙◌, sym, subst, List, ℕ, arith}
use Rattle.std.specs.List.{flat_map}
use Rattle.rg_home.specs.Pages.{slot_of}
use Rattle.rg_layout.proofs.Reading.{page_added}
use Rattle.rg_layout.proofs.spots.all_spots.Goals as goal
use Rattle.rg_layout.specs.Spots.{spot_at, places_to}
use Rattle.rg_page.specs.Content.{Content, slots_of}
use Rattle.rg_space.proofs.Took.{reads_more}

pub loop-n-preserved : goal.loop-n-preserved
loop-n-preserved g c =
    let a = g.F.Frames.seen c.args.frames.now in
    let b = g.F.Frames.seen c.loop-n.frames in
    let last = g.F.Frames.seen c.add_spots.new.frames in
    let i = c.loop-n.invariant in
    let h = c.add_spots.ensures in
    record {
      bound = omega arith;
      reads = reads_more a b last i.reads h.reads;
      reserved = h.reserved ∙ i.reserved;
      idle = omega (arith, i.idle, h.idle);
      spots = λ sure. page_added (slots_of last.pages) c.loop-n.n c.loop-n.spots.items
          c.add_spots.new.spots.items
          (subst
          (λ (ps : List Content). c.loop-n.spots.items
          ≡ flat_map (spot_at (slot_of (slots_of ps))) (places_to (slots_of ps) c.loop-n.n))
          (sym (h.reads.same sure)) (i.spots (h.reads.keeps.sure sure)))
          (c.in_ok-add_spots.ensures.added sure);
      gave = g.met.F.Frames.gave_more a.pages a.forced c.args.frames.now c.loop-n.frames
          c.add_spots.new.frames i.gave (λ sure.
          subst (λ (n : ℕ). g.F.Frames.gave a.pages n c.loop-n.frames c.add_spots.new.frames)
          i.reads.forced
          (subst
          (λ (ps : List Content). g.F.Frames.gave ps b.forced c.loop-n.frames
          c.add_spots.new.frames) (i.reads.same (h.reads.keeps.sure sure)) h.gave));
    }
