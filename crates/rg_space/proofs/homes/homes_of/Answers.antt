use Rattle.std.proofs.Common.{◌≡◌, ◌∙◌, sym, subst, List, ℕ, arith, length}
use Rattle.rg_home.specs.Pages.{page_at, slot_of}
use Rattle.rg_page.specs.Content.{Content, slots_of}
use Rattle.rg_space.specs.Homes.{rows_from}
use Rattle.rg_space.proofs.HomeRows.{row_added}
use Rattle.rg_space.proofs.Took.{reads_more}
use Rattle.rg_space.proofs.homes.homes_of.Goals as goal

pub loop-slot-preserved : goal.loop-slot-preserved
loop-slot-preserved g c =
    let a = g.F.Frames.seen c.args.frames.now in
    let b = g.F.Frames.seen c.loop-slot.frames in
    let last = g.F.Frames.seen c.add_home.new.frames in
    let i = c.loop-slot.invariant in
    let h = c.add_home.ensures in
    let page = c.args.page in
    record {
      bound = omega arith;
      reads = reads_more a b last i.reads h.reads;
      reserved = h.reserved ∙ i.reserved;
      idle = omega (arith, i.idle, h.idle);
      count = λ sure.
          subst (λ (ps : List Content). c.in_ok-count.count ≡ length (page_at (slots_of ps) page))
          (sym (h.reads.same sure)) (i.count (h.reads.keeps.sure sure));
      rows = λ sure. row_added (slot_of (slots_of last.pages)) page c.loop-slot.slot
          c.loop-slot.rows.items c.add_home.new.rows.items
          (subst
          (λ (ps : List Content). c.loop-slot.rows.items
          ≡ rows_from (slot_of (slots_of ps)) page 0 c.loop-slot.slot) (sym (h.reads.same sure))
          (i.rows (h.reads.keeps.sure sure)))
          c.in_ok-add_home.ensures.added;
      gave = g.met.F.Frames.gave_more a.pages a.forced c.args.frames.now c.loop-slot.frames
          c.add_home.new.frames i.gave (λ sure.
          subst (λ (n : ℕ). g.F.Frames.gave a.pages n c.loop-slot.frames c.add_home.new.frames)
          i.reads.forced
          (subst
          (λ (ps : List Content). g.F.Frames.gave ps b.forced c.loop-slot.frames
          c.add_home.new.frames) (i.reads.same (h.reads.keeps.sure sure)) h.gave));
    }
