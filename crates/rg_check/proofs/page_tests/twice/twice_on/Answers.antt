use Rattle.std.proofs.Common.{◌≡◌, ◌+◌, ◌∙◌, sym, subst, ap, List, arith, length}
use Rattle.rg_home.specs.Pages.{page_at, slot_of}
use Rattle.rg_home.specs.Rows.{row_at}
use Rattle.rg_page.specs.Content.{Content, slots_of}
use Rattle.rg_space.specs.Homes.{place_on}
use Rattle.rg_check.specs.PageTests.Keys.{Notes, first_noted}
use Rattle.rg_check.specs.PageTests.Twins.{Kept, lesser}
use Rattle.rg_check.proofs.PageTestsLemmas.Looking.{gave_next, looked_more}
use Rattle.rg_check.proofs.PageTestsLemmas.Twinning.{kept_page, kept_step}
use Rattle.rg_check.proofs.page_tests.twice.twice_on.Goals as goal

pub loop-slot-preserved : goal.loop-slot-preserved
loop-slot-preserved g c =
    let a = g.F.Frames.seen c.args.frames.now in
    let b = g.F.Frames.seen c.loop-slot.frames in
    let last = g.F.Frames.seen c.first_with.new.frames in
    let i = c.loop-slot.invariant in
    let h = c.first_with.ensures in
    let page = c.args.page in
    let slot = c.loop-slot.slot in
    let homes = row_at (slot_of (slots_of last.pages)) in
    let here = place_on page slot in
    let notes = c.loop-slot.notes in
    let least = c.loop-slot.least in
    record {
      bound = omega arith;
      looked = looked_more a b last i.looked h.looked;
      count =
          λ sure. subst (λ (ps : List Content). c.in-Ok.count ≡ length (page_at (slots_of ps) page))
          (sym (h.looked.reads.same sure)) (i.count (h.looked.reads.keeps.sure sure));
      kept = λ sure first.
          subst (λ (m : Notes). Kept homes (place_on page (slot + 1)) m c.lesser-least.result)
          (sym c.in_ok-first.ensures.noted)
          (subst (Kept homes (place_on page (slot + 1)) (first_noted notes here (homes here)))
          (sym (c.lesser-least.ensures ∙ ap (lesser least) c.in_ok-first.ensures.first))
          (kept_step homes page slot notes least
          (subst
          (λ (ps : List Content).
          Kept (row_at (slot_of (slots_of ps))) (place_on page 0) c.args.notes.now c.args.least
          → Kept (row_at (slot_of (slots_of ps))) here notes least) (sym (h.looked.reads.same sure))
          (i.kept (h.looked.reads.keeps.sure sure)) first)));
      gave = gave_next g.F.Frames.gave c.args.frames.now c.loop-slot.frames c.first_with.new.frames
          a b last i.looked.reads h.looked.reads
          (g.met.F.Frames.gave_more a.pages a.forced c.args.frames.now c.loop-slot.frames
          c.first_with.new.frames i.gave) h.gave;
    }

pub returns-clause-kept : goal.returns-clause-kept
returns-clause-kept g c = λ sure first.
    let b = g.F.Frames.seen c.loop-slot.frames in
    let i = c.loop-slot.invariant in
    kept_page (slots_of b.pages) c.args.page c.loop-slot.slot c.loop-slot.notes c.loop-slot.least
    (omega (arith, i.bound, c.loop-slot-test.false, i.count sure)) (i.kept sure first)
