use Rattle.std.proofs.Common.{◌≡◌, sym, subst, refl, List, arith, length}
use Rattle.rg_home.specs.Pages.{page_at, slot_of}
use Rattle.rg_home.specs.Rows.{row_at}
use Rattle.rg_page.specs.Content.{Content, slots_of}
use Rattle.rg_space.specs.Homes.{place_on}
use Rattle.rg_check.specs.PageTests.StoredRows.{AreSound, IsNoted, IsStoredAt}
use Rattle.rg_check.proofs.PageTestsLemmas.Looking.{gave_next, looked_more}
use Rattle.rg_check.proofs.PageTestsLemmas.Noting.{free_noted, free_stored, step_grows, step_noted}
use Rattle.rg_check.proofs.PageTestsLemmas.Noting.{step_sound, step_stays}
use Rattle.rg_check.proofs.PageTestsLemmas.Order.{HoldsOn, on_all, on_more}
use Rattle.rg_check.proofs.PageTestsLemmas.Says.{none_some, says_no, says_yes}
use Rattle.rg_check.proofs.page_tests.stored.strange_on.Goals as goal

pub returns-then-not-branch-clause-least : goal.returns-then-not-branch-clause-least
returns-then-not-branch-clause-least g c = λ sure.
    let last = g.F.Frames.seen c.test_home.new.frames in
    let i = c.loop-slot.invariant in
    let h = c.test_home.ensures in
    let page = c.args.page in
    let slot = c.loop-slot.slot in
    let stored = c.args.stored.now in (
      refl,
      says_no c.in_ok-test_home.field-0
          (IsStoredAt stored (row_at (slot_of (slots_of last.pages))) (place_on page slot))
          c.if-not-branch.true c.in_ok-test_home.ensures.stored,
      subst
          (λ (ps : List Content). HoldsOn (IsStoredAt stored (row_at (slot_of (slots_of ps)))) page
          slot) (sym (h.looked.reads.same sure)) (i.stored (h.looked.reads.keeps.sure sure)),
    )

pub returns-then-not-branch-clause-noted : goal.returns-then-not-branch-clause-noted
returns-then-not-branch-clause-noted g c = λ sure.
    let last = g.F.Frames.seen c.test_home.new.frames in
    let i = c.loop-slot.invariant in
    let h = c.test_home.ensures in
    let homes = row_at (slot_of (slots_of last.pages)) in
    let place = place_on c.args.page c.loop-slot.slot in
    let noted = c.in_ok-test_home.ensures.noted in
    record {
      grows = λ k is. step_grows homes place c.loop-slot.notes c.test_home.new.notes noted k
          (i.grows k is);
      sound = λ are. step_sound homes place c.loop-slot.notes c.test_home.new.notes noted
          (subst
          (λ (ps : List Content). AreSound (row_at (slot_of (slots_of ps))) c.args.notes.now
          → AreSound (row_at (slot_of (slots_of ps))) c.loop-slot.notes)
          (sym (h.looked.reads.same sure)) (i.sound (h.looked.reads.keeps.sure sure)) are);
      page = λ e. absurd (none_some place (sym e));
    }

pub loop-slot-preserved : goal.loop-slot-preserved
loop-slot-preserved g c =
    let a = g.F.Frames.seen c.args.frames.now in
    let b = g.F.Frames.seen c.loop-slot.frames in
    let last = g.F.Frames.seen c.test_home.new.frames in
    let i = c.loop-slot.invariant in
    let h = c.test_home.ensures in
    let page = c.args.page in
    let slot = c.loop-slot.slot in
    let stored = c.args.stored.now in
    let homes = row_at (slot_of (slots_of last.pages)) in
    let place = place_on page slot in
    let old_notes = c.loop-slot.notes in
    let new_notes = c.test_home.new.notes in
    let noted = c.in_ok-test_home.ensures.noted in
    record {
      bound = omega arith;
      looked = looked_more a b last i.looked h.looked;
      count =
          λ sure. subst (λ (ps : List Content). c.in-Ok.count ≡ length (page_at (slots_of ps) page))
          (sym (h.looked.reads.same sure)) (i.count (h.looked.reads.keeps.sure sure));
      stored = λ sure. on_more (IsStoredAt stored homes) page slot
          (subst
          (λ (ps : List Content). HoldsOn (IsStoredAt stored (row_at (slot_of (slots_of ps)))) page
          slot) (sym (h.looked.reads.same sure)) (i.stored (h.looked.reads.keeps.sure sure)))
          (says_yes c.in_ok-test_home.field-0 (IsStoredAt stored homes place) c.if-not-branch.false
          c.in_ok-test_home.ensures.stored);
      noted = λ sure. on_more (IsNoted homes new_notes) page slot
          (λ p e lt. step_stays homes place old_notes new_notes noted p
          (subst
          (λ (ps : List Content). HoldsOn (IsNoted (row_at (slot_of (slots_of ps))) old_notes) page
          slot) (sym (h.looked.reads.same sure)) (i.noted (h.looked.reads.keeps.sure sure)) p e lt))
          (step_noted homes place old_notes new_notes noted);
      grows = λ k is. step_grows homes place old_notes new_notes noted k (i.grows k is);
      sound = λ sure are. step_sound homes place old_notes new_notes noted
          (subst
          (λ (ps : List Content). AreSound (row_at (slot_of (slots_of ps))) c.args.notes.now
          → AreSound (row_at (slot_of (slots_of ps))) old_notes) (sym (h.looked.reads.same sure))
          (i.sound (h.looked.reads.keeps.sure sure)) are);
      gave = gave_next g.F.Frames.gave c.args.frames.now c.loop-slot.frames c.test_home.new.frames a
          b last i.looked.reads h.looked.reads
          (g.met.F.Frames.gave_more a.pages a.forced c.args.frames.now c.loop-slot.frames
          c.test_home.new.frames i.gave) h.gave;
    }

pub returns-clause-least : goal.returns-clause-least
returns-clause-least g c = λ sure.
    let b = g.F.Frames.seen c.loop-slot.frames in
    let i = c.loop-slot.invariant in
    on_all (IsStoredAt c.args.stored.now (row_at (slot_of (slots_of b.pages)))) (slots_of b.pages)
    (free_stored c.args.stored.now (slots_of b.pages)) c.args.page c.loop-slot.slot
    (omega (arith, i.bound, c.loop-slot-test.false, i.count sure)) (i.stored sure)

pub returns-clause-noted : goal.returns-clause-noted
returns-clause-noted g c = λ sure.
    let b = g.F.Frames.seen c.loop-slot.frames in
    let i = c.loop-slot.invariant in
    record {
      grows = i.grows;
      sound = i.sound sure;
      page = λ e. on_all (IsNoted (row_at (slot_of (slots_of b.pages))) c.loop-slot.notes)
          (slots_of b.pages) (free_noted c.loop-slot.notes (slots_of b.pages)) c.args.page
          c.loop-slot.slot
          (omega (arith, i.bound, c.loop-slot-test.false, i.count sure)) (i.noted sure);
    }
