use Rattle.std.proofs.Common.{◌∙◌, sym, subst, ap, List, arith}
use Rattle.std.specs.FinMap as map
use Rattle.std.specs.FinMap.{get-empty}
use Rattle.std.specs.Ordering.{nat_cmp}
use Rattle.rg_base.specs.declared.place.Place.{Place}
use Rattle.rg_base.proofs.Small.{none_of}
use Rattle.rg_home.specs.Pages.{slot_of}
use Rattle.rg_home.specs.Rows.{row_at}
use Rattle.rg_page.specs.Content.{Content, slots_of}
use Rattle.rg_space.proofs.Whole.{slots_count}
use Rattle.rg_check.specs.PageTests.Keys.{Notes}
use Rattle.rg_check.specs.PageTests.StoredRows.{AreSound, IsNoted, IsStoredAt}
use Rattle.rg_check.proofs.PageTestsLemmas.Looking.{gave_next, looked_more, looked_same}
use Rattle.rg_check.proofs.PageTestsLemmas.Noting.{free_noted, free_stored}
use Rattle.rg_check.proofs.PageTestsLemmas.Order.{HoldsTo, least_of, to_all, to_more, to_more_of}
use Rattle.rg_check.proofs.PageTestsLemmas.Order.{to_none}
use Rattle.rg_check.proofs.PageTestsLemmas.Says.{none_some}
use Rattle.rg_check.proofs.page_tests.stored.strange_in.Goals as goal

pub loop-n-init : goal.loop-n-init
loop-n-init g c =
    let a = g.F.Frames.seen c.args.frames.now in
    let pages = slots_of a.pages in
    record {
      bound = omega arith;
      looked = looked_same a;
      stored = λ sure. to_none (IsStoredAt c.args.stored.now (row_at (slot_of pages))) pages
          (free_stored c.args.stored.now pages);
      noted = λ sure. to_none (IsNoted (row_at (slot_of pages)) c.args.notes.now) pages
          (free_noted c.args.notes.now pages);
      sound = λ sure k p at. absurd
          (none_some p
          (sym (ap (λ (m : Notes). map.get m k) c.requires.none ∙ get-empty {X = Place} nat_cmp k)
          ∙ at));
      gave = g.met.F.Frames.gave_none a.pages a.forced c.args.frames.now;
    }

pub returns-then-is_some-clause-least : goal.returns-then-is_some-clause-least
returns-then-is_some-clause-least g c = λ sure.
    let last = g.F.Frames.seen c.strange_on.new.frames in
    let i = c.loop-n.invariant in
    let h = c.strange_on.ensures in
    let n = c.loop-n.n in
    let stored = c.args.stored.now in
    least_of (IsStoredAt stored (row_at (slot_of (slots_of last.pages)))) n c.in_ok-found.found
    (sym c.is_some.ensures ∙ c.if-is_some.true)
    (subst (λ (ps : List Content). HoldsTo (IsStoredAt stored (row_at (slot_of (slots_of ps)))) n)
    (sym (h.looked.reads.same sure)) (i.stored (h.looked.reads.keeps.sure sure)))
    (c.in_ok-found.ensures.least sure)

pub returns-then-is_some-clause-sound : goal.returns-then-is_some-clause-sound
returns-then-is_some-clause-sound g c = λ sure.
    let i = c.loop-n.invariant in
    let h = c.strange_on.ensures in
    (c.in_ok-found.ensures.noted sure).sound
    (subst (λ (ps : List Content). AreSound (row_at (slot_of (slots_of ps))) c.loop-n.notes)
    (sym (h.looked.reads.same sure)) (i.sound (h.looked.reads.keeps.sure sure)))

pub loop-n-preserved : goal.loop-n-preserved
loop-n-preserved g c =
    let a = g.F.Frames.seen c.args.frames.now in
    let b = g.F.Frames.seen c.loop-n.frames in
    let last = g.F.Frames.seen c.strange_on.new.frames in
    let i = c.loop-n.invariant in
    let h = c.strange_on.ensures in
    let n = c.loop-n.n in
    let stored = c.args.stored.now in
    let homes = row_at (slot_of (slots_of last.pages)) in
    let none = sym c.is_some.ensures ∙ c.if-is_some.false in
    record {
      bound = omega arith;
      looked = looked_more a b last i.looked h.looked;
      stored = λ sure. to_more_of (IsStoredAt stored homes) n c.in_ok-found.found none
          (subst
          (λ (ps : List Content). HoldsTo (IsStoredAt stored (row_at (slot_of (slots_of ps)))) n)
          (sym (h.looked.reads.same sure)) (i.stored (h.looked.reads.keeps.sure sure)))
          (c.in_ok-found.ensures.least sure);
      noted = λ sure. to_more (IsNoted homes c.strange_on.new.notes) n
          (λ p le row at. (c.in_ok-found.ensures.noted sure).grows row.key
          (subst
          (λ (ps : List Content). HoldsTo (IsNoted (row_at (slot_of (slots_of ps))) c.loop-n.notes)
          n) (sym (h.looked.reads.same sure)) (i.noted (h.looked.reads.keeps.sure sure)) p le row
          at))
          ((c.in_ok-found.ensures.noted sure).page (none_of c.in_ok-found.found none));
      sound = λ sure. (c.in_ok-found.ensures.noted sure).sound
          (subst (λ (ps : List Content). AreSound (row_at (slot_of (slots_of ps))) c.loop-n.notes)
          (sym (h.looked.reads.same sure)) (i.sound (h.looked.reads.keeps.sure sure)));
      gave = gave_next g.F.Frames.gave c.args.frames.now c.loop-n.frames c.strange_on.new.frames a b
          last i.looked.reads h.looked.reads
          (g.met.F.Frames.gave_more a.pages a.forced c.args.frames.now c.loop-n.frames
          c.strange_on.new.frames i.gave) h.gave;
    }

pub returns-clause-least : goal.returns-clause-least
returns-clause-least g c = λ sure.
    let b = g.F.Frames.seen c.loop-n.frames in
    to_all (IsStoredAt c.args.stored.now (row_at (slot_of (slots_of b.pages)))) (slots_of b.pages)
    (free_stored c.args.stored.now (slots_of b.pages)) c.loop-n.n
    (omega (
      arith,
      slots_count b.pages,
      c.loop-n-test.false,
      c.count-count.ensures,
      c.loop-n.invariant.looked.reads.count,
    )) (c.loop-n.invariant.stored sure)

pub returns-clause-noted : goal.returns-clause-noted
returns-clause-noted g c = λ sure e.
    let b = g.F.Frames.seen c.loop-n.frames in
    to_all (IsNoted (row_at (slot_of (slots_of b.pages))) c.loop-n.notes) (slots_of b.pages)
    (free_noted c.loop-n.notes (slots_of b.pages)) c.loop-n.n
    (omega (
      arith,
      slots_count b.pages,
      c.loop-n-test.false,
      c.count-count.ensures,
      c.loop-n.invariant.looked.reads.count,
    )) (c.loop-n.invariant.noted sure)
