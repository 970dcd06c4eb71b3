use Rattle.std.proofs.Common.{◌<◌, ◌∙◌, ap, arith, sym, subst, length, get_or, List, []}
use Rattle.rg_page.specs.Content.{Content}
use Rattle.rg_page.proofs.Lays.{seen_count, areas_count, area_at, laid_at}
use Rattle.rg_base.specs.declared.place.Place.{Place}
use Rattle.rg_home.specs.Slot.{Slot}
use Rattle.rg_home.specs.Slots.{slot_at}
use Rattle.rg_page.specs.Laid.{whole_slot, IsArea}
use Rattle.rg_page.proofs.page.Page.slot.Goals as goal

pub index-requires : goal.index-requires
index-requires c =
    omega (
      arith,
      c.requires,
      c.self.invariant.places,
      c.self.inside.others.ok.0,
      seen_count _ _ _ _ c.self.invariant (ap (λ (p : Content). p.slots) c.self.view_is),
    )

pub get-requires : goal.get-requires
get-requires c =
    omega (
      arith,
      c.requires,
      areas_count _ _ c.self.invariant.areas_are,
      seen_count _ _ _ _ c.self.invariant (ap (λ (p : Content). p.slots) c.self.view_is),
    )

pub slot-requires : goal.slot-requires
slot-requires c =
    omega (
      arith,
      c.requires,
      seen_count _ _ _ _ c.self.invariant (ap (λ (p : Content). p.slots) c.self.view_is),
    )

pub returns-clause-slot : goal.returns-clause-slot
returns-clause-slot c =
    let seen = ap (λ (p : Content). p.slots) c.self.view_is in
    let is = c.self.invariant in
    let below : c.args.i < length c.self.inside.summary =
    omega (arith, c.requires, seen_count _ _ _ _ is seen) in
    c.slot.ensures.shown
    ∙ ap (whole_slot (slot_at c.self.inside.summary c.args.i) c.index.result.now) c.get.ensures
    ∙ ap
    (λ (p : Place). whole_slot (slot_at c.self.inside.summary c.args.i) p
    (get_or c.self.inside.areas c.args.i [])) c.index.ensures
    ∙ sym
    (laid_at c.self.inside.summary c.self.inside.others.items c.self.inside.areas c.args.i
    c.index.result.now is.places (areas_count _ _ is.areas_are) below)
    ∙ ap (λ (xs : List Slot). slot_at xs c.args.i) seen

pub returns-clause-spelled : goal.returns-clause-spelled
returns-clause-spelled c =
    let seen = ap (λ (p : Content). p.slots) c.self.view_is in
    let is = c.self.invariant in
    let below : c.args.i < length c.self.inside.summary =
    omega (arith, c.requires, seen_count _ _ _ _ is seen) in
    c.slot.ensures.spelled
    (subst (IsArea (slot_at c.self.inside.summary c.args.i)) (sym c.get.ensures)
    (area_at c.self.inside.summary c.self.inside.areas c.args.i is.areas_are below))

pub returns-clause-held : goal.returns-clause-held
returns-clause-held c =
    let seen = ap (λ (p : Content). p.slots) c.self.view_is in
    let is = c.self.invariant in
    let below : c.args.i < length c.self.inside.summary =
    omega (arith, c.requires, seen_count _ _ _ _ is seen) in
    c.slot.ensures.held
    (subst (IsArea (slot_at c.self.inside.summary c.args.i)) (sym c.get.ensures)
    (area_at c.self.inside.summary c.self.inside.areas c.args.i is.areas_are below))
