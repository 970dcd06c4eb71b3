use Rattle.std.proofs.Common.{◌≡◌, ℕ, Option, List, map, ap, subst, ◌∙◌, arith, true}
use Rattle.std.specs.Option.{option_copied}
use Rattle.rg_base.specs.declared.part.SlotOp.{SlotOp}
use Rattle.rg_base.specs.declared.place.Place.{Place}
use Rattle.rg_base.specs.declared.row.Row.{Row}
use Rattle.rg_home.specs.Pages.{made, row_or_empty, TakesRow}
use Rattle.rg_home.specs.Slot.{Slot}
use Rattle.rg_home.specs.Slots.{placed, used, Fits}
use Rattle.rg_page.specs.Bare.{bare}
use Rattle.rg_page.specs.Changed.{brought, other_of, IsShown}
use Rattle.rg_page.specs.Content.{Content}
use Rattle.rg_page.specs.Laid.{IsArea, whole_slot}
use Rattle.rg_page.specs.Stretches.{bytes_of}
use Rattle.rg_page.proofs.BareSlots.{bare_placed, bare_used}
use Rattle.rg_page.proofs.Lays.{seen_bare}
use Rattle.rg_page.proofs.Making.{whole_made, area_made, with_position}
use Rattle.rg_page.proofs.page.Page.apply.Goals as goal

-- a page fits where its headers do
bare_fit : (slots : List Slot) (i : ℕ) (s : Slot) → Fits (placed (map bare slots) i (bare s))
    → Fits (placed slots i s)
bare_fit slots i s fit =
    omega (arith, bare_used (placed slots i s), ap used (bare_placed slots i s), fit)

fit_bare : (slots : List Slot) (i : ℕ) (s : Slot) → Fits (placed slots i s)
    → Fits (placed (map bare slots) i (bare s))
fit_bare slots i s fit =
    omega (arith, bare_used (placed slots i s), ap used (bare_placed slots i s), fit)

-- the slot of the header, the place and the bytes that were put together
whole : (op : SlotOp) (owner : ℕ) (after row : Option Row) (h : Slot) (other : Place)
    → TakesRow after op
    → IsShown (brought op after) → ((r : Row) → h ≡ bare (made owner r op)) → other ≡ other_of op
    → row ≡ brought op after
    → whole_slot h other (bytes_of row) ≡ made owner (row_or_empty after) op
whole op owner after row h other takes shown e_h e_other e_row =
    rw (e_h (row_or_empty after), e_other, e_row) (whole_made op owner after takes shown)

area : (op : SlotOp) (owner : ℕ) (after row : Option Row) (h : Slot) → TakesRow after op
    → IsShown (brought op after) → ((r : Row) → h ≡ bare (made owner r op)) → row ≡ brought op after
    → IsArea h (bytes_of row)
area op owner after row h takes shown e_h e_row =
    rw (e_h (row_or_empty after), e_row) (area_made op owner after takes shown)

pub returns-then-not-fits-clause-unfit : goal.returns-then-not-fits-clause-unfit
returns-then-not-fits-clause-unfit c = λ pf.
    let bare_is =
    seen_bare _ _ _ _ c.self.invariant (ap (λ (p : Content). p.slots) c.self.view_is) in
    let e = c.of-header.ensures.made (row_or_empty (option_copied c.args.after)) in
    let fit = fit_bare c.args.self.now.slots c.args.part.now.slot _ pf.fits in
    let there : Fits (placed c.self.inside.summary c.args.part.now.slot c.of-header.result) =
    rw (bare_is, e) fit in
    let yes : c.fits.result ≡ true = c.fits.ensures.1 there in
    absurd (cc (yes, c.if-not-fits.true))

pub set-requires-clause-fits : goal.set-requires-clause-fits
set-requires-clause-fits c =
    let bare_is =
    seen_bare _ _ _ _ c.self.invariant (ap (λ (p : Content). p.slots) c.self.view_is) in
    subst (λ (xs : List Slot). Fits (placed xs c.args.part.now.slot c.of-header.result)) bare_is
    (c.fits.ensures.0 c.if-not-fits.false)

pub set-requires-clause-area : goal.set-requires-clause-area
set-requires-clause-area c =
    area c.args.part.now.op c.args.tran.0 (option_copied c.args.after) _ _
    (c.takes.ensures.takes.0 c.if-not-takes.false)
    c.takes.ensures.shown c.of-header.ensures.made c.row_of.ensures

pub returns-clause-ok : goal.returns-clause-ok
returns-clause-ok c =
    let slots = c.args.self.now.slots in
    let is = whole c.args.part.now.op c.args.tran.0 (option_copied c.args.after) _ _ _
    (c.takes.ensures.takes.0 c.if-not-takes.false)
    c.takes.ensures.shown c.of-header.ensures.made c.other_of.ensures c.row_of.ensures in
    with_position _ _ c.args.position.0 (c.self-2.view_is ∙ c.set.ensures)
    ∙ ap
    (λ (s : Slot). record c.args.self.now {
      position = c.args.position.0;
      slots = placed slots c.args.part.now.slot s;
    }) is

pub returns-clause-fits : goal.returns-clause-fits
returns-clause-fits c =
    let bare_is =
    seen_bare _ _ _ _ c.self.invariant (ap (λ (p : Content). p.slots) c.self.view_is) in
    let e = c.of-header.ensures.made (row_or_empty (option_copied c.args.after)) in
    let there = c.fits.ensures.0 c.if-not-fits.false in
    record {
      here = c.if-part-self.false ∙ ap (λ (p : Content). p.number) c.self.view_is;
      row = c.takes.ensures.takes.0 c.if-not-takes.false;
      fits = bare_fit c.args.self.now.slots c.args.part.now.slot _ (rw (← e, ← bare_is) there);
    }
