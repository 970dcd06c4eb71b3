use Rattle.std.proofs.Common.{◌≡◌, ℕ, List, [], length, take, sym, ap, subst, ◌∙◌, arith}
use Rattle.std.specs.Option.{option_copied}
use Rattle.rg_base.specs.declared.place.Place.{Place}
use Rattle.rg_home.specs.Pages.{altered}
use Rattle.rg_home.specs.Slot.{Slot}
use Rattle.rg_home.specs.Slots.{placed, Fits}
use Rattle.rg_home.proofs.Slots.{used-length}
use Rattle.rg_page.specs.Bare.{bare, nowhere}
use Rattle.rg_page.specs.Content.{Content}
use Rattle.rg_page.specs.Laid.{laid, whole_slot}
use Rattle.rg_page.specs.Stretches.{bytes_of}
use Rattle.rg_page.proofs.BareSlots.{bare_placed}
use Rattle.rg_page.proofs.Buffer.{length-bytes_of}
use Rattle.rg_page.proofs.Lays.{areas_count, seen_bare}
use Rattle.rg_page.proofs.Making.{with_slots}
use Rattle.rg_page.proofs.Setting.{is_left, bytes_fit, set_places, set_areas, set_laid}
use Rattle.rg_page.proofs.page.Page.set.Goals as goal

pub set-requires : goal.set-requires
set-requires c =
    let bare_is =
    seen_bare _ _ _ _ c.self.invariant (ap (λ (p : Content). p.slots) c.self.view_is) in
    subst (λ (xs : List Slot). Fits (placed xs c.args.i c.args.header)) (sym bare_is)
    c.requires.fits

pub put_place-requires-clause-left : goal.put_place-requires-clause-left
put_place-requires-clause-left c =
    let left = is_left c.self.inside.summary c.args.i c.args.header c.self.invariant.trimmed in
    let e : c.len-left.result ≡ length (placed c.self.inside.summary c.args.i c.args.header) =
    c.len-left.ensures.count ∙ ap (λ (xs : List Slot). length xs) c.set.ensures in
    let n : c.self.inside.others.len ≡ length c.self.inside.summary =
    omega (arith, c.self.inside.others.ok.0, c.self.invariant.places) in
    rw (n, e) left

pub put_place-requires-clause-few : goal.put_place-requires-clause-few
put_place-requires-clause-few c =
    omega (arith, c.len-left.ensures.count, used-length c.set.new.self, c.len-left.ensures.fits)

pub put_area-requires-clause-few : goal.put_area-requires-clause-few
put_area-requires-clause-few c =
    omega (arith, c.len-left.ensures.count, used-length c.set.new.self, c.len-left.ensures.fits)

pub put_area-requires-clause-fits : goal.put_area-requires-clause-fits
put_area-requires-clause-fits c =
    let row = option_copied c.args.row in
    let fit = subst Fits c.set.ensures c.len-left.ensures.fits in
    omega (
      arith,
      length-bytes_of row,
      bytes_fit c.self.inside.summary c.args.i c.args.header c.self.invariant.trimmed
          c.self.inside.areas
          (bytes_of row) c.self.invariant.areas_are c.requires.area c.self.invariant.fits fit,
    )

pub put_area-requires-clause-left : goal.put_area-requires-clause-left
put_area-requires-clause-left c =
    let left = is_left c.self.inside.summary c.args.i c.args.header c.self.invariant.trimmed in
    let e : c.len-left.result ≡ length (placed c.self.inside.summary c.args.i c.args.header) =
    c.len-left.ensures.count ∙ ap (λ (xs : List Slot). length xs) c.set.ensures in
    let n : length c.self.inside.areas ≡ length c.self.inside.summary =
    areas_count _ _ c.self.invariant.areas_are in
    rw (n, e) left

pub invariant_of-self : goal.invariant_of-self
invariant_of-self c =
    let headers = c.self.inside.summary in
    let bytes = bytes_of (option_copied c.args.row) in
    let is = c.self.invariant in
    let e : c.set.new.self ≡ placed headers c.args.i c.args.header = c.set.ensures in
    let n : c.len-left.result ≡ length (placed headers c.args.i c.args.header) =
    c.len-left.ensures.count ∙ ap (λ (xs : List Slot). length xs) e in
    let others : c.put_place.new.others.items
    ≡ take (length (placed headers c.args.i c.args.header)) (altered nowhere (λ _. c.args.other)
    c.self.inside.others.items c.args.i) =
    c.put_place.ensures.items
    ∙ ap (λ k. take k (altered nowhere (λ _. c.args.other) c.self.inside.others.items c.args.i)) n
    in
    let areas : c.put_area.new.areas
    ≡ take (length (placed headers c.args.i c.args.header)) (altered [] (λ _. bytes)
    c.self.inside.areas c.args.i) =
    c.put_area.ensures
    ∙ ap (λ k. take k (altered [] (λ _. bytes) c.self.inside.areas c.args.i)) n in
    record {
      places = ap (λ (xs : List Place). length xs) others
          ∙ set_places headers c.self.inside.others.items c.self.inside.areas c.args.i c.args.header
          c.args.other bytes is.places is.areas_are c.requires.area
          ∙ ap (λ (xs : List Slot). length xs) (sym e);
      areas_are = rw (e, areas)
          (set_areas headers c.self.inside.others.items c.self.inside.areas c.args.i c.args.header
          c.args.other bytes is.places is.areas_are c.requires.area);
      headers_are = rw e (bare_placed headers c.args.i c.args.header
          ∙ ap (λ (xs : List Slot). placed xs c.args.i (bare c.args.header)) is.headers_are
          ∙ ap (placed headers c.args.i) c.requires.bare);
      fits = c.len-left.ensures.fits;
      trimmed = c.len-left.ensures.trimmed;
      room = omega (arith, is.room, c.put_place.ensures.capacity);
    }

pub returns : goal.returns
returns c =
    let headers = c.self.inside.summary in
    let bytes = bytes_of (option_copied c.args.row) in
    let is = c.self.invariant in
    let e : c.set.new.self ≡ placed headers c.args.i c.args.header = c.set.ensures in
    let n : c.len-left.result ≡ length (placed headers c.args.i c.args.header) =
    c.len-left.ensures.count ∙ ap (λ (xs : List Slot). length xs) e in
    let others : c.put_place.new.others.items
    ≡ take (length (placed headers c.args.i c.args.header)) (altered nowhere (λ _. c.args.other)
    c.self.inside.others.items c.args.i) =
    c.put_place.ensures.items
    ∙ ap (λ k. take k (altered nowhere (λ _. c.args.other) c.self.inside.others.items c.args.i)) n
    in
    let areas : c.put_area.new.areas
    ≡ take (length (placed headers c.args.i c.args.header)) (altered [] (λ _. bytes)
    c.self.inside.areas c.args.i) =
    c.put_area.ensures
    ∙ ap (λ k. take k (altered [] (λ _. bytes) c.self.inside.areas c.args.i)) n in
    let slots : laid c.set.new.self c.put_place.new.others.items c.put_area.new.areas
    ≡ placed c.args.self.now.slots c.args.i (whole_slot c.args.header c.args.other bytes) =
    ap (λ (xs : List Slot). laid xs c.put_place.new.others.items c.put_area.new.areas) e
    ∙ ap (λ (xs : List Place). laid (placed headers c.args.i c.args.header) xs c.put_area.new.areas)
    others
    ∙ ap
    (λ (xs : List (List ℕ)). laid (placed headers c.args.i c.args.header)
    (take (length (placed headers c.args.i c.args.header))
    (altered nowhere (λ _. c.args.other) c.self.inside.others.items c.args.i)) xs) areas
    ∙ set_laid headers c.self.inside.others.items c.self.inside.areas c.args.i c.args.header
    c.args.other bytes is.places is.areas_are c.requires.area
    ∙ ap (λ (p : Content). placed p.slots c.args.i (whole_slot c.args.header c.args.other bytes))
    c.self.view_is in
    with_slots _ c.args.self.now _ _ c.self.view_is slots
