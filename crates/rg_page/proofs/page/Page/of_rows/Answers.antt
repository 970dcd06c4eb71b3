use Rattle.std.proofs.Common.{◌≡◌, ◌∙◌, ℕ, List, length, map, ap, sym, subst, arith}
use Rattle.rg_home.specs.Slot.{Slot}
use Rattle.rg_home.specs.Slots.{used, IsTrimmed}
use Rattle.rg_home.proofs.Slots.{used-length}
use Rattle.rg_page.specs.Bare.{bare}
use Rattle.rg_page.specs.Content.{Content}
use Rattle.rg_page.specs.Laid.{laid}
use Rattle.rg_page.specs.Packed.{packed_bytes, packed_slots}
use Rattle.rg_page.proofs.BareSlots.{bare_used}
use Rattle.rg_page.proofs.Lays.{length-map_bare}
use Rattle.rg_page.proofs.Packing.{length-packed, packed_areas, packed_bare, packed_laid}
use Rattle.rg_page.proofs.Packing.{packed_trimmed}
use Rattle.rg_page.proofs.page.Page.of_rows.Goals as goal

pub headers_of-requires : goal.headers_of-requires
headers_of-requires c =
    omega
    (arith, used-length (packed_slots c.args.rows.now), length-packed c.args.rows.now, c.requires)

pub of-summary-requires-clause-fits : goal.of-summary-requires-clause-fits
of-summary-requires-clause-fits c =
    omega (
      arith,
      ap used c.in_ok-headers_of.ensures.items,
      bare_used (packed_slots c.args.rows.now),
      c.requires,
    )

pub of-summary-requires-clause-trimmed : goal.of-summary-requires-clause-trimmed
of-summary-requires-clause-trimmed c =
    subst IsTrimmed (sym c.in_ok-headers_of.ensures.items) (packed_trimmed c.args.rows.now)

pub pad_places-requires-clause-room : goal.pad_places-requires-clause-room
pad_places-requires-clause-room c =
    omega (
      arith,
      used-length (packed_slots c.args.rows.now),
      length-packed c.args.rows.now,
      c.requires,
      c.in_ok-others.ensures.capacity,
    )

pub of-requires : goal.of-requires
of-requires c =
    let rows = c.args.rows.now in
    let is : c.summary.inside.headers.items ≡ map bare (packed_slots rows) =
    c.summary.view_is ∙ c.of-summary.ensures ∙ c.in_ok-headers_of.ensures.items in
    let areas : c.in_ok-areas_of.field-0 ≡ packed_bytes rows = c.in_ok-areas_of.ensures.areas in
    record {
      places = omega (
        arith,
        c.pad_places.ensures.count,
        c.pad_places.new.others.ok.0,
        ap (λ (xs : List Slot). length xs) is,
        length-map_bare (packed_slots rows),
        length-packed rows,
      );
      areas_are = rw (is, areas) (packed_areas rows c.in_ok-areas_of.ensures.shown);
      headers_are = rw is (packed_bare rows);
      fits = omega (arith, ap used is, bare_used (packed_slots rows), c.requires);
      trimmed = rw is (packed_trimmed rows);
      room = omega (arith, c.in_ok-others.ensures.capacity, c.pad_places.ensures.capacity);
    }

-- the page of these parts
abbrev page_made : (copy number : ℕ) (slots : List Slot) → Content
page_made copy number slots = record { copy = copy; number = number; position = 0; slots = slots }

pub returns : goal.returns
returns c =
    let rows = c.args.rows.now in
    let others = c.pad_places.new.others.items in
    let is : c.summary.inside.headers.items ≡ map bare (packed_slots rows) =
    c.summary.view_is ∙ c.of-summary.ensures ∙ c.in_ok-headers_of.ensures.items in
    let count : length others ≡ length rows =
    omega (arith, c.pad_places.ensures.count, c.pad_places.new.others.ok.0) in
    let slots : laid c.summary.inside.headers.items others c.in_ok-areas_of.field-0
    ≡ packed_slots rows =
    rw (is, c.in_ok-areas_of.ensures.areas)
    (packed_laid rows others count c.in_ok-areas_of.ensures.shown) in
    c.of.ensures ∙ ap (page_made c.args.copy c.args.number) slots
