-- The copy of a page.
use Rattle.std.proofs.Common.{◌≡◌, ◌==◌, ◌≤◌, ◌+◌, ◌*◌, ℕ, suc, zero, Bool, List, Option}
use Rattle.std.proofs.Common.{Some, None, if◌then◌else◌, length, sym, ◌∙◌, ap, subst, arith}
use Rattle.std.proofs.Common.{length-append}
use Rattle.std.proofs.lemmas.List.{get_or_past}
use Rattle.rg_base.specs.declared.place.Place.{Place}
use Rattle.rg_base.specs.declared.position.Position.{Position}
use Rattle.rg_base.specs.declared.row.Row.{Row}
use Rattle.rg_base.proofs.Small.{nat_itself}
use Rattle.rg_feed.specs.Fold.Fold.{row_in, step_at}
use Rattle.rg_feed.specs.Fold.Lawful.{IsWell}
use Rattle.rg_feed.specs.declared.fold.item.Item.{Item}
use Rattle.rg_feed.specs.declared.fold.item.Item.TheVariants.{PageCopy}
use Rattle.rg_home.specs.Pages.{page_at, slot_of}
use Rattle.rg_home.specs.Rows.{home_row, row_at}
use Rattle.rg_home.specs.Slot.{Free, Slot}
use Rattle.rg_home.proofs.Slots.{used-length}
use Rattle.rg_page.specs.Content.{Content, slots_of}
use Rattle.rg_space.specs.Homes.{home_with, homes_on, place_on, rows_from}
use Rattle.rg_engine.specs.Engine.{seen_in, slots_in}
use Rattle.rg_engine.specs.Sends.{IsCopyOf, rows_copied}
use Rattle.rg_engine.specs.Shows.{IsShown, left_by}
use Rattle.rg_engine.specs.declared.engine.Engine.{Engine}
use Rattle.rg_engine.proofs.Sessions.{left_consistent}

-- a slot has one row at most
one_row : (p : Place) (o : Option Row) → length (home_with p o) ≤ 1
one_row p None = omega arith
one_row p (Some row) = omega arith

few_rows : (at : Place → Slot) (n i count : ℕ) → length (rows_from at n i count) ≤ count
few_rows at n i zero = omega arith
few_rows at n i (suc count) =
    omega (
      arith,
      length-append (home_with (place_on n i) (row_at at (place_on n i)))
          (rows_from at n (i + 1) count),
      one_row (place_on n i) (row_at at (place_on n i)),
      few_rows at n (i + 1) count,
    )

-- a page has 225 slots at most
page_fits : (d : Engine) → IsShown d → (page : ℕ) → 18 * length (page_at (slots_in d) page) ≤ 4064
page_fits d shown page =
    let shows = shown.shows in
    let good = left_consistent shown.state shown.allowed d shows in
    let fits = good.ready.proper.sound.fits page in
    subst (λ (ps : List (List Slot)). 18 * length (page_at ps page) ≤ 4064) (sym shows.by.slots)
    (omega (arith, used-length (page_at (left_by shows.first d).pages page), fits))

few_homes : (d : Engine) → IsShown d → (page : ℕ) → length (homes_on (slots_in d) page) ≤ 225
few_homes d shown page = omega (
  arith,
  few_rows (slot_of (slots_in d)) page 0 (length (page_at (slots_in d) page)),
  page_fits d shown page,
)

pub none_high : (d : Engine) → IsShown d → (place : Place) → 225 ≤ place.slot
    → row_at (slot_of (slots_in d)) place ≡ None
none_high d shown place high =
    ap (λ (s : Slot). home_row (slot_of (slots_in d)) s)
    (get_or_past (page_at (slots_in d) place.page) place.slot Free
    (omega (arith, high, page_fits d shown place.page)))

homes_are : (d : Engine) (after : List Content) (page : ℕ) (item : Item) (position : Position)
    → item ≡ PageCopy page position (homes_on (slots_of after) page) → after ≡ (seen_in d).pages
    → item ≡ PageCopy page position (homes_on (slots_in d) page)
homes_are d after page item position is same =
    is ∙ ap (λ (ps : List Content). PageCopy page position (homes_on (slots_of ps) page)) same

pub copy_few : (d : Engine) → IsShown d
    → (after : List Content) (page : ℕ) (item : Item) (position : Position)
    → item ≡ PageCopy page position (homes_on (slots_of after) page) → after ≡ (seen_in d).pages
    → rows_copied item ≤ 225
copy_few d shown after page item position is same = subst (λ (x : Item). rows_copied x ≤ 225)
    (sym (homes_are d after page item position is same)) (few_homes d shown page)

pub copy_is : (d : Engine) → IsShown d
    → (after : List Content) (page : ℕ) (item : Item) (position : Position) (count : ℕ)
    → item ≡ PageCopy page position (homes_on (slots_of after) page) → IsWell item
    → ((place : Place) → place.page ≡ page
    → step_at place item None ≡ row_at (slot_of (slots_of after)) place)
    → after ≡ (seen_in d).pages → count ≡ rows_copied item → position.0 ≡ length d.log.records
    → IsCopyOf d page item count
copy_is d shown after page item position count is well rows same counted at =
    let homes : List (Place × Row) = homes_on (slots_in d) page in
    let are : item ≡ PageCopy page position homes = homes_are d after page item position is same in
    let copied_is : item ≡ PageCopy page (record { 0 = length d.log.records }) homes =
    are ∙ ap (λ (n : ℕ). PageCopy page (record { 0 = n }) homes) at in
    record {
      copied = homes;
      item_is = copied_is;
      count_is = counted ∙ ap rows_copied copied_is;
      few = subst (λ (n : ℕ). n ≤ 225) (sym (counted ∙ ap rows_copied copied_is))
          (few_homes d shown page);
      of_page = subst IsWell copied_is well;
      rows = λ place here.
          ap (λ (b : Bool). if b then row_in homes place else None)
          (sym (ap (λ (n : ℕ). page == n) here ∙ nat_itself page))
          ∙ ap (λ (x : Item). step_at place x None) (sym copied_is)
          ∙ rows place here
          ∙ ap (λ (ps : List Content). row_at (slot_of (slots_of ps)) place) same;
    }
