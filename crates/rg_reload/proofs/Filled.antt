-- One more page of a new copy.
use Rattle.std.proofs.Common.{◌≡◌, ℕ, ◌+◌, ◌≤◌, ◌<◌, List, [], ◌∷◌, ◌++◌, length, take, drop, sym}
use Rattle.std.proofs.Common.{ap, subst, ◌∙◌, arith, vec_capacity, length-append}
use Rattle.std.proofs.lemmas.List.{length-drop, length-take-le, take-append-drop}
use Rattle.std.specs.declared.vec.Vec.{Vec}
use Rattle.std.specs.declared.alloc.Global.{Global}
use Rattle.rg_space.proofs.Took.{past_page}
use Rattle.rg_base.specs.declared.place.Place.{Place}
use Rattle.rg_base.specs.declared.row.Row.{Row}
use Rattle.rg_model.specs.Packed.{page_at, page_count}
use Rattle.rg_page.specs.Content.{Content}
use Rattle.rg_page.specs.declared.list.ListFrames.{ListFrames}
use Rattle.rg_reload.specs.Moved.{Moved, moved_on, moved_from, packed_rows, page_taken}
use Rattle.rg_reload.specs.Moved.{pages_filled, pairs_of}
use Rattle.rg_home.specs.Slot.{Slot}
use Rattle.rg_home.specs.Slots.{Fits}
use Rattle.rg_reload.specs.Pages.{HasRows, page_of, row_slots, slots_on}
use Rattle.rg_reload.specs.Reloading.{Reloading, IsReloading, placed_rows, rows_left}
use Rattle.rg_reload.specs.declared.packer.NewCopy.{NewCopy}
use Rattle.rg_reload.specs.declared.packer.NewCopy.TheVariants.{Filling}
use Rattle.rg_reload.proofs.Copies.{rows-fill, slots_on-append, slots_on-here}
use Rattle.rg_reload.proofs.Taken.{length-row_slots}
use Rattle.rg_reload.proofs.Numbers.{page_at-next, page_count-more}
use Rattle.rg_reload.proofs.Steps.{NextPage, next_page_of, closed, page_taken-high, page_taken-low}
use Rattle.rg_reload.proofs.Steps.{pages_filled-page, pairs_of-append}

-- with the next page, of the rows that it takes
abbrev pub one_more : Reloading → Reloading
one_more p =
    record p { count = p.count + page_taken p.options (rows_left p); filled = p.filled + 1 }

-- a page with the rows that it takes was added to the pages so far, and so were their pairs
pub record AddsPage (p : Reloading) (pairs pairs_new : Vec (Place × Place) Global)
    (pages : List Content)
    (frames : ListFrames) : Type 0 where
  pub rest : p.count < length p.rows
  pub within : page_count p.options.freepage (p.filled + 1) ≤ p.capacity
  pub count : length pages ≡ page_count p.options.freepage p.filled
  pub rows : HasRows pages (placed_rows p)
  pub page : frames.pages.items ≡ pages
      ++ page_of p.copy (page_count p.options.freepage p.filled + 1)
      (row_slots (take (page_taken p.options (rows_left p)) (rows_left p))) ∷ []
  pub fits : Fits (row_slots (take (page_taken p.options (rows_left p)) (rows_left p)))
  pub copy : frames.copy ≡ p.copy
  pub reserved : frames.reserved.items ≡ []
  pub pairs_are : pairs_new.items ≡ pairs.items
      ++ pairs_of
      (moved_on (page_count p.options.freepage p.filled + 1) 0
      (take (page_taken p.options (rows_left p)) (rows_left p)))
  pub room : vec_capacity pairs ≤ vec_capacity pairs_new

pub page_added : (p : Reloading) (pairs pairs_new : Vec (Place × Place) Global) (made : NewCopy)
    (pages : List Content) (frames : ListFrames)
    → IsReloading p pairs made → AddsPage p pairs pairs_new pages frames
    → IsReloading (one_more p) pairs_new (Filling frames)
page_added p pairs pairs_new made pages frames i a =
    let taken : ℕ = page_taken p.options (rows_left p) in
    let number : ℕ = page_count p.options.freepage p.filled + 1 in
    let first : List (Place × Row) = take taken (rows_left p) in
    let some : 0 < length (rows_left p) = omega (arith, length-drop p.count p.rows, a.rest) in
    let next : NextPage p.options (packed_rows p.options p.rows) p.rows p.count p.filled =
    next_page_of p.options (packed_rows p.options p.rows) p.rows p.count p.filled some i.left in
    let placed : placed_rows (one_more p) ≡ placed_rows p ++ moved_on number 0 first =
    next.placed
    ∙ ap (λ (n : ℕ). placed_rows p ++ moved_on n 0 first) (page_at-next p.options.freepage p.filled)
    in
    record {
      few = omega
          (arith, page_taken-high p.options (rows_left p), length-drop p.count p.rows, a.rest);
      left = next.left;
      pairs_are = a.pairs_are
          ∙ ap (λ (m : List (Place × Place)). m ++ pairs_of (moved_on number 0 first)) i.pairs_are
          ∙ sym (pairs_of-append (placed_rows p) (moved_on number 0 first))
          ∙ ap pairs_of (sym placed);
      room = omega (arith, i.room, a.room);
      within = a.within;
      apart = i.apart;
      filled_are = ap (λ (n : ℕ). n + 1) i.filled_are
          ∙ sym
          (ap pages_filled placed
          ∙ pages_filled-page (placed_rows p) number taken (rows_left p)
          (page_taken-low p.options (rows_left p) some) some);
      made_is = record {
        copy_is = a.copy;
        pages = omega (
          arith,
          ap length a.page,
          a.count,
          page_count-more p.options.freepage p.filled,
          length-append pages (page_of p.copy number (row_slots first) ∷ []),
        );
        reserved = a.reserved;
        rows_are =
            subst (λ (ps : List Content). HasRows ps (placed_rows (one_more p))) (sym a.page) (subst
            (λ (m : List Moved). HasRows (pages ++ page_of p.copy number (row_slots first) ∷ []) m)
            (sym placed)
            (rows-fill pages p.copy number (placed_rows p) first (omega (arith, a.count)) a.fits
            a.rows));
      };
    }

-- the rows that the next page takes are all that it has
pub record PageRows (p : Reloading) : Type 0 where
  pub placed : placed_rows (one_more p)
      ≡ placed_rows p
      ++ moved_on (page_at p.options.freepage (p.filled + 1)) 0
      (take (page_taken p.options (rows_left p)) (rows_left p))
  pub on_page :
      length (slots_on (page_at p.options.freepage (p.filled + 1)) (packed_rows p.options p.rows))
      ≡ page_taken p.options (rows_left p)

pub page_rows : (p : Reloading) (pairs : Vec (Place × Place) Global) (frames : ListFrames)
    → p.count < length p.rows
    → IsReloading p pairs (Filling frames) → PageRows p
page_rows p pairs frames h i =
    let packed : List Moved = packed_rows p.options p.rows in
    let taken : ℕ = page_taken p.options (rows_left p) in
    let page : ℕ = page_at p.options.freepage (p.filled + 1) in
    let first : List Moved = moved_on page 0 (take taken (rows_left p)) in
    let rest : List Moved =
    moved_from p.options (p.filled + 1) 0 0 (drop (p.count + taken) p.rows) in
    let next : NextPage p.options packed p.rows p.count p.filled =
    next_page_of p.options packed p.rows p.count p.filled
    (omega (arith, length-drop p.count p.rows, h)) i.left in
    let split : packed ≡ (placed_rows p ++ first) ++ rest =
    sym (take-append-drop (p.count + taken) packed)
    ∙ ap (λ (m : List Moved). m ++ drop (p.count + taken) packed) next.placed
    ∙ ap (λ (m : List Moved). (placed_rows p ++ first) ++ m) next.left in
    let none : slots_on page (placed_rows p) ≡ [] =
    sym (i.made_is.rows_are.slots page)
    ∙ past_page frames.pages.items page
    (omega (arith, i.made_is.pages, page_at-next p.options.freepage p.filled)) in
    let one : slots_on page packed
    ≡ (slots_on page (placed_rows p) ++ slots_on page first) ++ slots_on page rest =
    ap (slots_on page) split ∙ slots_on-append page (placed_rows p ++ first) rest
    ∙ ap (λ (s : List Slot). s ++ slots_on page rest) (slots_on-append page (placed_rows p) first)
    in
    record {
      placed = next.placed;
      on_page = ap length one
          ∙ length-append (slots_on page (placed_rows p) ++ slots_on page first)
          (slots_on page rest)
          ∙ omega (
            arith,
            length-append (slots_on page (placed_rows p)) (slots_on page first),
            ap length none,
            ap length (slots_on-here page 0 (take taken (rows_left p))),
            length-row_slots (take taken (rows_left p)),
            length-take-le taken (rows_left p) (page_taken-high p.options (rows_left p)),
            ap length (closed p.options (p.filled + 1) (drop (p.count + taken) p.rows)).slots,
          );
    }
