-- The plan of an undo: what it does, and that it fits.
use Rattle.rg_base.specs.RowBytes.{row_size}
use Rattle.std.proofs.Common.{◌≡◌, inl, inr, ◌⊎◌, ℕ, ◌≤◌, nat_le, Bool, true, false, List, Option}
use Rattle.std.proofs.Common.{Some, None, refl, ap, subst, arith, if◌then◌else◌}
use Rattle.std.proofs.lemmas.Bool.{leb-true, leb-false}
use Rattle.rg_base.specs.declared.place.Place.{Place}
use Rattle.rg_base.specs.declared.row.Row.{Row as TableRow}
use Rattle.rg_home.specs.Slot.{Slot}
use Rattle.rg_home.specs.Slot.{Free, Row, Pointer, Over, DeadRow, DeadPointer, DeadOver}
use Rattle.rg_home.specs.Slots.{capacity_of}
use Rattle.rg_base.specs.declared.part.SlotOp.TheVariants as Op
use Rattle.rg_base.specs.Place.{same_place}
use Rattle.rg_home.specs.Rows.{Tied}
use Rattle.rg_home.specs.Pages.{slot_of, row_or_empty}
use Rattle.rg_base.proofs.SamePlace.{same_place-true}
use Rattle.rg_home.specs.Written.{Written}
use Rattle.rg_home.specs.Able.{IsHomeOf, IsAreaOf, AreaHolds, RowFits, Undoable}
use Rattle.rg_home.specs.Undo.{lies_undone, undo_parts, undo_row, back_from, lies_in, over_before}
use Rattle.rg_laws_pages.proofs.UndoRoomLemmas.Shape.{Whole, one_home, with_left, in_area, to_plain}
use Rattle.rg_laws_pages.proofs.UndoRoomLemmas.Shape.{to_moved}

module _ (by : Option ℕ) (t : ℕ) (pages : List (List Slot)) (tied : Tied (slot_of pages))
    (home : Place) where
  -- of an insert
  drop_whole : (over : Option Place) (s : Slot) → slot_of pages home ≡ s → IsHomeOf by s
      → Whole by t (row_or_empty None) pages tied home (undo_parts pages home over None s) None None
  drop_whole over (Row c b) e is = one_home by t (row_or_empty None) pages tied home (Row c b)
      (Op.DeadRow c) e is refl refl refl refl tt
  drop_whole over (DeadRow c u) e is = one_home by t (row_or_empty None) pages tied home
      (DeadRow c u) (Op.DeadRow c) e is refl refl refl refl tt
  drop_whole over (DeadPointer c p u) e is = one_home by t (row_or_empty None) pages tied home
      (DeadPointer c p u) (Op.DeadRow c) e is refl refl refl refl tt
  drop_whole over (Pointer c o) e is = with_left by t (row_or_empty None) pages tied home c o
      (Op.DeadPointer c o) e refl refl refl tt
  drop_whole over Free e is = absurd is
  drop_whole over (Over c b p) e is = absurd is
  drop_whole over (DeadOver c p u) e is = absurd is

  module _ (row : TableRow) where
    -- at home
    home_whole : (over : Option Place) (s : Slot) → slot_of pages home ≡ s → IsHomeOf by s
        → row_size row ≤ capacity_of s
        → Whole by t row pages tied home (undo_row pages home over s true) (Some row) (Some home)
    home_whole over (Row c b) e is l =
        one_home by t row pages tied home (Row c b) (Op.Row c) e is refl refl tt refl l
    home_whole over (DeadRow c u) e is l =
        one_home by t row pages tied home (DeadRow c u) (Op.Row c) e is refl refl tt refl l
    home_whole over (DeadPointer c p u) e is l =
        one_home by t row pages tied home (DeadPointer c p u) (Op.Row c) e is refl refl tt refl l
    home_whole over (Pointer c o) e is l =
        with_left by t row pages tied home c o (Op.Row c) e refl tt refl l
    home_whole over Free e is l = absurd is
    home_whole over (Over c b p) e is l = absurd is
    home_whole over (DeadOver c p u) e is l = absurd is

    pointer_back : (q : Place) (c : ℕ) (o : Place) → slot_of pages home ≡ Pointer c o
        → IsAreaOf by home (slot_of pages q) → row_size row ≤ capacity_of (slot_of pages q)
        → (b : Bool) → same_place o q ≡ b
        → Whole by t row pages tied home (back_from pages home q (Pointer c o) b) (Some row)
        (Some q)
    pointer_back q c o e area l true f =
        let is = same_place-true o q f in
        subst
        (λ (p : Place). Whole by t row pages tied home (back_from pages home p (Pointer c o) true)
        (Some row) (Some p)) is
        (in_area by t row pages tied home c o e
        (omega (arith, l, ap (λ (p : Place). capacity_of (slot_of pages p)) is)))
    pointer_back q c o e area l false f = to_moved by t row pages tied home c o q e f area l

    -- in the Over area
    area_whole : (q : Place) (s : Slot) → slot_of pages home ≡ s → IsHomeOf by s
        → IsAreaOf by home (slot_of pages q) → row_size row ≤ capacity_of (slot_of pages q)
        → Whole by t row pages tied home (back_from pages home q s (lies_in q s)) (Some row)
        (Some q)
    area_whole q (Row c b) e is area l =
        to_plain by t row pages tied home q (Row c b) e is refl area l
    area_whole q (DeadRow c u) e is area l =
        to_plain by t row pages tied home q (DeadRow c u) e is refl area l
    area_whole q (DeadPointer c p u) e is area l =
        to_plain by t row pages tied home q (DeadPointer c p u) e is refl area l
    area_whole q (Pointer c o) e is area l = pointer_back q c o e area l (same_place o q) refl
    area_whole q Free e is area l = absurd is
    area_whole q (Over c b p) e is area l = absurd is
    area_whole q (DeadOver c p u) e is area l = absurd is

    row_whole : (over : Option Place) (s : Slot) → slot_of pages home ≡ s → IsHomeOf by s
        → (row_size row ≤ capacity_of s) ⊎ AreaHolds by (slot_of pages) home (row_size row) over
        → (b : Bool) → nat_le (row_size row) (capacity_of s) ≡ b
        → Whole by t row pages tied home (undo_row pages home over s b) (Some row)
        (if b then Some home else over)
    row_whole over s e is fits true f =
        home_whole over s e is (leb-true (row_size row) (capacity_of s) f)
    row_whole over s e is (inl l) false f =
        absurd (omega (arith, l, leb-false (row_size row) (capacity_of s) f))
    row_whole None s e is (inr h) false f = absurd h
    row_whole (Some q) s e is (inr h) false f = area_whole q s e is h.0 h.1

  undo_cases : (over : Option Place) (before : Option TableRow) (s : Slot) → slot_of pages home ≡ s
      → IsHomeOf by s → RowFits by (slot_of pages) home before over
      → Whole by t (row_or_empty before) pages tied home (undo_parts pages home over before s)
      before (lies_undone home over before s)
  undo_cases over None s e is fits = drop_whole over s e is
  undo_cases over (Some row) s e is fits =
      row_whole row over s e is
      (subst (λ (n : ℕ). (row_size row ≤ n) ⊎ AreaHolds by (slot_of pages) home (row_size row) over)
      (ap capacity_of e) fits) (nat_le (row_size row) (capacity_of s)) refl

pub undo_whole :
    (by : Option ℕ) (c : Written) (pages : List (List Slot)) (tied : Tied (slot_of pages))
    → Undoable by (slot_of pages) c
    → Whole by c.owner (row_or_empty c.before) pages tied c.home
    (undo_parts pages c.home (over_before c.parts) c.before (slot_of pages c.home)) c.before
    (lies_undone c.home (over_before c.parts) c.before (slot_of pages c.home))
undo_whole by c pages tied u = undo_cases by c.owner pages tied c.home (over_before c.parts)
    c.before (slot_of pages c.home) refl u.home u.fits
