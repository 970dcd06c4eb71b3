-- The places that a plan names lie on pages of the copy: a slot that is not Free is on a page that
-- is there, and a new area is on a page below the copy's capacity.
use Rattle.std.proofs.Common.{◌≡◌, ◌≤◌, ◌+◌, ℕ, suc, Bool, true, false, nat_le, nat_lt}
use Rattle.std.proofs.Common.{if◌then◌else◌, List, [], ◌∷◌, length, Option, Some, None, inl, inr}
use Rattle.std.proofs.Common.{refl, subst, arith}
use Rattle.std.specs.List.{AllByRecursion}
use borrow.Author.Tests.{leb-false, ltb-true}
use Rattle.rg_base.specs.RowBytes.{row_size}
use Rattle.rg_base.specs.declared.part.SlotOp.TheVariants as Op
use Rattle.rg_base.specs.declared.place.Place.{Place}
use Rattle.rg_base.specs.declared.row.Row.{Row as TableRow}
use Rattle.rg_home.specs.Able.{AreaHolds, Proper, RowFits, Undoable}
use Rattle.rg_home.specs.Pages.{page_at, part_at, slot_of}
use Rattle.rg_home.specs.Plan.{area_on, away, changed, first_page, fitting, from_over}
use Rattle.rg_home.specs.Plan.{in_over, is_ended, is_home, left_of, new_area, planned_change}
use Rattle.rg_home.specs.Plan.{planned_drop, planned_put, purge_from, purge_of, takes, to_home}
use Rattle.rg_home.specs.Plan.{to_new}
use Rattle.rg_home.specs.Rows.{IsOverOf, TiesAt, Tied}
use Rattle.rg_home.specs.Slot.{Slot}
use Rattle.rg_home.specs.Slot.{DeadOver, DeadPointer, DeadRow, Free, Over, Pointer, Row}
use Rattle.rg_home.specs.Slots.{capacity_of, is_free, slot_at}
use Rattle.rg_home.specs.Undo.{back_from, lies_in, over_before, planned_undo, to_area, undo_parts}
use Rattle.rg_home.specs.Undo.{undo_row}
use Rattle.rg_home.specs.Written.{Written}
use Rattle.rg_home.specs.declared.plan.Area.{Area}
use Rattle.rg_home.specs.declared.plan.Fitting.{Fitting}
use Rattle.rg_home.specs.declared.plan.Plan.{Plan}
use Rattle.rg_home.proofs.Range.{page_within}
use Rattle.rg_home.proofs.NotFree.{home_full, home_of_full, area_full, area_page}
use Rattle.rg_image.specs.Rules.{IsPageOf, PartIn}
use Rattle.rg_laws_log.specs.PageBounds.Within.{IsWithin}

-- ---- slots that are not Free

over_full : (home : Place) (s : Slot) → IsOverOf home s → is_free s ≡ false
over_full home Free is = absurd is
over_full home (Row capacity row) is = refl
over_full home (Pointer capacity other) is = refl
over_full home (Over capacity row other) is = refl
over_full home (DeadRow capacity owner) is = refl
over_full home (DeadPointer capacity other owner) is = refl
over_full home (DeadOver capacity other owner) is = refl

ended_full : (live : List ℕ) (s : Slot) → is_ended live s ≡ true → is_free s ≡ false
ended_full live Free is = absurd (cc (is))
ended_full live (Row capacity row) is = refl
ended_full live (Pointer capacity other) is = refl
ended_full live (Over capacity row home) is = refl
ended_full live (DeadRow capacity owner) is = refl
ended_full live (DeadPointer capacity other owner) is = refl
ended_full live (DeadOver capacity home owner) is = refl

-- ---- a new area

pub area_within : (live : List ℕ) (b limit : ℕ) (pages : List (List Slot)) (area : Area)
    → new_area live b limit pages ≡ Some area → IsPageOf limit area.place.page
area_within live b limit pages area is = go (nat_lt first limit) refl is
  where
    first : ℕ
    first = first_page live b pages

    placed_on : Area
    placed_on = area_on live b (first + 1) (page_at pages (first + 1))

    page_is : placed_on.place.page ≡ first + 1
    page_is =
        area_page live (first + 1) (page_at pages (first + 1)) (takes b (page_at pages (first + 1)))

    go : (t : Bool) → nat_lt first limit ≡ t → (if t then Some placed_on else None) ≡ Some area
        → IsPageOf limit area.place.page
    go true below same =
        let one : placed_on ≡ area = cc (same) in
        let page : area.place.page ≡ first + 1 =
        subst (λ (x : Area). x.place.page ≡ first + 1) one page_is in
        (omega (arith, page), omega (arith, page, ltb-true first limit below))
    go false below same = absurd (cc (same))

pub put_within : (live : List ℕ) (b limit : ℕ) (pages : List (List Slot)) (plan : Plan)
    → planned_put live b pages (new_area live b limit pages) ≡ Some plan
    → IsWithin limit plan.home plan.parts
put_within live b limit pages plan is = go (new_area live b limit pages) refl is
  where
    go : (area : Option Area) → new_area live b limit pages ≡ area
        → planned_put live b pages area ≡ Some plan → IsWithin limit plan.home plan.parts
    go None none same = absurd (cc (same))
    go (Some area) some same =
        let planned : Plan = record {
          home = area.place;
          before = None;
          purge = purge_of live pages area.place.page area.purges;
          parts = part_at area.place (Op.Row b) ∷ [];
        } in
        let one : planned ≡ plan = cc (same) in
        let page : IsPageOf limit area.place.page = area_within live b limit pages area some in
        subst (λ (x : Plan). IsWithin limit x.home x.parts) one
        (record { home_is = page; parts_are = ((page, tt), tt) })

-- ---- places on pages that are there

module _ (limit : ℕ) (pages : List (List Slot)) (tied : Tied (slot_of pages))
    (high : length pages ≤ limit) where
  pub there : (p : Place) → is_free (slot_of pages p) ≡ false → IsPageOf limit p.page
  there p full =
      let w : (1 ≤ p.page) × (p.page ≤ length pages) = page_within pages p.page p.slot full in
      (w.0, omega (arith, w.1, high))

  pub other_there : (home other : Place) (capacity : ℕ)
      → slot_of pages home ≡ Pointer capacity other → IsPageOf limit other.page
  other_there home other capacity is = there other
      (over_full home (slot_of pages other) (subst (TiesAt (slot_of pages) home) is (tied home)))

  left_in : (home : Place) (s : Slot) → IsPageOf limit home.page → slot_of pages home ≡ s
      → AllByRecursion (PartIn limit) (left_of pages home s)
  left_in home (Pointer capacity other) at is = ((other_there home other capacity is, at), tt)
  left_in home Free at is = tt
  left_in home (Row capacity row) at is = tt
  left_in home (Over capacity row over) at is = tt
  left_in home (DeadRow capacity owner) at is = tt
  left_in home (DeadPointer capacity other owner) at is = tt
  left_in home (DeadOver capacity over owner) at is = tt

  dropped_in : (home : Place) (s : Slot) → IsPageOf limit home.page → slot_of pages home ≡ s
      → AllByRecursion (PartIn limit) (planned_drop pages home s).parts
  dropped_in home (Pointer capacity other) at is =
      let over : IsPageOf limit other.page = other_there home other capacity is in
      ((at, over), ((over, at), tt))
  dropped_in home Free at is = ((at, tt), tt)
  dropped_in home (Row capacity row) at is = ((at, tt), tt)
  dropped_in home (Over capacity row over) at is = ((at, tt), tt)
  dropped_in home (DeadRow capacity owner) at is = ((at, tt), tt)
  dropped_in home (DeadPointer capacity other owner) at is = ((at, tt), tt)
  dropped_in home (DeadOver capacity over owner) at is = ((at, tt), tt)

  -- ---- a change

  to_new_in : (live : List ℕ) (b : ℕ) (home : Place) (area : Option Area) (plan : Plan)
      → IsPageOf limit home.page → ((x : Area) → area ≡ Some x → IsPageOf limit x.place.page)
      → to_new live b pages home area ≡ Some plan → IsWithin limit plan.home plan.parts
  to_new_in live b home None plan at new same = absurd (cc (same))
  to_new_in live b home (Some area) plan at new same =
      let page : IsPageOf limit area.place.page = new area refl in
      let home_same : home ≡ plan.home = cc (same) in
      let parts_same : part_at home (Op.Pointer (capacity_of (slot_of pages home)) area.place)
      ∷ part_at area.place (Op.Over b home) ∷ left_of pages home (slot_of pages home) ≡ plan.parts =
      cc (same) in
      record {
        home_is = subst (λ (p : Place). IsPageOf limit p.page) home_same at;
        parts_are = subst (AllByRecursion (PartIn limit)) parts_same
            ((at, page), ((page, at), left_in home (slot_of pages home) at refl));
      }

  away_in : (live : List ℕ) (b : ℕ) (home : Place) (s : Slot) (plan : Plan)
      → IsPageOf limit home.page → slot_of pages home ≡ s
      → away live b limit pages home s ≡ Some plan → IsWithin limit plan.home plan.parts
  away_in live b home (Pointer capacity other) plan at is same =
      go (fitting live b (capacity_of (slot_of pages other)) (page_at pages other.page)) same
    where
      over : IsPageOf limit other.page
      over = other_there home other capacity is

      go : (f : Option Fitting) → from_over live b limit pages home other f ≡ Some plan
          → IsWithin limit plan.home plan.parts
      go (Some f) same =
          let one : in_over live pages home other f ≡ plan = cc (same) in
          subst (λ (x : Plan). IsWithin limit x.home x.parts) one
          (record { home_is = at; parts_are = ((over, at), tt) })
      go None same = to_new_in live b home (new_area live b limit pages) plan at
          (area_within live b limit pages) same
  away_in live b home Free plan at is same = to_new_in live b home (new_area live b limit pages)
      plan at (area_within live b limit pages) same
  away_in live b home (Row capacity row) plan at is same = to_new_in live b home
      (new_area live b limit pages) plan at (area_within live b limit pages) same
  away_in live b home (Over capacity row over) plan at is same = to_new_in live b home
      (new_area live b limit pages) plan at (area_within live b limit pages) same
  away_in live b home (DeadRow capacity owner) plan at is same = to_new_in live b home
      (new_area live b limit pages) plan at (area_within live b limit pages) same
  away_in live b home (DeadPointer capacity other owner) plan at is same = to_new_in live b home
      (new_area live b limit pages) plan at (area_within live b limit pages) same
  away_in live b home (DeadOver capacity over owner) plan at is same = to_new_in live b home
      (new_area live b limit pages) plan at (area_within live b limit pages) same

  changed_in : (live : List ℕ) (b : ℕ) (home : Place) (f : Option Fitting) (plan : Plan)
      → IsPageOf limit home.page → changed live b limit pages home f ≡ Some plan
      → IsWithin limit plan.home plan.parts
  changed_in live b home (Some f) plan at same =
      let one : to_home live pages home f ≡ plan = cc (same) in
      subst (λ (x : Plan). IsWithin limit x.home x.parts) one
      (record { home_is = at; parts_are = ((at, tt), left_in home (slot_of pages home) at refl) })
  changed_in live b home None plan at same =
      away_in live b home (slot_of pages home) plan at refl same

  -- ---- an undo

  to_area_in : (home q : Place) (s : Slot) → IsPageOf limit home.page → IsPageOf limit q.page
      → slot_of pages home ≡ s → AllByRecursion (PartIn limit) (to_area pages home q s)
  to_area_in home q s at over is = ((at, over), ((over, at), left_in home s at is))

  back_in : (home q : Place) (s : Slot) (t : Bool) → IsPageOf limit home.page
      → IsPageOf limit q.page → slot_of pages home ≡ s
      → AllByRecursion (PartIn limit) (back_from pages home q s t)
  back_in home q s true at over is = ((over, at), tt)
  back_in home q s false at over is = to_area_in home q s at over is

  row_in : (home : Place) (over : Option Place) (s : Slot) (t : Bool) → IsPageOf limit home.page
      → slot_of pages home ≡ s → ((q : Place) → over ≡ Some q → t ≡ false → IsPageOf limit q.page)
      → AllByRecursion (PartIn limit) (undo_row pages home over s t)
  row_in home over s true at is area = ((at, tt), left_in home s at is)
  row_in home (Some q) s false at is area = back_in home q s (lies_in q s) at (area q refl refl) is
  row_in home None s false at is area = tt

pub change_within :
    (live : List ℕ) (b limit : ℕ) (pages : List (List Slot)) (home : Place) (plan : Plan)
    → Proper pages → length pages ≤ limit → is_home (slot_of pages home) ≡ true
    → planned_change live b limit pages home ≡ Some plan → IsWithin limit plan.home plan.parts
change_within live b limit pages home plan proper high is same =
    changed_in limit pages proper.tied high live b home
    (fitting live b (capacity_of (slot_of pages home)) (page_at pages home.page)) plan
    (there limit pages proper.tied high home (home_full (slot_of pages home) is)) same

pub drop_within : (limit : ℕ) (pages : List (List Slot)) (home : Place) → Proper pages
    → length pages ≤ limit → is_home (slot_of pages home) ≡ true
    → IsWithin limit home (planned_drop pages home (slot_of pages home)).parts
drop_within limit pages home proper high is =
    let at : IsPageOf limit home.page =
    there limit pages proper.tied high home (home_full (slot_of pages home) is) in
    record {
      home_is = at;
      parts_are = dropped_in limit pages proper.tied high home (slot_of pages home) at refl;
    }

-- where the row before does not fit its home, the area that holds it is there
area_there :
    (limit : ℕ) (pages : List (List Slot)) (home : Place) (b : ℕ) (over : Option Place) (q : Place)
    → Tied (slot_of pages) → length pages ≤ limit → over ≡ Some q
    → AreaHolds None (slot_of pages) home b over → IsPageOf limit q.page
area_there limit pages home b None q tied high is holds = absurd holds
area_there limit pages home b (Some other) q tied high is holds =
    let one : other ≡ q = cc (is) in
    subst (λ (p : Place). IsPageOf limit p.page) one
    (there limit pages tied high other (area_full None home (slot_of pages other) holds.0))

pub undo_within : (limit : ℕ) (pages : List (List Slot)) (c : Written) → Proper pages
    → length pages ≤ limit → Undoable None (slot_of pages) c
    → IsWithin limit c.home (planned_undo pages c).parts
undo_within limit pages c proper high can =
    record { home_is = at; parts_are = go c.before can.fits }
  where
    at : IsPageOf limit c.home.page
    at = there limit pages proper.tied high c.home
        (home_of_full None (slot_of pages c.home) can.home)

    go : (before : Option TableRow)
        → RowFits None (slot_of pages) c.home before (over_before c.parts)
        → AllByRecursion (PartIn limit)
        (undo_parts pages c.home (over_before c.parts) before (slot_of pages c.home))
    go None fits = dropped_in limit pages proper.tied high c.home (slot_of pages c.home) at refl
    go (Some row) fits =
        row_in limit pages proper.tied high c.home (over_before c.parts) (slot_of pages c.home)
        (nat_le (row_size row) (capacity_of (slot_of pages c.home))) at refl
        (λ (q : Place) (is : over_before c.parts ≡ Some q)
        (more : nat_le (row_size row) (capacity_of (slot_of pages c.home)) ≡ false). elim fits [
          | inl less ↦ absurd
              (omega
              (arith, less, leb-false (row_size row) (capacity_of (slot_of pages c.home)) more))
          | inr holds ↦ area_there limit pages c.home (row_size row) (over_before c.parts) q
              proper.tied high is holds
        ])

-- ---- a purge

purge_in : (live : List ℕ) (limit n i : ℕ) (slots : List Slot)
    → ((k : ℕ) → is_free (slot_at slots k) ≡ false → IsPageOf limit n)
    → AllByRecursion (PartIn limit) (purge_from live n i slots)
purge_in live limit n i [] at = tt
purge_in live limit n i (s ∷ slots) at =
    go (is_ended live s) refl
    (purge_in live limit n (i + 1) slots
    (λ (k : ℕ) (full : is_free (slot_at slots k) ≡ false). at (suc k) full))
  where
    go : (t : Bool) → is_ended live s ≡ t
        → AllByRecursion (PartIn limit) (purge_from live n (i + 1) slots)
        → AllByRecursion (PartIn limit)
        (if t then part_at (record { page = n; slot = i }) Op.Free ∷ purge_from live n (i + 1) slots
        else purge_from live n (i + 1) slots)
    go true is rest = ((at 0 (ended_full live s is), tt), rest)
    go false is rest = rest

pub purge_within : (live : List ℕ) (limit : ℕ) (pages : List (List Slot)) (n : ℕ) (purges : Bool)
    → length pages ≤ limit → AllByRecursion (PartIn limit) (purge_of live pages n purges)
purge_within live limit pages n true high =
    purge_in live limit n 0 (page_at pages n)
    (λ (k : ℕ) (full : is_free (slot_at (page_at pages n) k) ≡ false).
    let w : (1 ≤ n) × (n ≤ length pages) = page_within pages n k full in
    (w.0, omega (arith, w.1, high)))
purge_within live limit pages n false high = tt
