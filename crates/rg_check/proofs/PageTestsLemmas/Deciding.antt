-- Whether an undo has what it needs.
use Rattle.std.proofs.Common.{◌≡◌, ◌≤◌, ◌<◌, inl, inr, true, false, List, Option, Some, None, refl}
use Rattle.std.proofs.Common.{sym, ◌∙◌, ap, subst, arith}
use Rattle.rg_base.specs.RowBytes.{row_size}
use Rattle.rg_base.specs.declared.place.Place.{Place}
use Rattle.rg_base.specs.declared.row.Row.{Row as TableRow}
use Rattle.rg_home.specs.Able.{IsHomeOf, IsAreaOf}
use Rattle.rg_home.specs.Pages.{slot_of}
use Rattle.rg_home.specs.Plan.{is_home as has_row_slot}
use Rattle.rg_home.specs.Slot.{Slot}
use Rattle.rg_home.specs.Slot.{Free, Row, Pointer, Over, DeadRow, DeadPointer, DeadOver}
use Rattle.rg_home.specs.Slots.{capacity_of}
use Rattle.rg_home.specs.Undo.{over_before}
use Rattle.rg_home.specs.Written.{Written}
use Rattle.rg_check.specs.PageTests.Breach.{BreaksOf, IsBreach, IsNeeded, capacity_in, has_row}
use Rattle.rg_check.specs.PageTests.Breach.{is_home, named_of}
use Rattle.rg_check.specs.PageTests.Outline.{outline_of}
use Rattle.rg_check.specs.PageTests.Places.{Says}
use Rattle.rg_check.specs.PageTests.Ties.{is_area_of}
use Rattle.rg_check.proofs.PageTestsLemmas.Says.{says_yes, says_no}
use Rattle.rg_check.proofs.PageTestsLemmas.Tying.{area_says}

pub capacity_is : (s : Slot) → capacity_in (outline_of s) ≡ capacity_of s
capacity_is Free = refl
capacity_is (Row c r) = refl
capacity_is (Pointer c o) = refl
capacity_is (Over c r h) = refl
capacity_is (DeadRow c u) = refl
capacity_is (DeadPointer c o u) = refl
capacity_is (DeadOver c h u) = refl

home_says : (s : Slot) → Says (is_home (outline_of s)) (IsHomeOf None s)
home_says Free = λ h. h
home_says (Row c r) = tt
home_says (Pointer c o) = tt
home_says (Over c r h) = λ h. h
home_says (DeadRow c u) = tt
home_says (DeadPointer c o u) = tt
home_says (DeadOver c h u) = λ h. h

row_is : (s : Slot) → has_row (outline_of s) ≡ has_row_slot s
row_is Free = refl
row_is (Row c r) = refl
row_is (Pointer c o) = refl
row_is (Over c r h) = refl
row_is (DeadRow c u) = refl
row_is (DeadPointer c o u) = refl
row_is (DeadOver c h u) = refl

-- a home with a row is a home
row_home : (s : Slot) → has_row (outline_of s) ≡ true → IsHomeOf None s
row_home Free e = absurd (cc (e))
row_home (Row c r) e = tt
row_home (Pointer c o) e = tt
row_home (Over c r h) e = absurd (cc (e))
row_home (DeadRow c u) e = absurd (cc (e))
row_home (DeadPointer c o u) e = absurd (cc (e))
row_home (DeadOver c h u) e = absurd (cc (e))

module _ (at : Place → Slot) (home : Place) (over : Option Place) where
  abbrev here : Slot
  here = at home

  -- no row before
  pub insert_right : has_row (outline_of here) ≡ true → IsBreach at home None over None
  insert_right e = (row_home here e, tt, sym (row_is here) ∙ e)

  pub insert_lacks : has_row (outline_of here) ≡ false → IsBreach at home None over (Some home)
  insert_lacks e = (λ n. cc (e, row_is here, n.2), sym (ap (named_of home over) e))

  module _ (row : TableRow) where
    pub home_lacks : is_home (outline_of here) ≡ false
        → IsBreach at home (Some row) over (Some home)
    home_lacks e = (
      λ n. says_no (is_home (outline_of here)) (IsHomeOf None here) e (home_says here) n.0,
      sym (ap (named_of home over) e),
    )

    module _ (is : is_home (outline_of here) ≡ true) where
      there : IsHomeOf None here
      there = says_yes (is_home (outline_of here)) (IsHomeOf None here) is (home_says here)

      pub home_fits : row_size row ≤ capacity_in (outline_of here)
          → IsBreach at home (Some row) over None
      home_fits fits = (there, inl (omega (arith, fits, capacity_is here)), tt)

      module _ (big : capacity_in (outline_of here) < row_size row) where
        too_big : row_size row ≤ capacity_of here → ⊥
        too_big le = omega (arith, le, big, capacity_is here)

        pub none_known : over ≡ None → IsBreach at home (Some row) over (Some home)
        none_known e = subst (λ (o : Option Place). IsBreach at home (Some row) o (Some home))
            (sym e) (lacks, sym (ap (named_of home None) is))
          where
            lacks : IsNeeded at home (Some row) None → ⊥
            lacks (h, inl le, t) = too_big le
            lacks (h, inr none, t) = none

        module _ (area : Place) (known : over ≡ Some area) where
          pub area_fits : is_area_of home (outline_of (at area)) ≡ true
              → row_size row ≤ capacity_in (outline_of (at area))
              → IsBreach at home (Some row) over None
          area_fits e le =
              subst (λ (o : Option Place). IsBreach at home (Some row) o None) (sym known) (
                there,
                inr (
                  says_yes (is_area_of home (outline_of (at area))) (IsAreaOf None home (at area)) e
                      (area_says home (at area)),
                  omega (arith, le, capacity_is (at area)),
                ),
                tt,
              )

          pub area_lacks :
              (IsAreaOf None home (at area) × (row_size row ≤ capacity_in (outline_of (at area)))
              → ⊥) → IsBreach at home (Some row) over (Some area)
          area_lacks denied =
              subst (λ (o : Option Place). IsBreach at home (Some row) o (Some area)) (sym known)
              (lacks, sym (ap (named_of home (Some area)) is))
            where
              lacks : IsNeeded at home (Some row) (Some area) → ⊥
              lacks (h, inl le, t) = too_big le
              lacks (h, inr both, t) = denied (both.0, omega (arith, both.1, capacity_is (at area)))

          pub area_other : is_area_of home (outline_of (at area)) ≡ false
              → IsBreach at home (Some row) over (Some area)
          area_other e = area_lacks
              (λ both. says_no (is_area_of home (outline_of (at area)))
              (IsAreaOf None home (at area)) e (area_says home (at area)) both.0)

          pub area_small : capacity_in (outline_of (at area)) < row_size row
              → IsBreach at home (Some row) over (Some area)
          area_small lt = area_lacks (λ both. omega (arith, lt, both.1))

-- as said of a write
pub breaks : (pages : List (List Slot)) (c : Written) (breach : Option Place)
    → IsBreach (slot_of pages) c.home c.before (over_before c.parts) breach
    → BreaksOf pages c breach
breaks pages c None n = (record { home = n.0; fits = n.1 }, n.2)
breaks pages c (Some p) n = (λ need. n.0 (need.0.home, need.0.fits, need.1), n.1)
