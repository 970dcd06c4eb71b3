-- Whether what a place names names it.
use Rattle.std.proofs.Common.{◌≡◌, ℕ, Bool, true, false, List, Some, None, if◌then◌else◌, refl, sym}
use Rattle.std.proofs.Common.{◌∙◌, ap, subst}
use Rattle.std.proofs.lemmas.Option.{same_Some}
use Rattle.rg_base.specs.declared.place.Place.{Place}
use Rattle.rg_home.specs.Able.{IsAreaOf}
use Rattle.rg_base.specs.Place.{same_place}
use Rattle.rg_home.specs.Rows.{IsOverOf, IsPointerTo, TiesAt}
use Rattle.rg_home.specs.Slot.{Slot}
use Rattle.rg_home.specs.Slot.{Free, Row, Pointer, Over, DeadRow, DeadPointer, DeadOver}
use Rattle.rg_check.specs.PageTests.Outline.{outline_of}
use Rattle.rg_check.specs.PageTests.Places.{Says}
use Rattle.rg_check.specs.PageTests.Ties.{DeadTiesAt, IsTiedAt, asked_of, is_open, is_over_of}
use Rattle.rg_check.specs.PageTests.Ties.{is_pointer_to, is_area_of, names_back}
use Rattle.rg_check.proofs.PageTestsLemmas.Says.{says_both, says_place, none_some}

pub over_says : (p : Place) (s : Slot) → Says (is_over_of p (outline_of s)) (IsOverOf p s)
over_says p Free = λ h. h
over_says p (Row c r) = λ h. h
over_says p (Pointer c o) = λ h. h
over_says p (Over c r h) = says_place h p
over_says p (DeadRow c u) = λ h. h
over_says p (DeadPointer c o u) = λ h. h
over_says p (DeadOver c h u) = λ h. h

pub pointer_says : (p : Place) (s : Slot) → Says (is_pointer_to p (outline_of s)) (IsPointerTo p s)
pointer_says p Free = λ h. h
pointer_says p (Row c r) = λ h. h
pointer_says p (Pointer c o) = says_place o p
pointer_says p (Over c r h) = λ h. h
pointer_says p (DeadRow c u) = λ h. h
pointer_says p (DeadPointer c o u) = λ h. h
pointer_says p (DeadOver c h u) = λ h. h

pub area_says : (p : Place) (s : Slot) → Says (is_area_of p (outline_of s)) (IsAreaOf None p s)
area_says p Free = λ h. h
area_says p (Row c r) = λ h. h
area_says p (Pointer c o) = λ h. h
area_says p (Over c r h) = says_place h p
area_says p (DeadRow c u) = λ h. h
area_says p (DeadPointer c o u) = λ h. h
area_says p (DeadOver c h u) = says_both (same_place h p) (h ≡ p) ((h ≡ p) × Unit {0})
    (λ e. (e, tt)) (λ b. b.0) (says_place h p)

module _ (live : List ℕ) (at : Place → Slot) (p : Place) where
  abbrev pub Both : Slot → Type 0
  Both s = TiesAt at p s × DeadTiesAt live at p s

  pub ties_none : (s : Slot) → asked_of live (outline_of s) ≡ None → Both s
  ties_none Free e = (tt, tt)
  ties_none (Row c r) e = (tt, tt)
  ties_none (Pointer c o) e = absurd (none_some o (sym e))
  ties_none (Over c r h) e = absurd (none_some h (sym e))
  ties_none (DeadRow c u) e = (tt, tt)
  ties_none (DeadPointer c o u) e = (
    tt,
    λ is_live. absurd (none_some o (sym e ∙ ap (λ (b : Bool). if b then Some o else None) is_live)),
  )
  ties_none (DeadOver c h u) e = (tt, tt)

  pub ties_asked : (s : Slot) (q : Place) → asked_of live (outline_of s) ≡ Some q
      → Says (names_back (outline_of s) (outline_of (at q)) p) (Both s)
  ties_asked Free q e = absurd (none_some q e)
  ties_asked (Row c r) q e = absurd (none_some q e)
  ties_asked (Pointer c o) q e =
      says_both (is_over_of p (outline_of (at q))) (IsOverOf p (at q)) (Both (Pointer c o))
      (λ h. (subst (λ (r : Place). IsOverOf p (at r)) (sym (same_Some o q e)) h, tt))
      (λ b. subst (λ (r : Place). IsOverOf p (at r)) (same_Some o q e) b.0) (over_says p (at q))
  ties_asked (Over c r h) q e =
      says_both (is_pointer_to p (outline_of (at q))) (IsPointerTo p (at q)) (Both (Over c r h))
      (λ i. (subst (λ (r : Place). IsPointerTo p (at r)) (sym (same_Some h q e)) i, tt))
      (λ b. subst (λ (r : Place). IsPointerTo p (at r)) (same_Some h q e) b.0)
      (pointer_says p (at q))
  ties_asked (DeadRow c u) q e = absurd (none_some q e)
  ties_asked (DeadPointer c o u) q e = go (is_open live u) refl e
    where
      go : (b : Bool) → is_open live u ≡ b → (if b then Some o else None) ≡ Some q
          → Says (is_area_of p (outline_of (at q))) (Both (DeadPointer c o u))
      go true is_live f = says_both (is_area_of p (outline_of (at q))) (IsAreaOf None p (at q))
          (Both (DeadPointer c o u))
          (λ h. (tt, λ l. subst (λ (r : Place). IsAreaOf None p (at r)) (sym (same_Some o q f)) h))
          (λ b. subst (λ (r : Place). IsAreaOf None p (at r)) (same_Some o q f) (b.1 is_live))
          (area_says p (at q))
      go false is_live f = absurd (none_some q f)
  ties_asked (DeadOver c h u) q e = absurd (none_some q e)

  pub free_ties : at p ≡ Free → IsTiedAt live at p
  free_ties e = subst Both (sym e) (tt, tt)
