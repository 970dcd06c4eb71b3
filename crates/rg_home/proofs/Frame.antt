-- Where the places that are touched are closed under names, all others keep their rows and ties.
use Rattle.std.proofs.Common.{◌≡◌, Bool, true, false, refl, sym, ◌∙◌, ap, subst}
use Rattle.std.proofs.lemmas.Bool.{false_from_ne_true}
use Rattle.rg_base.specs.declared.place.Place.{Place}
use Rattle.rg_home.specs.Slot.{Slot}
use Rattle.rg_home.specs.Slot.{Free, Row, Pointer, Over, DeadRow, DeadPointer, DeadOver}
use Rattle.rg_home.specs.Rows.{over_row, home_row, row_at, IsOverOf, IsPointerTo, TiesAt, Tied}

-- the place that a slot names is touched
abbrev pub Inside : (Place → Bool) → Slot → Type 0
Inside touched (Pointer c o) = touched o ≡ true
Inside touched (Over c b h) = touched h ≡ true
Inside touched _ = Unit {0}

over_inside : (touched : Place → Bool) (q : Place) (s : Slot) → IsOverOf q s → Inside touched s
    → touched q ≡ true
over_inside touched q (Over c b h) e i = ap touched (sym e) ∙ i
over_inside touched q Free e i = absurd e
over_inside touched q (Row a b) e i = absurd e
over_inside touched q (Pointer a b) e i = absurd e
over_inside touched q (DeadRow a b) e i = absurd e
over_inside touched q (DeadPointer a b d) e i = absurd e
over_inside touched q (DeadOver a b d) e i = absurd e

pointer_inside : (touched : Place → Bool) (q : Place) (s : Slot) → IsPointerTo q s
    → Inside touched s → touched q ≡ true
pointer_inside touched q (Pointer c o) e i = ap touched (sym e) ∙ i
pointer_inside touched q Free e i = absurd e
pointer_inside touched q (Row a b) e i = absurd e
pointer_inside touched q (Over a b d) e i = absurd e
pointer_inside touched q (DeadRow a b) e i = absurd e
pointer_inside touched q (DeadPointer a b d) e i = absurd e
pointer_inside touched q (DeadOver a b d) e i = absurd e

module _ (at after : Place → Slot) (touched : Place → Bool)
    (closed : (p : Place) → touched p ≡ true → Inside touched (at p))
    (same : (q : Place) → touched q ≡ false → after q ≡ at q) where
  frame_slot : (q : Place) (s : Slot) → touched q ≡ false → TiesAt at q s
      → (home_row after s ≡ home_row at s) × TiesAt after q s
  frame_slot q (Pointer c o) u t =
      let out : touched o ≡ false = false_from_ne_true (touched o)
      (λ (e : touched o ≡ true). absurd (cc (u, over_inside touched q (at o) t (closed o e)))) in
      (ap over_row (same o out), subst (λ (s : Slot). IsOverOf q s) (sym (same o out)) t)
  frame_slot q (Over c b h) u t =
      let out : touched h ≡ false = false_from_ne_true (touched h)
      (λ (e : touched h ≡ true). absurd (cc (u, pointer_inside touched q (at h) t (closed h e)))) in
      (refl, subst (λ (s : Slot). IsPointerTo q s) (sym (same h out)) t)
  frame_slot q Free u t = (refl, tt)
  frame_slot q (Row a b) u t = (refl, tt)
  frame_slot q (DeadRow a b) u t = (refl, tt)
  frame_slot q (DeadPointer a b d) u t = (refl, tt)
  frame_slot q (DeadOver a b d) u t = (refl, tt)

  pub frame : Tied at → (q : Place) → touched q ≡ false
      → (row_at after q ≡ row_at at q) × TiesAt after q (after q)
  frame tied q u =
      let f = frame_slot q (at q) u (tied q) in (
        ap (home_row after) (same q u) ∙ f.0,
        subst (λ (s : Slot). TiesAt after q s) (sym (same q u)) f.1,
      )
