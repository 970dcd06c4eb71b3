-- A purge changes no home row and no tie.
use Rattle.std.proofs.Common.{◌≡◌, inl, inr, ◌⊎◌, true, false, Option, None, refl, sym, ◌∙◌, ap}
use Rattle.std.proofs.Common.{subst}
use Rattle.rg_base.specs.declared.place.Place.{Place}
use Rattle.rg_base.specs.declared.row.Row.{Row as TableRow}
use Rattle.rg_home.specs.Slot.{Slot}
use Rattle.rg_home.specs.Slot.{Free, Row, Pointer, Over, DeadRow, DeadPointer, DeadOver}
use Rattle.rg_home.specs.Rows.{over_row, home_row, row_at, lies_at, IsOverOf, IsPointerTo, TiesAt}
use Rattle.rg_home.specs.Rows.{Tied, is_dead, ChangesHome}

-- this slot stays, or was dead and is Free
abbrev pub Sweeps : Slot → Slot → Type 0
Sweeps s t = (t ≡ s) ⊎ ((is_dead s ≡ true) × (t ≡ Free))

pub record Buried (at after : Place → Slot) : Type 0 where
  pub each : (q : Place) → Sweeps (at q) (after q)

dead_over : (s : Slot) → is_dead s ≡ true → None ≡ over_row s
dead_over Free e = refl
dead_over (Row a b) e = refl
dead_over (Pointer a b) e = refl
dead_over (Over a b d) e = absurd (cc (e))
dead_over (DeadRow a b) e = refl
dead_over (DeadPointer a b d) e = refl
dead_over (DeadOver a b d) e = refl

dead_lies : (q : Place) (s : Slot) → is_dead s ≡ true → None ≡ lies_at q s
dead_lies q Free e = refl
dead_lies q (Row a b) e = absurd (cc (e))
dead_lies q (Pointer a b) e = absurd (cc (e))
dead_lies q (Over a b d) e = refl
dead_lies q (DeadRow a b) e = refl
dead_lies q (DeadPointer a b d) e = refl
dead_lies q (DeadOver a b d) e = refl

keeps_lying : (q : Place) (s t : Slot) → Sweeps s t → lies_at q t ≡ lies_at q s
keeps_lying q s t (inl e) = ap (lies_at q) e
keeps_lying q s t (inr e) = ap (lies_at q) e.1 ∙ dead_lies q s e.0

keeps_over : (s t : Slot) → Sweeps s t → over_row t ≡ over_row s
keeps_over s t (inl e) = ap over_row e
keeps_over s t (inr e) = ap over_row e.1 ∙ dead_over s e.0

alive : (s : Slot) → Slot → is_dead s ≡ false → (t : Slot) → Sweeps s t → t ≡ s
alive s x a t (inl e) = e
alive s x a t (inr e) = absurd (cc (a, e.0))

keeps_over_of : (p : Place) (s t : Slot) → IsOverOf p s → Sweeps s t → IsOverOf p t
keeps_over_of p (Over a b d) t i h = subst (IsOverOf p) (sym (alive (Over a b d) t refl t h)) i
keeps_over_of p Free t i h = absurd i
keeps_over_of p (Row a b) t i h = absurd i
keeps_over_of p (Pointer a b) t i h = absurd i
keeps_over_of p (DeadRow a b) t i h = absurd i
keeps_over_of p (DeadPointer a b d) t i h = absurd i
keeps_over_of p (DeadOver a b d) t i h = absurd i

keeps_pointer_to : (p : Place) (s t : Slot) → IsPointerTo p s → Sweeps s t → IsPointerTo p t
keeps_pointer_to p (Pointer a b) t i h =
    subst (IsPointerTo p) (sym (alive (Pointer a b) t refl t h)) i
keeps_pointer_to p Free t i h = absurd i
keeps_pointer_to p (Row a b) t i h = absurd i
keeps_pointer_to p (Over a b d) t i h = absurd i
keeps_pointer_to p (DeadRow a b) t i h = absurd i
keeps_pointer_to p (DeadPointer a b d) t i h = absurd i
keeps_pointer_to p (DeadOver a b d) t i h = absurd i

module _ (at after : Place → Slot) (buried : Buried at after) where
  -- of one slot
  slot_kept : (q : Place) (s t : Slot) → Sweeps s t → TiesAt at q s
      → (home_row after t ≡ home_row at s) × TiesAt after q t
  slot_kept q (Pointer c o) t (inl e) i = (
    ap (home_row after) e ∙ keeps_over (at o) (after o) (buried.each o),
    subst (TiesAt after q) (sym e) (keeps_over_of q (at o) (after o) i (buried.each o)),
  )
  slot_kept q (Over c b h) t (inl e) i = (
    ap (home_row after) e,
    subst (TiesAt after q) (sym e) (keeps_pointer_to q (at h) (after h) i (buried.each h)),
  )
  slot_kept q Free t (inl e) i = (ap (home_row after) e, subst (TiesAt after q) (sym e) tt)
  slot_kept q (Row a b) t (inl e) i = (ap (home_row after) e, subst (TiesAt after q) (sym e) tt)
  slot_kept q (DeadRow a b) t (inl e) i = (ap (home_row after) e, subst (TiesAt after q) (sym e) tt)
  slot_kept q (DeadPointer a b d) t (inl e) i =
      (ap (home_row after) e, subst (TiesAt after q) (sym e) tt)
  slot_kept q (DeadOver a b d) t (inl e) i =
      (ap (home_row after) e, subst (TiesAt after q) (sym e) tt)
  slot_kept q Free t (inr e) i = absurd (cc (e.0))
  slot_kept q (Row a b) t (inr e) i = absurd (cc (e.0))
  slot_kept q (Pointer a b) t (inr e) i = absurd (cc (e.0))
  slot_kept q (Over a b d) t (inr e) i = absurd (cc (e.0))
  slot_kept q (DeadRow a b) t (inr e) i =
      (ap (home_row after) e.1, subst (TiesAt after q) (sym e.1) tt)
  slot_kept q (DeadPointer a b d) t (inr e) i =
      (ap (home_row after) e.1, subst (TiesAt after q) (sym e.1) tt)
  slot_kept q (DeadOver a b d) t (inr e) i =
      (ap (home_row after) e.1, subst (TiesAt after q) (sym e.1) tt)

  pub buried_rows : Tied at → (q : Place) → row_at after q ≡ row_at at q
  buried_rows tied q = (slot_kept q (at q) (after q) (buried.each q) (tied q)).0

  pub buried_lies : (q : Place) → lies_at q (after q) ≡ lies_at q (at q)
  buried_lies q = keeps_lying q (at q) (after q) (buried.each q)

  pub buried_tied : Tied at → Tied after
  buried_tied tied q = (slot_kept q (at q) (after q) (buried.each q) (tied q)).1

  pub buried_alive : (q : Place) → is_dead (at q) ≡ false → after q ≡ at q
  buried_alive q a = alive (at q) (at q) a (after q) (buried.each q)

pub buried_then : (at mid after : Place → Slot) (home : Place) (row : Option TableRow) → Tied at
    → Buried at mid → ChangesHome mid after home row → ChangesHome at after home row
buried_then at mid after home row tied buried c = record {
  here = c.here;
  others = λ q n. c.others q n ∙ buried_rows at mid buried tied q;
  lie = λ q n. c.lie q n ∙ buried_lies at mid buried q;
  tied = c.tied;
}
