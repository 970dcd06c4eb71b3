-- A list of writes changes the row of one home, where each place that it touches is looked at.
use Rattle.std.proofs.Common.{◌≡◌, ℕ, Bool, true, false, List, [], ◌∷◌, Option, Some, None, refl}
use Rattle.std.proofs.Common.{sym, ◌∙◌, ap, subst, if◌then◌else◌}
use Rattle.rg_base.specs.declared.place.Place.{Place}
use Rattle.rg_base.specs.declared.row.Row.{Row as TableRow}
use Rattle.rg_home.specs.Slot.{Slot}
use Rattle.rg_home.specs.Slot.{Free, Row, Pointer, Over, DeadRow, DeadPointer, DeadOver}
use Rattle.rg_base.specs.Place.{same_place}
use Rattle.rg_home.specs.Rows.{over_row, home_row, row_at, lies_at, IsOverOf}
use Rattle.rg_home.specs.Rows.{IsPointerTo, TiesAt, Tied, override, ChangesHome, is_plain}
use Rattle.rg_home.specs.Rows.{plain_row}
use Rattle.rg_base.proofs.SamePlace.{same_place-true, same_place-refl}
use Rattle.rg_home.proofs.Frame.{Inside, frame}

abbrev pub touched : List Place → Place → Bool
touched [] q = false
touched (p ∷ ps) q = if same_place q p then true else touched ps q

abbrev pub Each : (Place → Type 0) → List Place → Type 0
Each P [] = Unit {0}
Each P (p ∷ ps) = P p × Each P ps

each_at : (P : Place → Type 0) (ps : List Place) (q : Place) → Each P ps → touched ps q ≡ true → P q
each_at P [] q all e = absurd (cc (e))
each_at P (p ∷ ps) q all e = go (same_place q p) refl e (each_at P ps q all.1)
  where
    go : (b : Bool) → same_place q p ≡ b → (if b then true else touched ps q) ≡ true
        → (touched ps q ≡ true → P q) → P q
    go true h e rest = subst P (sym (same_place-true q p h)) all.0
    go false h e rest = rest e

pub override_same : (at : Place → Slot) (p : Place) (s : Slot) → override at p s p ≡ s
override_same at p s = ap (λ (b : Bool). if b then s else at p) (same_place-refl p)

pub override_other : (at : Place → Slot) (p q : Place) (s : Slot) → same_place q p ≡ false
    → override at p s q ≡ at q
override_other at p q s e = ap (λ (b : Bool). if b then s else at q) e

module _ (at after : Place → Slot) (home : Place) (row : Option TableRow) (ps : List Place) where
  -- what is to be shown of a place that is touched
  abbrev pub Good : Place → Type 0
  Good p = TiesAt after p (after p)
      × (same_place p home ≡ false
      → (row_at after p ≡ row_at at p) × (lies_at p (after p) ≡ lies_at p (at p)))

  pub changes_home : Tied at → ((q : Place) → touched ps q ≡ false → after q ≡ at q)
      → Each (λ p. Inside (touched ps) (at p)) ps → Each Good ps → row_at after home ≡ row
      → ChangesHome at after home row
  changes_home tied same closed good here = record {
    here = here;
    others = λ q n. other q n (touched ps q) refl;
    lie = λ q n. lying q n (touched ps q) refl;
    tied = λ q. tie q (touched ps q) refl;
  }
    where
      off : (q : Place) → touched ps q ≡ false
          → (row_at after q ≡ row_at at q) × TiesAt after q (after q)
      off = frame at after (touched ps) (λ p. each_at (λ p. Inside (touched ps) (at p)) ps p closed)
          same tied

      other : (q : Place) → same_place q home ≡ false → (b : Bool) → touched ps q ≡ b
          → row_at after q ≡ row_at at q
      other q n true e = ((each_at Good ps q good e).1 n).0
      other q n false e = (off q e).0

      lying : (q : Place) → same_place q home ≡ false → (b : Bool) → touched ps q ≡ b
          → lies_at q (after q) ≡ lies_at q (at q)
      lying q n true e = ((each_at Good ps q good e).1 n).1
      lying q n false e = ap (lies_at q) (same q e)

      tie : (q : Place) (b : Bool) → touched ps q ≡ b → TiesAt after q (after q)
      tie q true e = (each_at Good ps q good e).0
      tie q false e = (off q e).1

-- ties and rows of a slot that is known

pub tie_plain : (at : Place → Slot) (p : Place) (s : Slot) → is_plain s ≡ true → TiesAt at p s
tie_plain at p Free e = tt
tie_plain at p (Row a b) e = tt
tie_plain at p (Pointer a b) e = absurd (cc (e))
tie_plain at p (Over a b d) e = absurd (cc (e))
tie_plain at p (DeadRow a b) e = tt
tie_plain at p (DeadPointer a b d) e = tt
tie_plain at p (DeadOver a b d) e = tt

pub ties_plain : (at : Place → Slot) (p : Place) (s : Slot) → at p ≡ s → is_plain s ≡ true
    → TiesAt at p (at p)
ties_plain at p s e f = subst (λ (x : Slot). TiesAt at p x) (sym e) (tie_plain at p s f)

pub ties_pointer : (at : Place → Slot) (p o : Place) (c d : ℕ) (b : TableRow) → at p ≡ Pointer c o
    → at o ≡ Over d b p → TiesAt at p (at p)
ties_pointer at p o c d b e f =
    subst (λ (x : Slot). TiesAt at p x) (sym e) (subst (λ (x : Slot). IsOverOf p x) (sym f) refl)

pub ties_over : (at : Place → Slot) (p o : Place) (c d : ℕ) (b : TableRow) → at p ≡ Pointer c o
    → at o ≡ Over d b p → TiesAt at o (at o)
ties_over at p o c d b e f =
    subst (λ (x : Slot). TiesAt at o x) (sym f) (subst (λ (x : Slot). IsPointerTo o x) (sym e) refl)

pub home_plain : (at : Place → Slot) (s : Slot) → is_plain s ≡ true → home_row at s ≡ plain_row s
home_plain at Free e = refl
home_plain at (Row a b) e = refl
home_plain at (Pointer a b) e = absurd (cc (e))
home_plain at (Over a b d) e = absurd (cc (e))
home_plain at (DeadRow a b) e = refl
home_plain at (DeadPointer a b d) e = refl
home_plain at (DeadOver a b d) e = refl

pub row_plain : (at : Place → Slot) (p : Place) (s : Slot) → at p ≡ s → is_plain s ≡ true
    → row_at at p ≡ plain_row s
row_plain at p s e f = ap (home_row at) e ∙ home_plain at s f

pub row_pointer : (at : Place → Slot) (p o : Place) (c d : ℕ) (b : TableRow) → at p ≡ Pointer c o
    → at o ≡ Over d b p → row_at at p ≡ Some b
row_pointer at p o c d b e f = ap (home_row at) e ∙ ap over_row f

pub row_over : (at : Place → Slot) (o h : Place) (d : ℕ) (b : TableRow) → at o ≡ Over d b h
    → row_at at o ≡ None
row_over at o h d b f = ap (home_row at) f

-- no row has its home at an Over area, or at a slot that is neither Pointer nor Over and holds none

pub lies_over : (at : Place → Slot) (o h : Place) (d : ℕ) (b : TableRow) → at o ≡ Over d b h
    → lies_at o (at o) ≡ None
lies_over at o h d b f = ap (lies_at o) f

lies_none : (p : Place) (s : Slot) → is_plain s ≡ true → plain_row s ≡ None → lies_at p s ≡ None
lies_none p Free e f = refl
lies_none p (Row a b) e f = absurd (cc (f))
lies_none p (Pointer a b) e f = absurd (cc (e))
lies_none p (Over a b d) e f = refl
lies_none p (DeadRow a b) e f = refl
lies_none p (DeadPointer a b d) e f = refl
lies_none p (DeadOver a b d) e f = refl

pub lies_plain : (at : Place → Slot) (p : Place) (s : Slot) → at p ≡ s → is_plain s ≡ true
    → plain_row s ≡ None → lies_at p (at p) ≡ None
lies_plain at p s e f g = ap (lies_at p) e ∙ lies_none p s f g

pub inside_plain : (t : Place → Bool) (s : Slot) → is_plain s ≡ true → Inside t s
inside_plain t Free e = tt
inside_plain t (Row a b) e = tt
inside_plain t (Pointer a b) e = absurd (cc (e))
inside_plain t (Over a b d) e = absurd (cc (e))
inside_plain t (DeadRow a b) e = tt
inside_plain t (DeadPointer a b d) e = tt
inside_plain t (DeadOver a b d) e = tt
