-- The ways in which a row moves: each changes the row of its home alone, and keeps the ties.
use Rattle.std.proofs.Common.{◌≡◌, ℕ, Bool, true, false, List, [], ◌∷◌, Some, None, refl, sym, ◌∙◌}
use Rattle.std.proofs.Common.{ap, subst, if◌then◌else◌}
use Rattle.rg_base.specs.declared.place.Place.{Place}
use Rattle.rg_base.specs.declared.row.Row.{Row as TableRow}
use Rattle.rg_home.specs.Slot.{Slot}
use Rattle.rg_home.specs.Slot.{Free, Row, Pointer, Over, DeadRow, DeadPointer, DeadOver}
use Rattle.rg_base.specs.Place.{same_place}
use Rattle.rg_home.specs.Rows.{IsOverOf, TiesAt, Tied, ChangesHome, is_plain, plain_row}
use Rattle.rg_base.proofs.SamePlace.{same_place-refl, apart}
use Rattle.rg_home.proofs.Frame.{Inside}
use Rattle.rg_home.proofs.Cases.{touched, changes_home, ties_plain, ties_pointer, ties_over}
use Rattle.rg_home.proofs.Cases.{row_plain, row_pointer, row_over, lies_over, lies_plain}
use Rattle.rg_home.proofs.Cases.{inside_plain}

-- the Over area that a tied Pointer names
pub over_of : (p : Place) (s : Slot) → IsOverOf p s → (d : ℕ) × (b : TableRow) × (s ≡ Over d b p)
over_of p (Over d b h) e = (d, b, ap (λ (q : Place). Over d b q) e)
over_of p Free e = absurd e
over_of p (Row a b) e = absurd e
over_of p (Pointer a b) e = absurd e
over_of p (DeadRow a b) e = absurd e
over_of p (DeadPointer a b d) e = absurd e
over_of p (DeadOver a b d) e = absurd e

pub pointed : (at : Place → Slot) (p o : Place) (c : ℕ) → Tied at → at p ≡ Pointer c o
    → (d : ℕ) × (b : TableRow) × (at o ≡ Over d b p)
pointed at p o c tied e = over_of p (at o) (subst (λ (s : Slot). TiesAt at p s) e (tied p))

-- two places with different slots are apart
pub differ : (at : Place → Slot) (p q : Place) → (at p ≡ at q → ⊥) → same_place p q ≡ false
differ at p q n = apart p q (λ e. n (ap at e))

in_first : (p : Place) (ps : List Place) → touched (p ∷ ps) p ≡ true
in_first p ps = ap (λ (b : Bool). if b then true else touched ps p) (same_place-refl p)

in_more : (p q : Place) (ps : List Place) → touched ps q ≡ true → touched (p ∷ ps) q ≡ true
in_more p q ps e = go (same_place q p)
  where
    go : (b : Bool) → (if b then true else touched ps q) ≡ true
    go true = refl
    go false = e

less : (p q : Place) (ps : List Place) → touched (p ∷ ps) q ≡ false → touched ps q ≡ false
less p q ps e = go (same_place q p) e
  where
    go : (b : Bool) → (if b then true else touched ps q) ≡ false → touched ps q ≡ false
    go true e = absurd (cc (e))
    go false e = e

no : (p : Place) {X : Type 0} → same_place p p ≡ false → X
no p e = absurd (cc (e, same_place-refl p))

module _ (at after : Place → Slot) (home : Place) (tied : Tied at) where
  -- at home: a slot that is neither Pointer nor Over is replaced by another
  pub stays : (s : Slot) → is_plain (at home) ≡ true → is_plain s ≡ true → after home ≡ s
      → ((q : Place) → touched (home ∷ []) q ≡ false → after q ≡ at q)
      → ChangesHome at after home (plain_row s)
  stays s was is here same =
      changes_home at after home (plain_row s) (home ∷ []) tied same
      (inside_plain _ (at home) was, tt)
      ((ties_plain after home s here is, λ e. no home e), tt)
      (row_plain after home s here is)

  -- within the Over area
  pub stays_over : (o : Place) (c d : ℕ) (b : TableRow) → at home ≡ Pointer c o
      → after o ≡ Over d b home → ((q : Place) → touched (o ∷ []) q ≡ false → after q ≡ at q)
      → ChangesHome at after home (Some b)
  stays_over o c d b p there same =
      let was = pointed at home o c tied p in
      let away : same_place home o ≡ false =
      differ at home o (λ (e : at home ≡ at o). absurd (cc (e, p, was.2))) in
      let here : after home ≡ Pointer c o =
      same home (ap (λ (b : Bool). if b then true else false) away) ∙ p in
      let ps : List Place = home ∷ o ∷ [] in
      changes_home at after home (Some b) ps tied (λ q e. same q (less home q (o ∷ []) e)) (
        subst (Inside (touched ps)) (sym p) (in_more home o (o ∷ []) (in_first o [])),
        (subst (Inside (touched ps)) (sym was.2) (in_first home (o ∷ [])), tt),
      ) (
        (ties_pointer after home o c d b here there, λ e. no home e),
        (
          (
            ties_over after home o c d b here there,
            λ e. (
              row_over after o home d b there ∙ sym (row_over at o home was.0 was.1 was.2),
              lies_over after o home d b there ∙ sym (lies_over at o home was.0 was.1 was.2),
            ),
          ),
          tt,
        ),
      )
      (row_pointer after home o c d b here there)

  -- from home to an area that was Free or dead
  pub leaves_home : (t : Place) (c d : ℕ) (b : TableRow) → is_plain (at home) ≡ true
      → is_plain (at t) ≡ true → plain_row (at t) ≡ None → after home ≡ Pointer c t
      → after t ≡ Over d b home → ((q : Place) → touched (home ∷ t ∷ []) q ≡ false → after q ≡ at q)
      → ChangesHome at after home (Some b)
  leaves_home t c d b was open1 empty here there same =
      let ps : List Place = home ∷ t ∷ [] in
      changes_home at after home (Some b) ps tied same
      (inside_plain _ (at home) was, (inside_plain _ (at t) open1, tt)) (
        (ties_pointer after home t c d b here there, λ e. no home e),
        (
          (
            ties_over after home t c d b here there,
            λ e. (
              row_over after t home d b there ∙ sym (row_plain at t (at t) refl open1 ∙ empty),
              lies_over after t home d b there ∙ sym (lies_plain at t (at t) refl open1 empty),
            ),
          ),
          tt,
        ),
      )
      (row_pointer after home t c d b here there)

  -- home again, or dropped: the Over area is left
  pub comes_home : (o : Place) (c : ℕ) (s left : Slot) → at home ≡ Pointer c o → is_plain s ≡ true
      → is_plain left ≡ true → plain_row left ≡ None → after home ≡ s → after o ≡ left
      → ((q : Place) → touched (home ∷ o ∷ []) q ≡ false → after q ≡ at q)
      → ChangesHome at after home (plain_row s)
  comes_home o c s left p is gone none here there same =
      let was = pointed at home o c tied p in
      let ps : List Place = home ∷ o ∷ [] in
      changes_home at after home (plain_row s) ps tied same (
        subst (Inside (touched ps)) (sym p) (in_more home o (o ∷ []) (in_first o [])),
        (subst (Inside (touched ps)) (sym was.2) (in_first home (o ∷ [])), tt),
      ) (
        (ties_plain after home s here is, λ e. no home e),
        (
          (
            ties_plain after o left there gone,
            λ e. (
              row_plain after o left there gone ∙ none ∙ sym (row_over at o home was.0 was.1 was.2),
              lies_plain after o left there gone none ∙ sym (lies_over at o home was.0 was.1 was.2),
            ),
          ),
          tt,
        ),
      )
      (row_plain after home s here is)

  -- from one Over area to another that was Free or dead
  pub goes_over : (o t : Place) (c e d : ℕ) (b : TableRow) (left : Slot) → at home ≡ Pointer c o
      → is_plain (at t) ≡ true → plain_row (at t) ≡ None → is_plain left ≡ true
      → plain_row left ≡ None → after home ≡ Pointer e t → after t ≡ Over d b home → after o ≡ left
      → ((q : Place) → touched (home ∷ t ∷ o ∷ []) q ≡ false → after q ≡ at q)
      → ChangesHome at after home (Some b)
  goes_over o t c e d b left p open1 empty gone none here there back same =
      let was = pointed at home o c tied p in
      let ps : List Place = home ∷ t ∷ o ∷ [] in
      changes_home at after home (Some b) ps tied same (
        subst (Inside (touched ps)) (sym p)
            (in_more home o (t ∷ o ∷ []) (in_more t o (o ∷ []) (in_first o []))),
        (
          inside_plain _ (at t) open1,
          (subst (Inside (touched ps)) (sym was.2) (in_first home (t ∷ o ∷ [])), tt),
        ),
      ) (
        (ties_pointer after home t e d b here there, λ f. no home f),
        (
          (
            ties_over after home t e d b here there,
            λ f. (
              row_over after t home d b there ∙ sym (row_plain at t (at t) refl open1 ∙ empty),
              lies_over after t home d b there ∙ sym (lies_plain at t (at t) refl open1 empty),
            ),
          ),
          (
            (
              ties_plain after o left back gone,
              λ f. (
                row_plain after o left back gone ∙ none
                    ∙ sym (row_over at o home was.0 was.1 was.2),
                lies_plain after o left back gone none
                    ∙ sym (lies_over at o home was.0 was.1 was.2),
              ),
            ),
            tt,
          ),
        ),
      )
      (row_pointer after home t e d b here there)
