-- The plans of a put, a change and a drop: what they write is theirs, and their own undo is
-- possible.
use Rattle.rg_base.specs.RowBytes.{row_size}
use Rattle.std.proofs.Common.{◌≡◌, inl, inr, ℕ, ◌≤◌, false, List, [], ◌∷◌, Option, Some, None, refl}
use Rattle.std.proofs.Common.{sym, ap, subst, arith}
use Rattle.rg_base.specs.declared.place.Place.{Place}
use Rattle.rg_base.specs.declared.row.Row.{Row as TableRow}
use Rattle.rg_home.specs.Slot.{Slot}
use Rattle.rg_home.specs.Slot.{Free, Row, Pointer, Over, DeadOver}
use Rattle.rg_home.specs.Slots.{capacity_of}
use Rattle.rg_base.specs.declared.part.Part.{Part}
use Rattle.rg_base.specs.declared.part.SlotOp.{SlotOp}
use Rattle.rg_base.specs.declared.part.SlotOp.TheVariants as Op
use Rattle.rg_base.specs.Place.{same_place}
use Rattle.rg_home.specs.Rows.{Tied}
use Rattle.rg_home.specs.Pages.{slot_of, made, part_at}
use Rattle.rg_base.proofs.SamePlace.{same_place-sym}
use Rattle.rg_home.proofs.Writes.{page_low}
use Rattle.rg_home.proofs.Moves.{pointed, differ}
use Rattle.rg_home.proofs.Planned.{away_from}
use Rattle.rg_home.specs.Able.{IsHomeOf, IsAreaOf, AreaHolds, RowFits, Holds, AllHold}
use Rattle.rg_home.specs.Undo.{over_before, left_place}
use Rattle.rg_laws_pages.proofs.UndoRoomLemmas.Parts.{Each}
use Rattle.rg_laws_pages.proofs.UndoRoomLemmas.Keep.{Turns}

abbrev pub Writes : ℕ → Place → Place → Slot → Slot → Type 0
Writes t home p s s2 = Turns t home p s s2 × Holds s2

module _ (t : ℕ) (after : TableRow) (pages : List (List Slot)) (tied : Tied (slot_of pages))
    (holds : AllHold (slot_of pages)) (home : Place) where
  -- the parts write what is theirs, and going back from them is possible
  abbrev pub Reversible : List Part → Option TableRow → Type 0
  Reversible parts before = Each (Writes t home) t after pages parts
      × RowFits (Some t) (slot_of pages) home before (over_before parts)

  held_row : (c : ℕ) (x : TableRow) → slot_of pages home ≡ Row c x
      → row_size x ≤ capacity_of (slot_of pages home)
  held_row c x e = omega (arith, ap capacity_of e, subst Holds e (holds home))

  pub row_stays : (c : ℕ) (x : TableRow) (op : SlotOp) → slot_of pages home ≡ Row c x
      → IsHomeOf (Some t) (made t after op) → c ≤ capacity_of (made t after op)
      → Holds (made t after op) → Reversible (part_at home op ∷ []) (Some x)
  row_stays c x op e mine l h =
      let low = page_low pages home (λ (g : slot_of pages home ≡ Free). absurd (cc (e, g))) in (
        (
          low,
          (
            inr
                (inl
                (refl, subst (IsHomeOf None) (sym e) tt, mine, omega (arith, l, ap capacity_of e))),
            h,
          ),
          tt,
          tt,
        ),
        inl (held_row c x e),
      )

  home_write : (c : ℕ) (s s2 : Slot) → slot_of pages home ≡ s → IsHomeOf None s
      → IsHomeOf (Some t) s2 → capacity_of s ≤ capacity_of s2 → Holds s2
      → Writes t home home (slot_of pages home) s2
  home_write c s s2 e is mine l h = (
    inr (inl (refl, subst (IsHomeOf None) (sym e) is, mine, omega (arith, l, ap capacity_of e))),
    h,
  )

  module _ (c : ℕ) (o : Place) (e : slot_of pages home ≡ Pointer c o) where
    left_write : (g : ℕ) → capacity_of (slot_of pages o) ≤ g
        → Writes t home o (slot_of pages o) (DeadOver g home t)
    left_write g l =
        let was = pointed (slot_of pages) home o c tied e in
        (inr (inr (subst (IsAreaOf None home) (sym was.2) refl, (refl, refl), l)), tt)

    back_to : (d : ℕ) (x : TableRow) → slot_of pages o ≡ Over d x home
        → AreaHolds (Some t) (slot_of pages) home (row_size x) (Some o)
    back_to d x f = (
      subst (IsAreaOf (Some t) home) (sym f) refl,
      omega (arith, ap capacity_of f, subst Holds f (holds o)),
    )

    pub moved_home : (d g : ℕ) (x : TableRow) (op : SlotOp) → d ≤ g
        → left_place op home (Some o) ≡ Some o → slot_of pages o ≡ Over d x home
        → IsHomeOf (Some t) (made t after op) → c ≤ capacity_of (made t after op)
        → Holds (made t after op)
        → Reversible (part_at home op ∷ part_at o (Op.DeadOver g home) ∷ []) (Some x)
    moved_home d g x op k is f mine l h =
        let a = away_from t after pages tied home c o e in (
          (
            a.1,
            home_write c (Pointer c o) (made t after op) e tt mine l h,
            (same_place-sym home o a.0, tt),
            (a.2, left_write g (omega (arith, k, ap capacity_of f)), tt, tt),
          ),
          inr
              (subst (λ (r : Option Place). AreaHolds (Some t) (slot_of pages) home (row_size x) r)
              (sym is) (back_to d x f)),
        )

    pub moved_stays : (d g : ℕ) (x : TableRow) → slot_of pages o ≡ Over d x home → d ≤ g
        → row_size after ≤ g → Reversible (part_at o (Op.Over g home) ∷ []) (Some x)
    moved_stays d g x f l h =
        let a = away_from t after pages tied home c o e in (
          (
            a.2,
            (
              inr
                  (inr (
                    subst (IsAreaOf None home) (sym f) refl,
                    refl,
                    omega (arith, l, ap capacity_of f),
                  )),
              h,
            ),
            tt,
            tt,
          ),
          inr (back_to d x f),
        )

    pub moved_on : (d g : ℕ) (x : TableRow) (p : Place) → d ≤ g → slot_of pages o ≡ Over d x home
        → 1 ≤ p.page → slot_of pages p ≡ Free
        → Reversible
        (part_at home (Op.Pointer c p) ∷ part_at p (Op.Over (row_size after) home)
        ∷ part_at o (Op.DeadOver g home) ∷ []) (Some x)
    moved_on d g x p k f low open1 =
        let a = away_from t after pages tied home c o e in
        let n : same_place home p ≡ false = differ (slot_of pages) home p
        (λ (g : slot_of pages home ≡ slot_of pages p). absurd (cc (e, g, open1))) in
        let m : same_place o p ≡ false = differ (slot_of pages) o p
        (λ (g : slot_of pages o ≡ slot_of pages p). absurd (cc (f, g, open1))) in (
          (
            a.1,
            home_write c (Pointer c o) (Pointer c p) e tt tt (omega arith) tt,
            (same_place-sym home p n, (same_place-sym home o a.0, tt)),
            (
              low,
              (inl open1, omega arith),
              (m, tt),
              (a.2, left_write g (omega (arith, k, ap capacity_of f)), tt, tt),
            ),
          ),
          inr (back_to d x f),
        )

  pub row_moves : (c : ℕ) (x : TableRow) (p : Place) → slot_of pages home ≡ Row c x → 1 ≤ p.page
      → slot_of pages p ≡ Free
      → Reversible (part_at home (Op.Pointer c p) ∷ part_at p (Op.Over (row_size after) home) ∷ [])
      (Some x)
  row_moves c x p e low open1 =
      let lh = page_low pages home (λ (g : slot_of pages home ≡ Free). absurd (cc (e, g))) in
      let n : same_place home p ≡ false = differ (slot_of pages) home p
      (λ (g : slot_of pages home ≡ slot_of pages p). absurd (cc (e, g, open1))) in (
        (
          lh,
          home_write c (Row c x) (Pointer c p) e tt tt (omega arith) tt,
          (same_place-sym home p n, tt),
          (low, (inl open1, omega arith), tt, tt),
        ),
        inl (held_row c x e),
      )
