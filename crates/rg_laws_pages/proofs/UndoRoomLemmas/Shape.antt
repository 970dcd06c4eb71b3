-- The shapes of an undo: each reuses areas that are there, at their sizes, and changes the row of
-- its home alone.
use Rattle.rg_base.specs.RowBytes.{row_size}
use Rattle.std.proofs.Common.{◌≡◌, inl, inr, ◌⊎◌, ℕ, ◌≤◌, true, false, List, [], ◌∷◌, Option, Some}
use Rattle.std.proofs.Common.{None, refl, sym, ◌∙◌, ap, subst, arith}
use Rattle.rg_base.specs.declared.place.Place.{Place}
use Rattle.rg_base.specs.declared.row.Row.{Row as TableRow}
use Rattle.rg_home.specs.Slot.{Slot}
use Rattle.rg_home.specs.Slot.{Free, Row, Pointer, Over, DeadRow, DeadPointer, DeadOver}
use Rattle.rg_home.specs.Slots.{capacity_of, is_free}
use Rattle.rg_base.specs.declared.part.Part.{Part}
use Rattle.rg_base.specs.declared.part.SlotOp.{SlotOp}
use Rattle.rg_base.specs.declared.part.SlotOp.TheVariants as Op
use Rattle.rg_base.specs.Place.{same_place}
use Rattle.rg_home.specs.Rows.{lies_at, is_plain, plain_row, Tied, TiesAt, ChangesHome}
use Rattle.rg_home.specs.Rows.{IsPointerTo}
use Rattle.rg_home.specs.Pages.{slot_of, wrote, made, applied, part_at}
use Rattle.rg_base.proofs.SamePlace.{same_place-refl, same_place-sym, apart}
use Rattle.rg_home.proofs.Writes.{page_low, wrote_here, wrote_there, wrote_off, wrote_off2}
use Rattle.rg_home.proofs.Writes.{wrote_off3}
use Rattle.rg_home.proofs.Moves.{pointed, stays, leaves_home, goes_over}
use Rattle.rg_home.proofs.Planned.{away_from, pointer_home, over_part}
use Rattle.rg_home.specs.Able.{IsHomeOf, IsAreaOf, Holds}
use Rattle.rg_home.proofs.NotFree.{home_of_full, area_full}
use Rattle.rg_laws_pages.proofs.UndoRoomLemmas.Parts.{Each}
use Rattle.rg_laws_pages.proofs.UndoRoomLemmas.Keep.{Turns, home_area}

-- an area that is there is used again, at its size, and holds its row; if it was dead it was this
-- owner's, or anybody's
abbrev pub ReusesOf : Option ℕ → ℕ → Place → Place → Slot → Slot → Type 0
ReusesOf by t home p s s2 = (is_free s ≡ false) × (capacity_of s2 ≡ capacity_of s) × Holds s2
    × (((p ≡ home) × IsHomeOf by s × IsHomeOf (Some t) s2)
    ⊎ (IsAreaOf by home s × IsAreaOf (Some t) home s2))

abbrev pub Reuses : ℕ → Place → Place → Slot → Slot → Type 0
Reuses t home p s s2 = ReusesOf None t home p s s2

pub reuse_turns : (t : ℕ) (home p : Place) (s s2 : Slot) → Reuses t home p s s2
    → Turns t home p s s2
reuse_turns t home p s s2 r = go r.3
  where
    go : ((p ≡ home) × IsHomeOf None s × IsHomeOf (Some t) s2)
        ⊎ (IsAreaOf None home s × IsAreaOf (Some t) home s2) → Turns t home p s s2
    go (inl h) = inr (inl (h.0, h.1, h.2, omega (arith, r.1)))
    go (inr h) = inr (inr (h.0, h.1, omega (arith, r.1)))

pub full_low : (pages : List (List Slot)) (p : Place) → is_free (slot_of pages p) ≡ false
    → 1 ≤ p.page
full_low pages p f =
    page_low pages p (λ (e : slot_of pages p ≡ Free). absurd (cc (f, ap is_free e)))

-- the Over area of a home is dead where the home doesn't name it
pub area_dead : (at : Place → Slot) (home q : Place) (by : Option ℕ) (s : Slot) → TiesAt at q s
    → IsAreaOf by home s → (IsPointerTo q (at home) → ⊥)
    → (is_plain s ≡ true) × (plain_row s ≡ None)
area_dead at home q by (Over c b p) tie is un =
    absurd (un (subst (λ (h : Place). IsPointerTo q (at h)) is tie))
area_dead at home q by (DeadOver c p u) tie is un = (refl, refl)
area_dead at home q by Free tie is un = absurd is
area_dead at home q by (Row c b) tie is un = absurd is
area_dead at home q by (Pointer c p) tie is un = absurd is
area_dead at home q by (DeadRow c u) tie is un = absurd is
area_dead at home q by (DeadPointer c p u) tie is un = absurd is

pub plain_names : (q : Place) (s : Slot) → is_plain s ≡ true → IsPointerTo q s → ⊥
plain_names q (Pointer c o) e i = cc (e)
plain_names q Free e i = i
plain_names q (Row a b) e i = i
plain_names q (Over a b d) e i = i
plain_names q (DeadRow a b) e i = i
plain_names q (DeadPointer a b d) e i = i
plain_names q (DeadOver a b d) e i = i

module _ (by : Option ℕ) (t : ℕ) (after : TableRow) (pages : List (List Slot))
    (tied : Tied (slot_of pages)) (home : Place) where
  -- parts that use again what is there, bring this row home, and leave it lying there
  abbrev pub Whole : List Part → Option TableRow → Option Place → Type 0
  Whole parts row lie = Each (ReusesOf by t home) t after pages parts
      × ChangesHome (slot_of pages) (slot_of (applied t after pages parts)) home row
      × (lies_at home (slot_of (applied t after pages parts) home) ≡ lie)

  pub one_home : (s : Slot) (op : SlotOp) → slot_of pages home ≡ s → IsHomeOf by s
      → is_plain s ≡ true → is_plain (made t after op) ≡ true → IsHomeOf (Some t) (made t after op)
      → capacity_of (made t after op) ≡ capacity_of s → Holds (made t after op)
      → Whole (part_at home op ∷ []) (plain_row (made t after op)) (lies_at home (made t after op))
  one_home s op e is plain gone mine same holds =
      let full : is_free (slot_of pages home) ≡ false = ap is_free e ∙ home_of_full by s is in
      let low = full_low pages home full in (
        (
          low,
          (
            full,
            same ∙ sym (ap capacity_of e),
            holds,
            inl (refl, subst (IsHomeOf by) (sym e) is, mine),
          ),
          tt,
          tt,
        ),
        stays (slot_of pages) (slot_of (wrote pages home (made t after op))) home tied
            (made t after op) (ap is_plain e ∙ plain) gone
            (wrote_here pages home (made t after op) low)
            (wrote_off pages home (made t after op) low),
        ap (lies_at home) (wrote_here pages home (made t after op) low),
      )

  left_reuses : (c : ℕ) (o : Place) → slot_of pages home ≡ Pointer c o
      → ReusesOf by t home o (slot_of pages o) (DeadOver (capacity_of (slot_of pages o)) home t)
  left_reuses c o e =
      let was = pointed (slot_of pages) home o c tied e in
      (ap is_free was.2, refl, tt, inr (subst (IsAreaOf by home) (sym was.2) refl, (refl, refl)))

  home_reuses : (c : ℕ) (o : Place) (s2 : Slot) → slot_of pages home ≡ Pointer c o
      → IsHomeOf (Some t) s2 → capacity_of s2 ≡ c → Holds s2
      → ReusesOf by t home home (slot_of pages home) s2
  home_reuses c o s2 e mine same holds = (
    ap is_free e,
    same ∙ sym (ap capacity_of e),
    holds,
    inl (refl, subst (IsHomeOf by) (sym e) tt, mine),
  )

  pub with_left : (c : ℕ) (o : Place) (op : SlotOp) → slot_of pages home ≡ Pointer c o
      → is_plain (made t after op) ≡ true → IsHomeOf (Some t) (made t after op)
      → capacity_of (made t after op) ≡ c → Holds (made t after op)
      → Whole (part_at home op ∷ part_at o (Op.DeadOver (capacity_of (slot_of pages o)) home) ∷ [])
      (plain_row (made t after op)) (lies_at home (made t after op))
  with_left c o op e gone mine same holds =
      let a = away_from t after pages tied home c o e in (
        (
          a.1,
          home_reuses c o (made t after op) e mine same holds,
          (same_place-sym home o a.0, tt),
          (a.2, left_reuses c o e, tt, tt),
        ),
        pointer_home t after pages tied home c (capacity_of (slot_of pages o)) o (made t after op)
            gone e,
        ap (lies_at home)
            (wrote_there (wrote pages home (made t after op)) o
            (DeadOver (capacity_of (slot_of pages o)) home t) a.2 home a.0
            ∙ wrote_here pages home (made t after op) a.1),
      )

  pub in_area : (c : ℕ) (o : Place) → slot_of pages home ≡ Pointer c o
      → row_size after ≤ capacity_of (slot_of pages o)
      → Whole (part_at o (Op.Over (capacity_of (slot_of pages o)) home) ∷ []) (Some after) (Some o)
  in_area c o e l =
      let was = pointed (slot_of pages) home o c tied e in
      let a = away_from t after pages tied home c o e in (
        (
          a.2,
          (ap is_free was.2, refl, l, inr (subst (IsAreaOf by home) (sym was.2) refl, refl)),
          tt,
          tt,
        ),
        over_part t after pages tied home c (capacity_of (slot_of pages o)) o e,
        ap (lies_at home)
            (wrote_there pages o (Over (capacity_of (slot_of pages o)) after home) a.2 home a.0
            ∙ e),
      )

  apart_from : (q : Place) (s : Slot) → slot_of pages home ≡ s → IsHomeOf by s
      → IsAreaOf by home (slot_of pages q) → same_place home q ≡ false
  apart_from q s e is area = apart home q
      (λ (f : home ≡ q). home_area by by home s is
      (subst (IsAreaOf by home) (sym (ap (slot_of pages) f) ∙ e) area))

  pub to_plain : (q : Place) (s : Slot) → slot_of pages home ≡ s → IsHomeOf by s → is_plain s ≡ true
      → IsAreaOf by home (slot_of pages q) → row_size after ≤ capacity_of (slot_of pages q)
      → Whole
      (part_at home (Op.Pointer (capacity_of s) q)
      ∷ part_at q (Op.Over (capacity_of (slot_of pages q)) home) ∷ []) (Some after) (Some q)
  to_plain q s e is plain area l =
      let full : is_free (slot_of pages home) ≡ false = ap is_free e ∙ home_of_full by s is in
      let low = full_low pages home full in
      let fullq = area_full by home (slot_of pages q) area in
      let lowq = full_low pages q fullq in
      let n = apart_from q s e is area in
      let dead = area_dead (slot_of pages) home q by (slot_of pages q) (tied q) area
      (plain_names q (slot_of pages home) (ap is_plain e ∙ plain)) in
      let one = wrote pages home (Pointer (capacity_of s) q) in
      let d = capacity_of (slot_of pages q) in (
        (
          low,
          (full, sym (ap capacity_of e), tt, inl (refl, subst (IsHomeOf by) (sym e) is, tt)),
          (same_place-sym home q n, tt),
          (lowq, (fullq, refl, l, inr (area, refl)), tt, tt),
        ),
        leaves_home (slot_of pages) _ home tied q (capacity_of s) d after (ap is_plain e ∙ plain)
            dead.0 dead.1
            (wrote_there one q (Over d after home) lowq home n
            ∙ wrote_here pages home (Pointer (capacity_of s) q) low)
            (wrote_here one q (Over d after home) lowq)
            (wrote_off2 pages home q (Pointer (capacity_of s) q) (Over d after home) low lowq),
        ap (lies_at home)
            (wrote_there one q (Over d after home) lowq home n
            ∙ wrote_here pages home (Pointer (capacity_of s) q) low),
      )

  pub to_moved : (c : ℕ) (o q : Place) → slot_of pages home ≡ Pointer c o → same_place o q ≡ false
      → IsAreaOf by home (slot_of pages q) → row_size after ≤ capacity_of (slot_of pages q)
      → Whole
      (part_at home (Op.Pointer c q) ∷ part_at q (Op.Over (capacity_of (slot_of pages q)) home)
      ∷ part_at o (Op.DeadOver (capacity_of (slot_of pages o)) home) ∷ []) (Some after) (Some q)
  to_moved c o q e m area l =
      let a = away_from t after pages tied home c o e in
      let fullq = area_full by home (slot_of pages q) area in
      let lowq = full_low pages q fullq in
      let n = apart_from q (Pointer c o) e tt area in
      let names : IsPointerTo q (slot_of pages home) → ⊥ =
      λ i. absurd (cc (m, same_place-refl o, ap (same_place o) (subst (IsPointerTo q) e i))) in
      let dead = area_dead (slot_of pages) home q by (slot_of pages q) (tied q) area names in
      let d = capacity_of (slot_of pages q) in
      let g = capacity_of (slot_of pages o) in
      let one = wrote pages home (Pointer c q) in
      let two = wrote one q (Over d after home) in
      let k = same_place-sym o q m in (
        (
          a.1,
          home_reuses c o (Pointer c q) e tt refl tt,
          (same_place-sym home q n, (same_place-sym home o a.0, tt)),
          (lowq, (fullq, refl, l, inr (area, refl)), (m, tt), (a.2, left_reuses c o e, tt, tt)),
        ),
        goes_over (slot_of pages) _ home tied o q c c d after (DeadOver g home t) e dead.0 dead.1
            refl refl
            (wrote_there two o (DeadOver g home t) a.2 home a.0
            ∙ wrote_there one q (Over d after home) lowq home n
            ∙ wrote_here pages home (Pointer c q) a.1)
            (wrote_there two o (DeadOver g home t) a.2 q k
            ∙ wrote_here one q (Over d after home) lowq)
            (wrote_here two o (DeadOver g home t) a.2)
            (wrote_off3 pages home q o (Pointer c q) (Over d after home) (DeadOver g home t) a.1
            lowq a.2),
        ap (lies_at home)
            (wrote_there two o (DeadOver g home t) a.2 home a.0
            ∙ wrote_there one q (Over d after home) lowq home n
            ∙ wrote_here pages home (Pointer c q) a.1),
      )
