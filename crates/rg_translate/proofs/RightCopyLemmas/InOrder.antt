-- Packed rows in order: of two of them, the one at the lower place does not come after the other.
use Rattle.std.proofs.Common.{◌≡◌, ◌==◌, ◌≤◌, ◌<◌, ◌+◌, ◌-◌, ◌⊎◌, inl, inr, nat_le, nat_lt, nat_cmp}
use Rattle.std.proofs.Common.{is_lt, cond, Less, Equal, Greater, ℕ, Bool, true, false, List}
use Rattle.std.proofs.Common.{[], ◌∷◌, Some, if◌then◌else◌, map, refl, sym}
use Rattle.std.proofs.Common.{subst, ◌∙◌, ap, arith}
use Rattle.std.proofs.lemmas.Bool.{and_parts, eqb-true, eqb-false, ltb-false}
use Rattle.std.specs.List.{AllByRecursion, list_all}
use Rattle.std.specs.Ordering.{ordering_then}
use Rattle.std.proofs.lemmas.Option.{same_Some}
use Rattle.rg_base.specs.declared.options.Options.{Options}
use Rattle.rg_base.specs.declared.place.Place.{Place}
use Rattle.rg_base.specs.declared.row.Row.{Row}
use Rattle.rg_feed.specs.Fold.Fold.{row_in}
use Rattle.rg_base.specs.Place.{same_place}
use Rattle.rg_base.proofs.SamePlace.{same_place-true}
use Rattle.rg_model.specs.Layout.{are_rising, is_place_before}
use Rattle.rg_model.specs.Packed.{area_of, free_part, page_at}
use Rattle.rg_model.proofs.Before.{never_itself, never_both}
use Rattle.rg_laws_utility.specs.TraceLocks.Rising.{InTurn, IsMember}
use Rattle.rg_laws_utility.proofs.TraceLocksLemmas.Sorting.{later_member}
use Rattle.rg_reload.specs.Moved.{Moved, moved_from, moved_to, new_homes, packed_rows, rows_in}
use Rattle.rg_reload.specs.Order.{IsInOrder, order_cmp, order_key}
use Rattle.rg_reload.proofs.Rising.{targets, targets_rise}
use Rattle.rg_reload.proofs.Clustered.{rest_in_order}

-- ---- rows in order

-- the first does not come after the second by clus, then by key
abbrev pub NotAfter : Row → Row → Type 0
NotAfter a b = (a.clus < b.clus) ⊎ ((a.clus ≡ b.clus) × (a.key ≤ b.key))

not_after-trans : (a b c : Row) → NotAfter a b → NotAfter b c → NotAfter a c
not_after-trans a b c (inl x) (inl y) = inl (omega (arith, x, y))
not_after-trans a b c (inl x) (inr y) = inl (omega (arith, x, y.0))
not_after-trans a b c (inr x) (inl y) = inl (omega (arith, x.0, y))
not_after-trans a b c (inr x) (inr y) = inr (x.0 ∙ y.0, omega (arith, x.1, y.1))

neighbours : (x y : Place × Row) → is_lt (order_cmp (order_key y) (order_key x)) ≡ false
    → NotAfter x.1 y.1
neighbours x y e =
    go (nat_lt y.1.clus x.1.clus) refl (y.1.clus == x.1.clus) refl (nat_lt y.1.key x.1.key) refl
    (y.1.key == x.1.key) e
  where
    go : (p : Bool) → nat_lt y.1.clus x.1.clus ≡ p → (q : Bool) → (y.1.clus == x.1.clus) ≡ q
        → (r : Bool) → nat_lt y.1.key x.1.key ≡ r → (s : Bool)
        → is_lt (ordering_then (ordering_then
        (ordering_then (cond p Less (cond q Equal Greater)) (cond r Less (cond s Equal Greater)))
        (nat_cmp y.0.page x.0.page)) (nat_cmp y.0.slot x.0.slot)) ≡ false
        → NotAfter x.1 y.1
    go true a q b r c s g = absurd (cc (g))
    go false a true b true c s g = absurd (cc (g))
    go false a true b false c s g =
        inr (sym (eqb-true y.1.clus x.1.clus b), ltb-false y.1.key x.1.key c)
    go false a false b r c s g =
        inl (omega (arith, ltb-false y.1.clus x.1.clus a, eqb-false y.1.clus x.1.clus b))

all_further : (a b : Row) (rows : List Row) → NotAfter a b → AllByRecursion (NotAfter b) rows
    → AllByRecursion (NotAfter a) rows
all_further a b [] e h = tt
all_further a b (x ∷ rows) e h = (not_after-trans a b x e h.0, all_further a b rows e h.1)

in_turn : (rows : List (Place × Row)) → IsInOrder rows → InTurn NotAfter (rows_in rows)
in_turn [] w = tt
in_turn (x ∷ []) w = (tt, tt)
in_turn (x ∷ y ∷ rows) w =
    let first : NotAfter x.1 y.1 = neighbours x y (w 0 x (omega arith) (omega arith)) in
    let rest : InTurn NotAfter (rows_in (y ∷ rows)) =
    in_turn (y ∷ rows) (rest_in_order x (y ∷ rows) w) in
    ((first, all_further x.1 y.1 (rows_in rows) first rest.0), rest)

-- ---- rows at places that rise

abbrev places : List (Place × Row) → List Place
places rows = map (λ homed. homed.0) rows

has_row : (rows : List (Place × Row)) (p : Place) (row : Row) → row_in rows p ≡ Some row
    → IsMember row (rows_in rows)
has_row [] p row e = absurd (cc (e))
has_row (x ∷ rows) p row e = go (has_row rows p row) (same_place x.0 p) e
  where
    go : (row_in rows p ≡ Some row → IsMember row (rows_in rows)) → (b : Bool)
        → (if b then Some x.1 else row_in rows p) ≡ Some row → IsMember row (rows_in (x ∷ rows))
    go rest true f = inl (sym (same_Some x.1 row f))
    go rest false f = inr (rest f)

-- a row's place is behind one that is before all
place_behind : (place : Place) (rows : List (Place × Row))
    → list_all (λ later. is_place_before place later) (places rows) ≡ true
    → (p : Place) (row : Row) → row_in rows p ≡ Some row → is_place_before place p ≡ true
place_behind place [] all p row e = absurd (cc (e))
place_behind place (x ∷ rows) all p row e =
    let parts = and_parts (is_place_before place x.0)
    (list_all (λ later. is_place_before place later) (places rows)) all in
    go parts.0 (place_behind place rows parts.1 p row) (same_place x.0 p) refl e
  where
    go : is_place_before place x.0 ≡ true
        → (row_in rows p ≡ Some row → is_place_before place p ≡ true)
        → (b : Bool) → same_place x.0 p ≡ b → (if b then Some x.1 else row_in rows p) ≡ Some row
        → is_place_before place p ≡ true
    go first rest true same f =
        subst (λ r. is_place_before place r ≡ true) (same_place-true x.0 p same) first
    go first rest false other f = rest f

placed_in_order : (rows : List (Place × Row)) → InTurn NotAfter (rows_in rows)
    → are_rising (places rows) ≡ true
    → (p q : Place) (row other : Row) → row_in rows p ≡ Some row → row_in rows q ≡ Some other
    → is_place_before p q ≡ true → NotAfter row other
placed_in_order [] w rise p q row other e f before = absurd (cc (e))
placed_in_order (x ∷ rows) w rise p q row other e f before =
    let parts = and_parts (list_all (λ later. is_place_before x.0 later) (places rows))
    (are_rising (places rows)) rise in
    go parts.0 (λ d g. placed_in_order rows w.1 parts.1 p q row other d g before) (same_place x.0 p)
    refl e (same_place x.0 q) refl f
  where
    go : list_all (λ later. is_place_before x.0 later) (places rows) ≡ true
        → (row_in rows p ≡ Some row → row_in rows q ≡ Some other → NotAfter row other)
        → (a : Bool) → same_place x.0 p ≡ a → (if a then Some x.1 else row_in rows p) ≡ Some row
        → (b : Bool) → same_place x.0 q ≡ b → (if b then Some x.1 else row_in rows q) ≡ Some other
        → NotAfter row other
    go first rest true a d true b g = absurd
        (never_itself p
        (subst (λ r. is_place_before p r ≡ true)
        (sym (same_place-true x.0 q b) ∙ same_place-true x.0 p a)
        before))
    go first rest true a d false b g =
        subst (λ r. NotAfter r other) (same_Some x.1 row d)
        (later_member NotAfter x.1 other (rows_in rows) w.0 (has_row rows q other g))
    go first rest false a d true b g =
        absurd
        (never_both p q before
        (subst (λ r. is_place_before r p ≡ true) (same_place-true x.0 q b)
        (place_behind x.0 rows first p row d)))
    go first rest false a d false b g = rest d g

-- ---- packed rows

moved_rows : (options : Options) (k slot free : ℕ) (rows : List (Place × Row))
    → rows_in (new_homes (moved_from options k slot free rows)) ≡ rows_in rows
moved_rows options k slot free [] = refl
moved_rows options k slot free (x ∷ rows) =
    go (nat_le (free_part options + area_of x.1) free)
    (moved_rows options k (slot + 1) (free - area_of x.1) rows)
    (moved_rows options (k + 1) 1 (4064 - area_of x.1) rows)
  where
    go : (b : Bool)
        → rows_in (new_homes (moved_from options k (slot + 1) (free - area_of x.1) rows))
        ≡ rows_in rows
        → rows_in (new_homes (moved_from options (k + 1) 1 (4064 - area_of x.1) rows))
        ≡ rows_in rows
        → rows_in (new_homes (if b then moved_to (page_at options.freepage k) slot x
        ∷ moved_from options k (slot + 1) (free - area_of x.1) rows
        else moved_to (page_at options.freepage (k + 1)) 0 x
        ∷ moved_from options (k + 1) 1 (4064 - area_of x.1) rows)) ≡ rows_in (x ∷ rows)
    go true here next = ap (λ (rs : List Row). x.1 ∷ rs) here
    go false here next = ap (λ (rs : List Row). x.1 ∷ rs) next

moved_places : (ms : List Moved) → places (new_homes ms) ≡ targets ms
moved_places [] = refl
moved_places (m ∷ ms) = ap (λ (ps : List Place). m.target ∷ ps) (moved_places ms)

-- of two packed rows, the one at the lower place does not come after the other
pub packed_in_order : (options : Options) (rows : List (Place × Row)) → IsInOrder rows
    → (p q : Place) (row other : Row) → row_in (new_homes (packed_rows options rows)) p ≡ Some row
    → row_in (new_homes (packed_rows options rows)) q ≡ Some other
    → is_place_before p q ≡ true → NotAfter row other
packed_in_order options rows order =
    placed_in_order (new_homes (packed_rows options rows))
    (subst (InTurn NotAfter) (sym (moved_rows options 0 0 0 rows)) (in_turn rows order))
    (ap are_rising (moved_places (packed_rows options rows)) ∙ targets_rise options 0 0 0 rows)
