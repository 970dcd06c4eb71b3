-- Packed rows lie at home, in clustering order, and so do the quiet ones among them.
use Rattle.std.proofs.Common.{◌≡◌, ◌==◌, ◌<◌, ◌+◌, ◌-◌, ◌⊎◌, inl, inr, nat_le, nat_lt, nat_cmp}
use Rattle.std.proofs.Common.{is_lt, cond, Less, Equal, Greater, ℕ, Bool, true, false, List}
use Rattle.std.proofs.Common.{[], ◌∷◌, if◌then◌else◌, refl, sym, ◌∙◌, arith}
use Rattle.std.proofs.lemmas.Bool.{eqb-true, eqb-false, ltb-false}
use Rattle.std.specs.List.{AllByRecursion}
use Rattle.std.specs.Ordering.{ordering_then}
use Rattle.rg_base.specs.declared.options.Options.{Options}
use Rattle.rg_base.specs.declared.place.Place.{Place}
use Rattle.rg_base.specs.declared.row.Row.{Row}
use Rattle.rg_model.specs.Packed.{area_of, free_part, home_spot, page_at, spots_from}
use Rattle.rg_model.specs.Quiet.{is_quiet}
use Rattle.rg_model.specs.Right.{are_quiet_right, quiet_spots}
use Rattle.rg_laws_utility.specs.TraceLocks.Rising.{InTurn, IsBelow}
use Rattle.rg_laws_utility.specs.TraceLocks.Switched.{IsHome}
use Rattle.rg_laws_utility.proofs.TraceLocksLemmas.Switching.{quiet_test, packed_homes}
use Rattle.rg_reload.specs.Moved.{rows_in}
use Rattle.rg_reload.specs.Order.{HaveOtherKeys, IsInOrder, order_cmp, order_key}
use Rattle.rg_reload.proofs.Clustered.{rest_in_order}
use Rattle.rg_stmt.specs.declared.event.Entry.{Entry}
use Rattle.rg_stmt.specs.declared.layout.Spot.{Spot}

-- ---- rows in order

-- the first is below the second by clus, then by key
abbrev Below : Row → Row → Type 0
Below a b = (a.clus < b.clus) ⊎ ((a.clus ≡ b.clus) × (a.key < b.key))

below_trans : (a b c : Row) → Below a b → Below b c → Below a c
below_trans a b c (inl x) (inl y) = inl (omega (arith, x, y))
below_trans a b c (inl x) (inr y) = inl (omega (arith, x, y.0))
below_trans a b c (inr x) (inl y) = inl (omega (arith, x.0, y))
below_trans a b c (inr x) (inr y) = inr (x.0 ∙ y.0, omega (arith, x.1, y.1))

neighbours : (x y : Place × Row) → is_lt (order_cmp (order_key y) (order_key x)) ≡ false
    → (y.1.key == x.1.key) ≡ false → Below x.1 y.1
neighbours x y e f =
    go (nat_lt y.1.clus x.1.clus) refl (y.1.clus == x.1.clus) refl (nat_lt y.1.key x.1.key) refl
    (y.1.key == x.1.key) refl e
  where
    go : (p : Bool) → nat_lt y.1.clus x.1.clus ≡ p → (q : Bool) → (y.1.clus == x.1.clus) ≡ q
        → (r : Bool) → nat_lt y.1.key x.1.key ≡ r → (s : Bool) → (y.1.key == x.1.key) ≡ s
        → is_lt (ordering_then (ordering_then
        (ordering_then (cond p Less (cond q Equal Greater)) (cond r Less (cond s Equal Greater)))
        (nat_cmp y.0.page x.0.page)) (nat_cmp y.0.slot x.0.slot)) ≡ false
        → Below x.1 y.1
    go true a q b r c s d g = absurd (cc (g))
    go false a true b true c s d g = absurd (cc (g))
    go false a true b false c s d g = inr (
      sym (eqb-true y.1.clus x.1.clus b),
      omega (arith, ltb-false y.1.key x.1.key c, eqb-false y.1.key x.1.key f),
    )
    go false a false b r c s d g =
        inl (omega (arith, ltb-false y.1.clus x.1.clus a, eqb-false y.1.clus x.1.clus b))

all_above : (a b : Row) (rows : List Row) → Below a b → AllByRecursion (Below b) rows
    → AllByRecursion (Below a) rows
all_above a b [] e h = tt
all_above a b (x ∷ rows) e h = (below_trans a b x e h.0, all_above a b rows e h.1)

in_turn : (rows : List (Place × Row)) → IsInOrder rows → HaveOtherKeys (rows_in rows)
    → InTurn Below (rows_in rows)
in_turn [] w h = tt
in_turn (x ∷ []) w h = (tt, tt)
in_turn (x ∷ y ∷ rows) w h =
    let first : Below x.1 y.1 = neighbours x y (w 0 x (omega arith) (omega arith)) h.0.0 in
    let rest : InTurn Below (rows_in (y ∷ rows)) =
    in_turn (y ∷ rows) (rest_in_order x (y ∷ rows) w) h.1 in
    ((first, all_above x.1 y.1 (rows_in rows) first rest.0), rest)

-- ---- their spots

-- the spots that come of rows which all come behind this one
spots_above : (options : Options) (k slot free : ℕ) (a : Row) (rows : List Row) (s : Spot)
    → s.clus ≡ a.clus → s.key ≡ a.key → AllByRecursion (Below a) rows
    → AllByRecursion (IsBelow s) (spots_from options k slot free rows)
spots_above options k slot free a [] s c e all = tt
spots_above options k slot free a (row ∷ rows) s c e all =
    go (nat_le (free_part options + area_of row) free)
    (spots_above options k (slot + 1) (free - area_of row) a rows s c e all.1)
    (spots_above options (k + 1) 1 (4064 - area_of row) a rows s c e all.1)
  where
    one : (page place : ℕ) → IsBelow s (home_spot page place row)
    one page place = by_way all.0
      where
        by_way : Below a row → IsBelow s (home_spot page place row)
        by_way (inl lt) = inl (omega (arith, c, lt))
        by_way (inr lt) = inr (c ∙ lt.0, omega (arith, e, lt.1))

    go : (b : Bool)
        → AllByRecursion (IsBelow s) (spots_from options k (slot + 1) (free - area_of row) rows)
        → AllByRecursion (IsBelow s) (spots_from options (k + 1) 1 (4064 - area_of row) rows)
        → AllByRecursion (IsBelow s) (if b then home_spot (page_at options.freepage k) slot row
        ∷ spots_from options k (slot + 1) (free - area_of row) rows
        else home_spot (page_at options.freepage (k + 1)) 0 row
        ∷ spots_from options (k + 1) 1 (4064 - area_of row) rows)
    go true here next = (one (page_at options.freepage k) slot, here)
    go false here next = (one (page_at options.freepage (k + 1)) 0, next)

spots_turn : (options : Options) (k slot free : ℕ) (rows : List Row) → InTurn Below rows
    → InTurn IsBelow (spots_from options k slot free rows)
spots_turn options k slot free [] w = tt
spots_turn options k slot free (row ∷ rows) w =
    go (nat_le (free_part options + area_of row) free)
    (spots_turn options k (slot + 1) (free - area_of row) rows w.1)
    (spots_turn options (k + 1) 1 (4064 - area_of row) rows w.1)
  where
    go : (b : Bool) → InTurn IsBelow (spots_from options k (slot + 1) (free - area_of row) rows)
        → InTurn IsBelow (spots_from options (k + 1) 1 (4064 - area_of row) rows)
        → InTurn IsBelow (if b then home_spot (page_at options.freepage k) slot row
        ∷ spots_from options k (slot + 1) (free - area_of row) rows
        else home_spot (page_at options.freepage (k + 1)) 0 row
        ∷ spots_from options (k + 1) 1 (4064 - area_of row) rows)
    go true here next = (
      spots_above options k (slot + 1) (free - area_of row) row rows
          (home_spot (page_at options.freepage k) slot row) refl refl w.0,
      here,
    )
    go false here next = (
      spots_above options (k + 1) 1 (4064 - area_of row) row rows
          (home_spot (page_at options.freepage (k + 1)) 0 row) refl refl w.0,
      next,
    )

-- ---- the quiet ones among them

pub all_quiet : (P : Spot → Type 0) (past : List Entry) (spots : List Spot) → AllByRecursion P spots
    → AllByRecursion P (quiet_spots past spots)
all_quiet P past [] all = tt
all_quiet P past (s ∷ spots) all = go (is_quiet s.key past) (all_quiet P past spots all.1)
  where
    go : (b : Bool) → AllByRecursion P (quiet_spots past spots)
        → AllByRecursion P (if b then s ∷ quiet_spots past spots else quiet_spots past spots)
    go true rest = (all.0, rest)
    go false rest = rest

turn_quiet : (past : List Entry) (spots : List Spot) → InTurn IsBelow spots
    → InTurn IsBelow (quiet_spots past spots)
turn_quiet past [] w = tt
turn_quiet past (s ∷ spots) w = go (is_quiet s.key past) (turn_quiet past spots w.1)
  where
    go : (b : Bool) → InTurn IsBelow (quiet_spots past spots)
        → InTurn IsBelow (if b then s ∷ quiet_spots past spots else quiet_spots past spots)
    go true rest = (all_quiet (IsBelow s) past spots w.0, rest)
    go false rest = rest

pub packed_quiet : (options : Options) (rows : List (Place × Row)) (past : List Entry)
    → IsInOrder rows → HaveOtherKeys (rows_in rows)
    → are_quiet_right past (spots_from options 0 0 0 (rows_in rows)) ≡ true
packed_quiet options rows past order keys =
    let spots : List Spot = spots_from options 0 0 0 (rows_in rows) in
    quiet_test past spots (record {
      rise =
          turn_quiet past spots (spots_turn options 0 0 0 (rows_in rows) (in_turn rows order keys));
      homes = all_quiet IsHome past spots (packed_homes options 0 0 0 (rows_in rows));
    })
