-- Rows in the slots of one page, one after another.
use Rattle.std.proofs.Common.{◌≡◌, ℕ, ◌+◌, ◌==◌, ◌&&◌, ◌<◌, Bool, true, false, List, [], ◌∷◌, ◌++◌}
use Rattle.std.proofs.Common.{None, Some, if◌then◌else◌, refl, ap, arith}
use Rattle.std.proofs.lemmas.Bool.{eqb-true}
use Rattle.std.specs.List.{AllByRecursion}
use Rattle.rg_base.specs.declared.place.Place.{Place}
use Rattle.rg_base.specs.declared.row.Row.{Row}
use Rattle.rg_feed.specs.Fold.Fold.{row_in}
use Rattle.rg_feed.specs.Fold.Lawful.{AreApart}
use Rattle.rg_base.specs.Place.{same_place}

-- a slot below this one
abbrev pub IsBelow : ℕ → Place × Row → Type 0
IsBelow slot homed = homed.0.slot < slot

differ : (p q : Place) → p.slot < q.slot → same_place q p ≡ false
differ p q h = go (q.page == p.page) (q.slot == p.slot) refl
  where
    go : (a b : Bool) → (q.slot == p.slot) ≡ b → (a && b) ≡ false
    go a true e = let f = eqb-true q.slot p.slot e in absurd (omega (arith, f, h))
    go true false e = refl
    go false false e = refl

pub below-push : (rows : List (Place × Row)) (place : Place) (row : Row)
    → AllByRecursion (IsBelow place.slot) rows
    → AllByRecursion (IsBelow (place.slot + 1)) (rows ++ (place, row) ∷ [])
below-push [] place row h = (omega arith, tt)
below-push (x ∷ rows) place row h = (omega (arith, h.0), below-push rows place row h.1)

push-other : (rows : List (Place × Row)) (p place : Place) (row : Row) → p.slot < place.slot
    → row_in rows p ≡ None
    → row_in (rows ++ (place, row) ∷ []) p ≡ None
push-other [] p place row l h = ap (λ (b : Bool). if b then Some row else None) (differ p place l)
push-other (x ∷ rows) p place row l h = go (same_place x.0 p) h (push-other rows p place row l)
  where
    go : (b : Bool) → (if b then Some x.1 else row_in rows p) ≡ None
        → (row_in rows p ≡ None → row_in (rows ++ (place, row) ∷ []) p ≡ None)
        → (if b then Some x.1 else row_in (rows ++ (place, row) ∷ []) p) ≡ None
    go true e f = absurd (cc (e))
    go false e f = f e

pub apart-push : (rows : List (Place × Row)) (place : Place) (row : Row)
    → AllByRecursion (IsBelow place.slot) rows
    → AreApart rows → AreApart (rows ++ (place, row) ∷ [])
apart-push [] place row h w = (refl, tt)
apart-push (x ∷ rows) place row h w =
    (push-other rows x.0 place row h.0 w.0, apart-push rows place row h.1 w.1)
