-- The spots of places that rise, where the slots of these places tie.
use Rattle.std.proofs.Common.{◌≡◌, Bool, true, false, not, List, [], ◌∷◌, ◌++◌, Option, Some}
use Rattle.std.proofs.Common.{None, refl, sym, ap, ◌∙◌, map}
use Rattle.std.specs.List.{list_all, flat_map, AllByRecursion}
use Rattle.std.proofs.lemmas.Bool.{and_from, false≢true}
use Rattle.rg_base.specs.declared.place.Place.{Place}
use Rattle.rg_base.specs.declared.row.Row.{Row as TableRow}
use Rattle.rg_home.specs.Plan.{pointed_to}
use Rattle.rg_home.specs.Rows.{row_at, home_row, Tied, TiesAt, IsOverOf}
use Rattle.rg_home.specs.Slot.{Slot}
use Rattle.rg_home.specs.Slot.{Free, Row, Pointer, Over, DeadRow, DeadPointer, DeadOver}
use Rattle.rg_layout.proofs.Places.{Rise}
use Rattle.rg_layout.specs.Spots.{spot_of, spot_at}
use Rattle.rg_base.specs.Place.{same_place}
use Rattle.rg_base.proofs.Each.{Each-map, Each-append}
use Rattle.rg_base.proofs.SamePlace.{apart}
use Rattle.rg_model.specs.Layout.{is_place_before, are_rising, are_different, homes}
use Rattle.rg_model.specs.Layout.{overs, one_place}
use Rattle.rg_model.proofs.Before.{not_itself}
use Rattle.rg_stmt.specs.declared.layout.Spot.{Spot}

-- ---- places that are one

pub all_from : {X : Type 0} (p : X → Bool) (xs : List X) → AllByRecursion (λ x. p x ≡ true) xs
    → list_all p xs ≡ true
all_from p [] each = refl
all_from p (x ∷ xs) each = and_from (p x) (list_all p xs) each.0 (all_from p xs each.1)

pub Each-joined : {X Y : Type 0} (P : Y → Type 0) (f : X → Y) (xs : List X)
    → AllByRecursion (λ x. P (f x)) xs
    → AllByRecursion P (map f xs)
Each-joined P f [] each = tt
Each-joined P f (x ∷ xs) each = (each.0, Each-joined P f xs each.1)

-- ---- what holds of each spot

-- the spot of a row with its home here
abbrev pub row_spot : (Place → Slot) → Place → TableRow → Spot
row_spot at p row = record { place = p; key = row.key; clus = row.clus; over = pointed_to (at p) }

module _ (at : Place → Slot) where
  abbrev pub spots : List Place → List Spot
  spots ps = flat_map (spot_at at) ps

  pub each_spot : (Q : Place → Type 0) (S : Spot → Type 0)
      → ((p : Place) (row : TableRow) → Q p → row_at at p ≡ Some row → S (row_spot at p row))
      → (ps : List Place) → AllByRecursion Q ps → AllByRecursion S (spots ps)
  each_spot Q S step [] each = tt
  each_spot Q S step (p ∷ ps) each = Each-append S (spot_at at p) (spots ps)
      (one (row_at at p) refl) (each_spot Q S step ps each.1)
    where
      one : (row : Option TableRow) → row_at at p ≡ row
          → AllByRecursion S (spot_of p (pointed_to (at p)) row)
      one None e = tt
      one (Some row) e = (step p row each.0 e, tt)

  always : (ps : List Place) → AllByRecursion (λ _. Unit {0}) ps
  always [] = tt
  always (p ∷ ps) = (tt, always ps)

  pub every_spot : (S : Spot → Type 0)
      → ((p : Place) (row : TableRow) → row_at at p ≡ Some row → S (row_spot at p row))
      → (ps : List Place) → AllByRecursion S (spots ps)
  every_spot S step ps = each_spot (λ _. Unit {0}) S (λ p row _ e. step p row e) ps (always ps)

  each_home : (Q : Place → Type 0) (ps : List Place) → AllByRecursion Q ps
      → AllByRecursion Q (homes (spots ps))
  each_home Q ps each = Each-joined Q (λ (s : Spot). s.place) (spots ps)
      (each_spot Q (λ s. Q s.place) (λ p row q e. q) ps each)

  pub homes_rise : (ps : List Place) → Rise ps → Rise (homes (spots ps))
  homes_rise [] rise = tt
  homes_rise (p ∷ ps) rise = go (homes_rise ps rise.1) (row_at at p)
    where
      go : Rise (homes (spots ps)) → (row : Option TableRow)
          → Rise (homes (spot_of p (pointed_to (at p)) row ++ spots ps))
      go rest None = rest
      go rest (Some row) = (each_home (λ q. is_place_before p q ≡ true) ps rise.0, rest)

-- what holds of the place of a moved row, if it has moved
abbrev pub ForOver : (Place → Type 0) → Option Place → Type 0
ForOver P None = Unit {0}
ForOver P (Some o) = P o

pub each_over : (P : Place → Type 0) (ss : List Spot) → AllByRecursion (λ s. ForOver P s.over) ss
    → AllByRecursion P (overs ss)
each_over P [] each = tt
each_over P (s ∷ ss) each =
    Each-append P (one_place s.over) (overs ss) (one s.over each.0) (each_over P ss each.1)
  where
    one : (o : Option Place) → ForOver P o → AllByRecursion P (one_place o)
    one None h = tt
    one (Some o) h = (h, tt)

-- ---- homes and Over areas are different

abbrev pub is_over : Slot → Bool
is_over (Over capacity row home) = true
is_over _ = false

abbrev pub owner : Slot → Place
owner (Over capacity row home) = home
owner _ = record { page = 0; slot = 0 }

home_kind : (at : Place → Slot) (s : Slot) (row : TableRow) → home_row at s ≡ Some row
    → is_over s ≡ false
home_kind at Free row e = refl
home_kind at (Row c r) row e = refl
home_kind at (Pointer c o) row e = refl
home_kind at (Over c r h) row e = absurd (cc (e))
home_kind at (DeadRow c u) row e = refl
home_kind at (DeadPointer c o u) row e = refl
home_kind at (DeadOver c h u) row e = refl

-- the Over area of this home is at o
pub record IsOverAt (at : Place → Slot) (p o : Place) : Type 0 where
  pub kind : is_over (at o) ≡ true
  pub home : owner (at o) ≡ p

over_kind : (at : Place → Slot) (p : Place) (s : Slot) (row : TableRow) → home_row at s ≡ Some row
    → TiesAt at p s → ForOver (IsOverAt at p) (pointed_to s)
over_kind at p Free row e ties = tt
over_kind at p (Row c r) row e ties = tt
over_kind at p (Pointer c o) row e ties = go (at o) refl ties
  where
    go : (s : Slot) → at o ≡ s → IsOverOf p s → IsOverAt at p o
    go Free is of = absurd of
    go (Row c r) is of = absurd of
    go (Pointer c q) is of = absurd of
    go (Over c r h) is of = record { kind = ap is_over is; home = ap owner is ∙ of }
    go (DeadRow c u) is of = absurd of
    go (DeadPointer c q u) is of = absurd of
    go (DeadOver c h u) is of = absurd of
over_kind at p (Over c r h) row e ties = tt
over_kind at p (DeadRow c u) row e ties = tt
over_kind at p (DeadPointer c o u) row e ties = tt
over_kind at p (DeadOver c h u) row e ties = tt

-- no two of the list are the same
abbrev Differ : List Place → Type 0
Differ [] = Unit {0}
Differ (p ∷ ps) = AllByRecursion (λ q. same_place p q ≡ false) ps × Differ ps

differ-append : (xs ys : List Place) → Differ xs → Differ ys
    → AllByRecursion (λ x. AllByRecursion (λ y. same_place x y ≡ false) ys) xs → Differ (xs ++ ys)
differ-append [] ys a b across = b
differ-append (x ∷ xs) ys a b across = (
  Each-append (λ y. same_place x y ≡ false) xs ys a.0 across.0,
  differ-append xs ys a.1 b across.1,
)

rise_differ : (ps : List Place) → Rise ps → Differ ps
rise_differ [] rise = tt
rise_differ (p ∷ ps) rise = (
  Each-map (λ q. is_place_before p q ≡ true) (λ q. same_place p q ≡ false)
      (λ q before. apart p q (not_itself p q before)) ps rise.0,
  rise_differ ps rise.1,
)

pub different_from : (ps : List Place) → Differ ps → are_different ps ≡ true
different_from [] d = refl
different_from (p ∷ ps) d =
    and_from (list_all (λ later. not (same_place p later)) ps) (are_different ps)
    (all_from (λ later. not (same_place p later)) ps
    (Each-map (λ q. same_place p q ≡ false) (λ q. not (same_place p q) ≡ true) (λ q e. ap not e) ps
    d.0)) (different_from ps d.1)

pub rising_from : (ps : List Place) → Rise ps → are_rising ps ≡ true
rising_from [] rise = refl
rising_from (p ∷ ps) rise = and_from (list_all (λ later. is_place_before p later) ps)
    (are_rising ps) (all_from (λ later. is_place_before p later) ps rise.0) (rising_from ps rise.1)

module _ (at : Place → Slot) (tied : Tied at) where
  pub over_at : (p : Place) (row : TableRow) → row_at at p ≡ Some row
      → ForOver (IsOverAt at p) (pointed_to (at p))
  over_at p row e = over_kind at p (at p) row e (tied p)

  pub for_over : (p : Place) (P : Place → Type 0) → ((o : Place) → IsOverAt at p o → P o)
      → (o : Option Place) → ForOver (IsOverAt at p) o → ForOver P o
  for_over p P step None h = tt
  for_over p P step (Some o) h = step o h

  overs_differ : (ps : List Place) → Rise ps → Differ (overs (spots at ps))
  overs_differ [] rise = tt
  overs_differ (p ∷ ps) rise = go (overs_differ ps rise.1) (row_at at p) refl
    where
      -- another home has another Over area
      later : (o : Place) → IsOverAt at p o
          → AllByRecursion (λ o'. same_place o o' ≡ false) (overs (spots at ps))
      later o is = each_over (λ o'. same_place o o' ≡ false) (spots at ps) (each_spot at
          (λ q. is_place_before p q ≡ true) (λ s. ForOver (λ o'. same_place o o' ≡ false) s.over)
          (λ q row before e. for_over q (λ o'. same_place o o' ≡ false)
          (λ o' is'. apart o o'
          (λ same. not_itself p q before (sym is.home ∙ ap (λ x. owner (at x)) same ∙ is'.home)))
          (pointed_to (at q)) (over_at q row e))
          ps rise.0)

      both : Differ (overs (spots at ps)) → (o : Option Place) → ForOver (IsOverAt at p) o
          → Differ (one_place o ++ overs (spots at ps))
      both rest None is = rest
      both rest (Some o) is = (later o is, rest)

      go : Differ (overs (spots at ps)) → (row : Option TableRow) → row_at at p ≡ row
          → Differ (overs (spot_of p (pointed_to (at p)) row ++ spots at ps))
      go rest None e = rest
      go rest (Some row) e = both rest (pointed_to (at p)) (over_at p row e)

  pub all_differ : (ps : List Place) → Rise ps → Differ (homes (spots at ps) ++ overs (spots at ps))
  all_differ ps rise = differ-append (homes (spots at ps)) (overs (spots at ps))
      (rise_differ (homes (spots at ps)) (homes_rise at ps rise)) (overs_differ ps rise)
      (Each-joined (λ x. AllByRecursion (λ y. same_place x y ≡ false) (overs (spots at ps)))
      (λ (s : Spot). s.place) (spots at ps)
      (every_spot at (λ s. AllByRecursion (λ y. same_place s.place y ≡ false) (overs (spots at ps)))
      (λ p row e. Each-map (λ o. is_over (at o) ≡ true) (λ o. same_place p o ≡ false)
      (λ o over. apart p o
      (λ same. false≢true (sym (home_kind at (at p) row e) ∙ ap (λ x. is_over (at x)) same ∙ over)))
      (overs (spots at ps)) over_kinds)
      ps))
    where
      over_kinds : AllByRecursion (λ o. is_over (at o) ≡ true) (overs (spots at ps))
      over_kinds = each_over (λ o. is_over (at o) ≡ true) (spots at ps)
          (every_spot at (λ s. ForOver (λ o. is_over (at o) ≡ true) s.over)
          (λ p row e. for_over p (λ o. is_over (at o) ≡ true) (λ o is. is.kind) (pointed_to (at p))
          (over_at p row e)) ps)

  pub homes_differ : (ps : List Place) → Rise ps → are_different (homes (spots at ps)) ≡ true
  homes_differ ps rise = different_from (homes (spots at ps))
      (rise_differ (homes (spots at ps)) (homes_rise at ps rise))
