-- Pages that have exactly the packed rows have the spots of these rows.
use Rattle.std.proofs.Common.{◌≡◌, ◌||◌, ◌⊎◌, inl, inr, Bool, true, false, List, [], ◌∷◌, ◌++◌}
use Rattle.std.proofs.Common.{Option, Some, None, if◌then◌else◌, length, refl, sym, ◌∙◌, ap, subst}
use Rattle.std.specs.List.{flat_map, list_any}
use Rattle.std.proofs.lemmas.Option.{same_Some}
use Rattle.rg_base.specs.declared.options.Options.{Options}
use Rattle.rg_base.specs.declared.place.Place.{Place}
use Rattle.rg_base.specs.declared.row.Row.{Row}
use Rattle.rg_feed.specs.Fold.Fold.{row_in}
use Rattle.rg_feed.specs.Fold.Lawful.{AreApart}
use Rattle.rg_home.specs.Pages.{slot_of}
use Rattle.rg_home.specs.Plan.{pointed_to}
use Rattle.rg_home.specs.Rows.{home_row}
use Rattle.rg_home.specs.Slot.{Slot}
use Rattle.rg_home.specs.Slot.{Free}
use Rattle.rg_layout.specs.Spots.{places_to, spot_at, spot_of, spots_of}
use Rattle.rg_layout.proofs.OnSpots.{homes_rise, rising_from}
use Rattle.rg_layout.proofs.Places.{all_rise, is_among}
use Rattle.rg_base.specs.Place.{same_place}
use Rattle.rg_base.proofs.SamePlace.{same_place-true, same_place-refl}
use Rattle.rg_model.specs.Layout.{are_rising, homes}
use Rattle.rg_model.specs.Packed.{home_spot, spots_from}
use Rattle.rg_laws_utility.specs.TraceLocks.Rising.{IsMember}
use Rattle.rg_laws_utility.proofs.TraceLocksLemmas.Sorting.{same_spots}
use Rattle.rg_reload.specs.Moved.{Moved, moved_spots, new_homes, packed_rows, rows_in}
use Rattle.rg_reload.specs.Pages.{slot_with}
use Rattle.rg_reload.proofs.Lying.{targets_apart}
use Rattle.rg_reload.proofs.Rising.{targets, targets_rise}
use Rattle.rg_reload.proofs.Steps.{moved_spots-moved}
use Rattle.rg_stmt.specs.declared.layout.Spot.{Spot}

-- ---- members

of_left : (x : Spot) (xs ys : List Spot) → IsMember x xs → IsMember x (xs ++ ys)
of_left x [] ys is = absurd is
of_left x (y ∷ xs) ys (inl is) = inl is
of_left x (y ∷ xs) ys (inr is) = inr (of_left x xs ys is)

of_right : (x : Spot) (xs ys : List Spot) → IsMember x ys → IsMember x (xs ++ ys)
of_right x [] ys is = is
of_right x (y ∷ xs) ys is = inr (of_right x xs ys is)

of_either : (x : Spot) (xs ys : List Spot) → IsMember x (xs ++ ys) → IsMember x xs ⊎ IsMember x ys
of_either x [] ys is = inr is
of_either x (y ∷ xs) ys (inl is) = inl (inl is)
of_either x (y ∷ xs) ys (inr is) = go (of_either x xs ys is)
  where
    go : IsMember x xs ⊎ IsMember x ys → IsMember x (y ∷ xs) ⊎ IsMember x ys
    go (inl one) = inl (inr one)
    go (inr other) = inr other

-- ---- the spots of moved rows

-- the row at a place is among the moved ones
moved_row : (ms : List Moved) (p : Place) (r : Row) → row_in (new_homes ms) p ≡ Some r
    → IsMember (home_spot p.page p.slot r) (moved_spots ms)
moved_row [] p r e = absurd (cc (e))
moved_row (m ∷ ms) p r e = go (moved_row ms p r) (same_place m.target p) refl e
  where
    go : (row_in (new_homes ms) p ≡ Some r → IsMember (home_spot p.page p.slot r) (moved_spots ms))
        → (b : Bool) → same_place m.target p ≡ b
        → (if b then Some m.row else row_in (new_homes ms) p) ≡ Some r
        → IsMember (home_spot p.page p.slot r) (moved_spots (m ∷ ms))
    go rest true same f =
        let at : m.target ≡ p = same_place-true m.target p same in
        inl
        (sym
        (ap (λ (q : Place). home_spot q.page q.slot m.row) at
        ∙ ap (home_spot p.page p.slot) (same_Some m.row r f)))
    go rest false other f = inr (rest f)

-- a spot of a moved row, and the row at its place
record IsAt (rows : List (Place × Row)) (x : Spot) : Type 0 where
  pub place : Place
  pub row : Row
  pub row_is : row_in rows place ≡ Some row
  pub spot_is : x ≡ home_spot place.page place.slot row

row_moved : (ms : List Moved) (x : Spot) → AreApart (new_homes ms) → IsMember x (moved_spots ms)
    → IsAt (new_homes ms) x
row_moved [] x apart is = absurd is
row_moved (m ∷ ms) x apart (inl is) = record {
  place = m.target;
  row = m.row;
  row_is = ap (λ (b : Bool). if b then Some m.row else row_in (new_homes ms) m.target)
      (same_place-refl m.target);
  spot_is = is;
}
row_moved (m ∷ ms) x apart (inr is) =
    let rest = row_moved ms x apart.1 is in
    record {
      place = rest.place;
      row = rest.row;
      row_is = by_test rest.place rest.row rest.row_is (same_place m.target rest.place) refl;
      spot_is = rest.spot_is;
    }
  where
    by_test : (p : Place) (r : Row) → row_in (new_homes ms) p ≡ Some r → (c : Bool)
        → same_place m.target p ≡ c → (if c then Some m.row else row_in (new_homes ms) p) ≡ Some r
    by_test p r f true same =
        absurd (cc (apart.0, ap (row_in (new_homes ms)) (same_place-true m.target p same), f))
    by_test p r f false other = f

homes_moved : (ms : List Moved) → homes (moved_spots ms) ≡ targets ms
homes_moved [] = refl
homes_moved (m ∷ ms) = ap (λ (ps : List Place). m.target ∷ ps) (homes_moved ms)

-- ---- the spots of the pages

module _ (ms : List Moved) (pages : List (List Slot))
    (has : (place : Place) → slot_of pages place ≡ slot_with (row_in (new_homes ms) place)) where
  abbrev at : Place → Slot
  at = slot_of pages

  -- the spot at a place is that of the row which was moved there
  spot_is_at : (p : Place) (o : Option Row) → row_in (new_homes ms) p ≡ o
      → spot_at at p ≡ spot_of p (pointed_to (slot_with o)) (home_row at (slot_with o))
  spot_is_at p o e =
      ap (λ (s : Slot). spot_of p (pointed_to s) (home_row at s)) (has p ∙ ap slot_with e)

  one_at : (x : Spot) (p : Place) (o : Option Row) → row_in (new_homes ms) p ≡ o
      → IsMember x (spot_at at p) → IsMember x (moved_spots ms)
  one_at x p None e is = absurd (subst (IsMember x) (spot_is_at p None e) is)
  one_at x p (Some r) e is = by_first (subst (IsMember x) (spot_is_at p (Some r) e) is)
    where
      by_first : (x ≡ home_spot p.page p.slot r) ⊎ ⊥ → IsMember x (moved_spots ms)
      by_first (inl same) =
          subst (λ (y : Spot). IsMember y (moved_spots ms)) (sym same) (moved_row ms p r e)
      by_first (inr none) = absurd none

  to_moved : (x : Spot) (ps : List Place) → IsMember x (flat_map (spot_at at) ps)
      → IsMember x (moved_spots ms)
  to_moved x [] is = absurd is
  to_moved x (p ∷ ps) is =
      go (to_moved x ps) (of_either x (spot_at at p) (flat_map (spot_at at) ps) is)
    where
      go : (IsMember x (flat_map (spot_at at) ps) → IsMember x (moved_spots ms))
          → IsMember x (spot_at at p) ⊎ IsMember x (flat_map (spot_at at) ps)
          → IsMember x (moved_spots ms)
      go rest (inl here) = one_at x p (row_in (new_homes ms) p) refl here
      go rest (inr there) = rest there

  at_place : (x : Spot) (p : Place) (ps : List Place) → IsMember x (spot_at at p)
      → list_any (same_place p) ps ≡ true → IsMember x (flat_map (spot_at at) ps)
  at_place x p [] here among = absurd (cc (among))
  at_place x p (q ∷ ps) here among = go (at_place x p ps here) (same_place p q) refl among
    where
      go : (list_any (same_place p) ps ≡ true → IsMember x (flat_map (spot_at at) ps)) → (b : Bool)
          → same_place p q ≡ b → (b || list_any (same_place p) ps) ≡ true
          → IsMember x (flat_map (spot_at at) (q ∷ ps))
      go rest true same f = of_left x (spot_at at q) (flat_map (spot_at at) ps)
          (subst (λ (r : Place). IsMember x (spot_at at r)) (same_place-true p q same) here)
      go rest false other f = of_right x (spot_at at q) (flat_map (spot_at at) ps) (rest f)

  taken : (p : Place) (r : Row) → row_in (new_homes ms) p ≡ Some r → slot_of pages p ≡ Free → ⊥
  taken p r e free = absurd (cc (sym (has p ∙ ap slot_with e) ∙ free))

  from_moved : AreApart (new_homes ms) → (x : Spot) → IsMember x (moved_spots ms)
      → IsMember x (spots_of pages)
  from_moved apart x is =
      let there = row_moved ms x apart is in
      at_place x there.place (places_to pages (length pages))
      (subst (IsMember x) (sym (spot_is_at there.place (Some there.row) there.row_is))
      (inl there.spot_is))
      (is_among pages there.place (taken there.place there.row there.row_is))

  pub spots_are : AreApart (new_homes ms) → are_rising (targets ms) ≡ true
      → spots_of pages ≡ moved_spots ms
  spots_are apart rising =
      same_spots.by_place (spots_of pages) (moved_spots ms)
      (rising_from (homes (spots_of pages))
      (homes_rise at (places_to pages (length pages)) (all_rise pages (length pages))))
      (ap are_rising (homes_moved ms) ∙ rising)
      (record {
        to = λ x is. to_moved x (places_to pages (length pages)) is;
        from = from_moved apart;
      })

pub packed_spots_are : (options : Options) (rows : List (Place × Row)) (pages : List (List Slot))
    → ((place : Place)
    → slot_of pages place ≡ slot_with (row_in (new_homes (packed_rows options rows)) place))
    → spots_of pages ≡ spots_from options 0 0 0 (rows_in rows)
packed_spots_are options rows pages has =
    spots_are (packed_rows options rows) pages has (targets_apart options 0 0 0 rows)
    (targets_rise options 0 0 0 rows)
    ∙ moved_spots-moved options 0 0 0 rows
