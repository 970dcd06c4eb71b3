-- The old place of each row leads to its new one.
use Rattle.std.proofs.Common.{◌≡◌, ◌==◌, ◌||◌, ℕ, ◌+◌, ◌-◌, Bool, true, false, nat_le, List}
use Rattle.std.proofs.Common.{[], ◌∷◌, Option, Some, None, if◌then◌else◌, is_some, refl, sym, ap}
use Rattle.std.proofs.Common.{subst, ◌∙◌, arith}
use Rattle.std.specs.List.{AllByRecursion, list_any}
use Rattle.rg_base.specs.declared.options.Options.{Options}
use Rattle.rg_base.specs.declared.place.Place.{Place}
use Rattle.rg_base.specs.declared.row.Row.{Row}
use Rattle.rg_feed.specs.Fold.Fold.{row_in}
use Rattle.rg_feed.specs.Fold.Lawful.{AreApart}
use Rattle.rg_home.specs.Able.{Holds, Proper}
use Rattle.rg_home.specs.Pages.{slot_of}
use Rattle.rg_home.specs.Rows.{Tied, TiesAt, home_row, row_at}
use Rattle.rg_home.specs.Slot.{Slot}
use Rattle.rg_home.specs.Slots.{IsTrimmed, slot_at, trim}
use Rattle.rg_home.specs.Owners.{AllBelow, OwnerBelow}
use Rattle.rg_base.specs.Place.{same_place}
use Rattle.rg_base.proofs.SamePlace.{same_place-true, same_place-refl, same_place-turned}
use Rattle.rg_base.proofs.SamePlace.{same_place-sym}
use Rattle.rg_model.specs.Packed.{area_of, free_part, page_at}
use Rattle.rg_page.specs.Content.{Content, slots_of}
use Rattle.rg_reload.specs.Moved.{AreOneToOne, AreOther, AreTargets, Moved, moved_from, moved_to}
use Rattle.rg_reload.specs.Moved.{new_homes, packed_rows, pairs_of, row_through, target_in}
use Rattle.rg_reload.specs.Pages.{HasRows, row_slot, slot_with, slots_on}
use Rattle.rg_reload.proofs.Lying.{packed_lie, targets_apart}

abbrev pub old_homes : List Moved → List (Place × Row)
old_homes [] = []
old_homes (m ∷ rows) = (m.source, m.row) ∷ old_homes rows

old_homes-moved : (options : Options) (k slot free : ℕ) (rows : List (Place × Row))
    → old_homes (moved_from options k slot free rows) ≡ rows
old_homes-moved options k slot free [] = refl
old_homes-moved options k slot free (x ∷ rows) =
    go (nat_le (free_part options + area_of x.1) free)
    (old_homes-moved options k (slot + 1) (free - area_of x.1) rows)
    (old_homes-moved options (k + 1) 1 (4064 - area_of x.1) rows)
  where
    go : (b : Bool) → old_homes (moved_from options k (slot + 1) (free - area_of x.1) rows) ≡ rows
        → old_homes (moved_from options (k + 1) 1 (4064 - area_of x.1) rows) ≡ rows
        → old_homes (if b then moved_to (page_at options.freepage k) slot x
        ∷ moved_from options k (slot + 1) (free - area_of x.1) rows
        else moved_to (page_at options.freepage (k + 1)) 0 x
        ∷ moved_from options (k + 1) 1 (4064 - area_of x.1) rows) ≡ x ∷ rows
    go true e f = ap (λ (r : List (Place × Row)). x ∷ r) e
    go false e f = ap (λ (r : List (Place × Row)). x ∷ r) f

-- a row is at each new place
there : (rows : List Moved) (p t : Place) → target_in (pairs_of rows) p ≡ Some t
    → row_in (new_homes rows) t ≡ None → ⊥
there [] p t e f = absurd (cc (e))
there (m ∷ rows) p t e f =
    go (same_place m.source p) (same_place m.target t) refl e f (there rows p t)
  where
    go : (a b : Bool) → same_place m.target t ≡ b
        → (if a then Some m.target else target_in (pairs_of rows) p) ≡ Some t
        → (if b then Some m.row else row_in (new_homes rows) t) ≡ None
        → (target_in (pairs_of rows) p ≡ Some t → row_in (new_homes rows) t ≡ None → ⊥) → ⊥
    go a true q e f rest = absurd (cc (f))
    go true false q e f rest =
        let same : m.target ≡ t = cc (e) in
        absurd (cc (q, ap (same_place m.target) (sym same), same_place-refl m.target))
    go false false q e f rest = rest e f

through : (rows : List Moved) → AreApart (new_homes rows) → (p : Place)
    → row_through (row_in (new_homes rows)) (target_in (pairs_of rows) p)
    ≡ row_in (old_homes rows) p
through [] w p = refl
through (m ∷ rows) w p = go (same_place m.source p) (through rows w.1 p)
  where
    -- a later row's place is not the first one's
    later : (o : Option Place) → target_in (pairs_of rows) p ≡ o
        → row_through (row_in (new_homes (m ∷ rows))) o ≡ row_through (row_in (new_homes rows)) o
    later None e = refl
    later (Some t) e = at (same_place m.target t) refl
      where
        at : (b : Bool) → same_place m.target t ≡ b
            → (if b then Some m.row else row_in (new_homes rows) t) ≡ row_in (new_homes rows) t
        at true q = absurd
            (there rows p t e
            (subst (λ (u : Place). row_in (new_homes rows) u ≡ None) (same_place-true m.target t q)
            w.0))
        at false q = refl

    go : (b : Bool)
        → row_through (row_in (new_homes rows)) (target_in (pairs_of rows) p)
        ≡ row_in (old_homes rows) p
        → row_through (row_in (new_homes (m ∷ rows)))
        (if b then Some m.target else target_in (pairs_of rows) p)
        ≡ (if b then Some m.row else row_in (old_homes rows) p)
    go true e = ap (λ (t : Bool). if t then Some m.row else row_in (new_homes rows) m.target)
        (same_place-refl m.target)
    go false e = later (target_in (pairs_of rows) p) refl ∙ e

row_through-same : (f g : Place → Option Row) → ((p : Place) → f p ≡ g p) → (o : Option Place)
    → row_through f o ≡ row_through g o
row_through-same f g e None = refl
row_through-same f g e (Some p) = e p

-- what pages with the rows show

pub slot_is : (options : Options) (rows : List (Place × Row)) (pages : List Content)
    → HasRows pages (packed_rows options rows)
    → (p : Place)
    → slot_of (slots_of pages) p ≡ slot_with (row_in (new_homes (packed_rows options rows)) p)
slot_is options rows pages h p =
    ap (λ (slots : List Slot). slot_at slots p.slot) (h.slots p.page) ∙ packed_lie options rows p

home_row-with : (at : Place → Slot) (o : Option Row) → home_row at (slot_with o) ≡ o
home_row-with at None = refl
home_row-with at (Some row) = refl

pub row_is : (options : Options) (rows : List (Place × Row)) (pages : List Content)
    → HasRows pages (packed_rows options rows)
    → (p : Place)
    → row_at (slot_of (slots_of pages)) p ≡ row_in (new_homes (packed_rows options rows)) p
row_is options rows pages h p =
    ap (home_row (slot_of (slots_of pages))) (slot_is options rows pages h p)
    ∙ home_row-with (slot_of (slots_of pages)) (row_in (new_homes (packed_rows options rows)) p)

ties_with : (at : Place → Slot) (p : Place) (o : Option Row) → TiesAt at p (slot_with o)
ties_with at p None = tt
ties_with at p (Some row) = tt

tied_is : (options : Options) (rows : List (Place × Row)) (pages : List Content)
    → HasRows pages (packed_rows options rows)
    → Tied (slot_of (slots_of pages))
tied_is options rows pages h = λ p.
    subst (λ (s : Slot). TiesAt (slot_of (slots_of pages)) p s)
    (sym (slot_is options rows pages h p))
    (ties_with (slot_of (slots_of pages)) p (row_in (new_homes (packed_rows options rows)) p))

trimmed_on : (n : ℕ) (rows : List Moved) → IsTrimmed (slots_on n rows)
trimmed_on n [] = refl
trimmed_on n (m ∷ rows) = go (m.target.page == n) (trimmed_on n rows)
  where
    go : (b : Bool) → trim (slots_on n rows) ≡ slots_on n rows
        → trim (if b then row_slot m.row ∷ slots_on n rows else slots_on n rows)
        ≡ (if b then row_slot m.row ∷ slots_on n rows else slots_on n rows)
    go true e = ap (λ (s : List Slot). row_slot m.row ∷ s) e
    go false e = e

holds_with : (o : Option Row) → Holds (slot_with o)
holds_with None = tt
holds_with (Some row) = omega arith

pub proper_is : (options : Options) (rows : List (Place × Row)) (pages : List Content)
    → HasRows pages (packed_rows options rows)
    → Proper (slots_of pages)
proper_is options rows pages h = record {
  tied = tied_is options rows pages h;
  sound = record {
    trimmed = λ n. subst IsTrimmed (sym (h.slots n)) (trimmed_on n (packed_rows options rows));
    fits = h.fits;
  };
  holds = λ p. subst Holds (sym (slot_is options rows pages h p))
      (holds_with (row_in (new_homes (packed_rows options rows)) p));
}

below_with : (o : Option Row) → OwnerBelow 0 (slot_with o)
below_with None = tt
below_with (Some row) = tt

-- no area is dead, so none has an owner
pub below_is : (options : Options) (rows : List (Place × Row)) (pages : List Content)
    → HasRows pages (packed_rows options rows)
    → AllBelow 0 (slot_of (slots_of pages))
below_is options rows pages h = λ p.
    subst (OwnerBelow 0) (sym (slot_is options rows pages h p))
    (below_with (row_in (new_homes (packed_rows options rows)) p))

targets_of : (rows : List Moved) (place : Place)
    → list_any (λ (pair : Place × Place). same_place place pair.1) (pairs_of rows)
    ≡ is_some (row_in (new_homes rows) place)
targets_of [] place = refl
targets_of (m ∷ rows) place =
    ap (λ t. t || list_any (λ (pair : Place × Place). same_place place pair.1) (pairs_of rows))
    (same_place-turned place m.target)
    ∙ go (same_place m.target place) (targets_of rows place)
  where
    go : (b : Bool)
        → list_any (λ (pair : Place × Place). same_place place pair.1) (pairs_of rows)
        ≡ is_some (row_in (new_homes rows) place)
        → (b || list_any (λ (pair : Place × Place). same_place place pair.1) (pairs_of rows))
        ≡ is_some (if b then Some m.row else row_in (new_homes rows) place)
    go true e = refl
    go false e = e

-- the new places are those with a row
pub homes_are : (options : Options) (rows : List (Place × Row)) (pages : List Content)
    → HasRows pages (packed_rows options rows)
    → AreTargets (pairs_of (packed_rows options rows)) (row_at (slot_of (slots_of pages)))
homes_are options rows pages h place =
    targets_of (packed_rows options rows) place
    ∙ ap is_some (sym (row_is options rows pages h place))

pub source_is : (options : Options) (rows : List (Place × Row)) (pages : List Content)
    → HasRows pages (packed_rows options rows)
    → (p : Place)
    → row_through (row_at (slot_of (slots_of pages)))
    (target_in (pairs_of (packed_rows options rows)) p) ≡ row_in rows p
source_is options rows pages h p =
    row_through-same (row_at (slot_of (slots_of pages)))
    (row_in (new_homes (packed_rows options rows))) (row_is options rows pages h)
    (target_in (pairs_of (packed_rows options rows)) p)
    ∙ through (packed_rows options rows) (targets_apart options 0 0 0 rows) p
    ∙ ap (λ (r : List (Place × Row)). row_in r p) (old_homes-moved options 0 0 0 rows)

-- one to one

others : (m : Moved) (rows : List Moved) → row_in (old_homes rows) m.source ≡ None
    → row_in (new_homes rows) m.target ≡ None
    → AllByRecursion (AreOther (m.source, m.target)) (pairs_of rows)
others m [] e f = tt
others m (x ∷ rows) e f =
    go (same_place x.source m.source) (same_place x.target m.target) refl refl e f (others m rows)
  where
    go : (a b : Bool) → same_place x.source m.source ≡ a → same_place x.target m.target ≡ b
        → (if a then Some x.row else row_in (old_homes rows) m.source) ≡ None
        → (if b then Some x.row else row_in (new_homes rows) m.target) ≡ None
        → (row_in (old_homes rows) m.source ≡ None → row_in (new_homes rows) m.target ≡ None
        → AllByRecursion (AreOther (m.source, m.target)) (pairs_of rows))
        → AllByRecursion (AreOther (m.source, m.target)) (pairs_of (x ∷ rows))
    go true b p q e f rest = absurd (cc (e))
    go false true p q e f rest = absurd (cc (f))
    go false false p q e f rest =
        ((same_place-sym x.source m.source p, same_place-sym x.target m.target q), rest e f)

one_to_one_all : (rows : List Moved) → AreApart (old_homes rows) → AreApart (new_homes rows)
    → AreOneToOne (pairs_of rows)
one_to_one_all [] v w = tt
one_to_one_all (m ∷ rows) v w = (others m rows v.0 w.0, one_to_one_all rows v.1 w.1)

pub one_to_one_is : (options : Options) (rows : List (Place × Row)) → AreApart rows
    → AreOneToOne (pairs_of (packed_rows options rows))
one_to_one_is options rows w =
    one_to_one_all (packed_rows options rows)
    (subst AreApart (sym (old_homes-moved options 0 0 0 rows)) w) (targets_apart options 0 0 0 rows)
