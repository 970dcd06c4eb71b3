-- What is sent keeps the bound.
use Rattle.std.proofs.Common.{◌≡◌, ◌⊎◌, inl, inr, ◌≤◌, ◌<◌, ◌+◌, ◌||◌, ◌++◌, ℕ, zero, suc, nat_le}
use Rattle.std.proofs.Common.{Bool, true, false, List, [], ◌∷◌, Option, None, refl, sym, ◌∙◌, ap}
use Rattle.std.proofs.Common.{subst, arith, append-nil, append_assoc, if◌then◌else◌}
use Rattle.std.proofs.lemmas.Bool.{leb-true}
use Rattle.rg_base.specs.declared.change.Change.{Change}
use Rattle.rg_base.specs.declared.options.Options.{Options}
use Rattle.rg_base.specs.declared.place.Place.{Place}
use Rattle.rg_base.specs.declared.position.Position.{Position}
use Rattle.rg_base.specs.declared.row.Row.{Row}
use Rattle.rg_laws_pages.specs.ByteClaims.Weight.{weight}
use Rattle.rg_feed.specs.Fold.Fed.{SetsRow}
use Rattle.rg_feed.specs.Fold.Fold.{row_in, since_begin}
use Rattle.rg_feed.specs.Fold.Lawful.{AreRowsOf}
use Rattle.rg_feed.specs.declared.fold.item.Item.{Item}
use Rattle.rg_feed.specs.declared.fold.item.Item.TheVariants.{Begin, PageCopy, Booked}
use Rattle.rg_feed.specs.declared.fold.item.Item.TheVariants as items
use Rattle.rg_feed.proofs.FoldLemmas.Folds.{since-append}
use Rattle.rg_laws_utility.specs.CopyWeight.Reach.{AreInTurn, Reaches, weight_brought, copied_to}
use Rattle.rg_laws_utility.specs.CopyWeight.Reach.{is_settled}
use Rattle.rg_laws_utility.specs.CopyWeight.Weighed.{weigh_changes, weigh_pages, weigh_rows}
use Rattle.rg_laws_utility.proofs.CopyWeightLemmas.Weighing.{copy_weighs, pages_same, pages_split}
use Rattle.rg_laws_utility.proofs.CopyWeightLemmas.Weighing.{set_elsewhere, set_weighs}
use Rattle.rg_feed.specs.SentItems.Keeps.{MovesRows, Rows, sent_changes}

-- items, one after another

weight_brought-append : (pages copied : ℕ) (xs ys : List Item)
    → weight_brought pages copied (xs ++ ys)
    ≡ weight_brought pages copied xs + weight_brought pages (copied_to copied xs) ys
weight_brought-append pages copied [] ys = omega arith
weight_brought-append pages copied (Begin o n ∷ xs) ys = weight_brought-append pages copied xs ys
weight_brought-append pages copied (PageCopy page at rows ∷ xs) ys =
    omega (arith, weight_brought-append pages page xs ys)
weight_brought-append pages copied (items.Change c ∷ xs) ys =
    omega (arith, weight_brought-append pages copied xs ys)
weight_brought-append pages copied (Booked s ∷ xs) ys = weight_brought-append pages copied xs ys

copied_to-append : (copied : ℕ) (xs ys : List Item)
    → copied_to copied (xs ++ ys) ≡ copied_to (copied_to copied xs) ys
copied_to-append copied [] ys = refl
copied_to-append copied (Begin o n ∷ xs) ys = copied_to-append copied xs ys
copied_to-append copied (PageCopy page at rows ∷ xs) ys = copied_to-append page xs ys
copied_to-append copied (items.Change c ∷ xs) ys = copied_to-append copied xs ys
copied_to-append copied (Booked s ∷ xs) ys = copied_to-append copied xs ys

turn-append : (copied : ℕ) (xs ys : List Item) → AreInTurn copied xs
    → AreInTurn (copied_to copied xs) ys → AreInTurn copied (xs ++ ys)
turn-append copied [] ys first later = later
turn-append copied (Begin o n ∷ xs) ys first later = turn-append copied xs ys first later
turn-append copied (PageCopy page at rows ∷ xs) ys first later =
    (first.0, turn-append page xs ys first.1 later)
turn-append copied (items.Change c ∷ xs) ys first later = turn-append copied xs ys first later
turn-append copied (Booked s ∷ xs) ys first later = turn-append copied xs ys first later

-- a page that no copy is still to come of
pub settled_far : (pages copied page : ℕ) → is_settled pages copied page ≡ true
    → (page ≤ copied) ⊎ (pages + 1 ≤ page)
settled_far pages copied page e = go (nat_le page copied) refl
  where
    go : (b : Bool) → nat_le page copied ≡ b → (page ≤ copied) ⊎ (pages + 1 ≤ page)
    go true is = inl (leb-true page copied is)
    go false is = inr
        (leb-true (pages + 1) page (sym (ap (λ (b : Bool). b || nat_le (pages + 1) page) is) ∙ e))

-- the start
pub start_reaches : (rows : Rows) (pages most : ℕ) (options : Options) (feed : List Item)
    → weigh_pages rows 1 pages ≤ most → Reaches rows pages 0 most (feed ++ Begin options pages ∷ [])
start_reaches rows pages most options feed small =
    let none : since_begin (feed ++ Begin options pages ∷ []) ≡ [] =
    since-append [] feed (Begin options pages ∷ []) in record {
      left = pages;
      all = omega arith;
      turn = subst (AreInTurn 0) (sym none) tt;
      to = ap (copied_to 0) none;
      within = omega (arith, small, ap (weight_brought pages 0) none);
    }

-- rows that are the same
pub still_reaches : (rows new : Rows) (pages copied most more : ℕ) (feed : List Item)
    → Reaches rows pages copied most feed → ((place : Place) → new place ≡ rows place) → most ≤ more
    → Reaches new pages copied more feed
still_reaches rows new pages copied most more feed r same less =
    record {
      left = r.left;
      all = r.all;
      turn = r.turn;
      to = r.to;
      within = omega (arith, r.within, pages_same rows new same (copied + 1) r.left, less);
    }

-- a change
module _ (rows mid : Rows) (pages copied most : ℕ) (feed : List Item) (change : Change)
    (r : Reaches rows pages copied most feed)
    (sets : SetsRow rows mid change.home change.after) where
  is_since : since_begin (feed ++ items.Change change ∷ [])
      ≡ since_begin feed ++ items.Change change ∷ []
  is_since = since-append [] feed (items.Change change ∷ [])

  brings : weight_brought pages 0 (since_begin (feed ++ items.Change change ∷ []))
      ≡ weight_brought pages 0 (since_begin feed)
      + ((if is_settled pages copied change.home.page then weight change.after else 0) + 0)
  brings =
      ap (weight_brought pages 0) is_since
      ∙ weight_brought-append pages 0 (since_begin feed) (items.Change change ∷ [])
      ∙ ap
      (λ (c : ℕ). weight_brought pages 0 (since_begin feed)
      + ((if is_settled pages c change.home.page then weight change.after else 0) + 0)) r.to

  far : (change.home.page ≤ copied) ⊎ (pages + 1 ≤ change.home.page)
      → (change.home.page < copied + 1) ⊎ (copied + 1 + r.left ≤ change.home.page)
  far (inl low) = inl (omega (arith, low))
  far (inr high) = inr (omega (arith, high, r.all))

  within : (b : Bool) → is_settled pages copied change.home.page ≡ b
      → weight_brought pages 0 (since_begin (feed ++ items.Change change ∷ []))
      ≡ weight_brought pages 0 (since_begin feed) + ((if b then weight change.after else 0) + 0)
      → weight_brought pages 0 (since_begin (feed ++ items.Change change ∷ []))
      + weigh_pages mid (copied + 1) r.left ≤ most + weight change.after
  within true e is =
      omega (
        arith,
        is,
        r.within,
        set_elsewhere rows mid change.home change.after sets (copied + 1) r.left
            (far (settled_far pages copied change.home.page e)),
      )
  within false e is = omega
      (arith, is, r.within, set_weighs rows mid change.home change.after sets (copied + 1) r.left)

  change_reaches : Reaches mid pages copied (most + weight change.after)
      (feed ++ items.Change change ∷ [])
  change_reaches = record {
    left = r.left;
    all = r.all;
    turn = subst (AreInTurn 0) (sym is_since)
        (turn-append 0 (since_begin feed) (items.Change change ∷ []) r.turn tt);
    to = ap (copied_to 0) is_since
        ∙ copied_to-append 0 (since_begin feed) (items.Change change ∷ []) ∙ r.to;
    within = within (is_settled pages copied change.home.page) refl brings;
  }

pub changes_reach :
    (rows new : Rows) (pages copied most : ℕ) (feed : List Item) (made : List Change)
    → Reaches rows pages copied most feed → MovesRows made rows new
    → Reaches new pages copied (most + weigh_changes made) (feed ++ sent_changes made)
changes_reach rows new pages copied most feed [] r moves =
    subst (Reaches new pages copied (most + 0)) (sym (append-nil feed))
    (still_reaches rows new pages copied most (most + 0) feed r moves (omega arith))
changes_reach rows new pages copied most feed (change ∷ made) r moves =
    subst (Reaches new pages copied (most + weigh_changes (change ∷ made)))
    (append_assoc feed (items.Change change ∷ []) (sent_changes made)) (subst
    (λ (n : ℕ). Reaches new pages copied n
    ((feed ++ items.Change change ∷ []) ++ sent_changes made)) (omega arith)
    (changes_reach moves.0 new pages copied (most + weight change.after)
    (feed ++ items.Change change ∷ []) made
    (change_reaches rows moves.0 pages copied most feed change r moves.1) moves.2))

-- the copy of the next page
module _ (rows : Rows) (pages copied most : ℕ) (feed : List Item) (position : Position)
    (listed : List (Place × Row)) (r : Reaches rows pages copied most feed) where
  abbrev copy : Item
  copy = PageCopy (copied + 1) position listed

  copy_since : since_begin (feed ++ PageCopy (copied + 1) position listed ∷ [])
      ≡ since_begin feed ++ PageCopy (copied + 1) position listed ∷ []
  copy_since = since-append [] feed (PageCopy (copied + 1) position listed ∷ [])

  with_left : (left : ℕ) → copied + left ≡ pages
      → weight_brought pages 0 (since_begin feed) + weigh_pages rows (copied + 1) left ≤ most
      → copied < pages
      → weigh_rows listed ≤ weigh_pages rows (copied + 1) 1
      → Reaches rows pages (copied + 1) most (feed ++ PageCopy (copied + 1) position listed ∷ [])
  with_left zero all within more weighs = absurd (omega (arith, all, more))
  with_left (suc left) all within more weighs = record {
    left = left;
    all = omega (arith, all);
    turn =
        subst (AreInTurn 0) (sym copy_since)
        (turn-append 0 (since_begin feed) (PageCopy (copied + 1) position listed ∷ []) r.turn
        (ap (λ (n : ℕ). n + 1) (sym r.to), tt));
    to = ap (copied_to 0) copy_since
        ∙ copied_to-append 0 (since_begin feed) (PageCopy (copied + 1) position listed ∷ []);
    within =
        omega (
          arith,
          within,
          weighs,
          pages_split rows (copied + 1) left,
          ap (weight_brought pages 0) copy_since
              ∙ weight_brought-append pages 0 (since_begin feed)
              (PageCopy (copied + 1) position listed ∷ []),
        );
  }

  pub copy_reaches : copied < pages → AreRowsOf (copied + 1) listed
      → ((place : Place) → place.page ≡ copied + 1 → row_in listed place ≡ rows place)
      → ((place : Place) → place.page ≡ copied + 1 → 225 ≤ place.slot → rows place ≡ None)
      → Reaches rows pages (copied + 1) most (feed ++ PageCopy (copied + 1) position listed ∷ [])
  copy_reaches more are same none =
      with_left r.left r.all r.within more (copy_weighs (copied + 1) rows listed are same none)
