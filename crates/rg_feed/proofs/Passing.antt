-- Which copies pass a change over.
use Rattle.std.proofs.Common.{◌≡◌, ◌==◌, ◌&&◌, ◌||◌, ℕ, ◌+◌, ◌<◌, ◌≤◌, nat_le, zero, suc, Bool}
use Rattle.std.proofs.Common.{true, false, List, [], ◌∷◌, ◌++◌, ◌⊎◌, inl, inr, refl, sym, ◌∙◌, ap}
use Rattle.std.proofs.Common.{arith, drop, get_or, length}
use Rattle.std.proofs.lemmas.Bool.{and_parts, eqb-true, ne_eqb}
use Rattle.std.proofs.lemmas.List.{at_drop_more}
use Rattle.std.proofs.Math.Bool.{and-true}
use Rattle.rg_base.specs.declared.change.Change.{Change}
use Rattle.rg_feed.specs.Fold.Fold.{page_copies}
use Rattle.rg_feed.specs.Fold.Lawful.{passes_over}
use Rattle.rg_base.specs.declared.place.Place.{Place}
use Rattle.rg_base.specs.declared.position.Position.{Position}
use Rattle.rg_base.specs.declared.row.Row.{Row}
use Rattle.rg_feed.specs.declared.fold.item.Item.{Item}
use Rattle.rg_feed.specs.declared.fold.item.Item.TheVariants.{Begin, PageCopy, Booked}
use Rattle.rg_feed.specs.declared.fold.item.Item.TheVariants as items
use Rattle.rg_feed.specs.Ends.{are_numbered}

pub of_copies : (change : Change) (feed : List Item)
    → passes_over (page_copies feed) change ≡ passes_over feed change
of_copies change [] = refl
of_copies change (Begin o n ∷ xs) = of_copies change xs
of_copies change (PageCopy page at rows ∷ xs) =
    ap (λ b. (page == change.home.page && nat_le change.position.0 at.0) || b) (of_copies change xs)
of_copies change (items.Change c ∷ xs) = of_copies change xs
of_copies change (Booked s ∷ xs) = of_copies change xs

-- by the first item, or by the rest
by_first : (change : Change) (x : Item) (xs : List Item)
    → passes_over (x ∷ xs) change ≡ (passes_over (x ∷ []) change || passes_over xs change)
by_first change (Begin o n) xs = refl
by_first change (PageCopy page at rows) xs =
    go (page == change.home.page && nat_le change.position.0 at.0)
  where
    go : (b : Bool) → (b || passes_over xs change) ≡ ((b || false) || passes_over xs change)
    go true = refl
    go false = refl
by_first change (items.Change c) xs = refl
by_first change (Booked s) xs = refl

pub passed_at : (change : Change) (xs : List Item) (i : ℕ) (x : Item) (b : Bool) → i < length xs
    → x ≡ get_or xs i x → b ≡ passes_over (x ∷ []) change
    → passes_over (drop i xs) change ≡ (b || passes_over (drop (i + 1) xs) change)
passed_at change xs i x b within is e =
    at_drop_more (λ ys. passes_over ys change) xs i x within
    ∙ by_first change (get_or xs i x) (drop (i + 1) xs)
    ∙ ap (λ y. passes_over (y ∷ []) change || passes_over (drop (i + 1) xs) change) (sym is)
    ∙ ap (λ b. b || passes_over (drop (i + 1) xs) change) (sym e)

-- copies in turn

other_page : (change : Change) (n page : ℕ) → (n == page + 1) ≡ true
    → (change.home.page ≡ page + 1 → ⊥) → (n == change.home.page) ≡ false
other_page change n page is off =
    ne_eqb n change.home.page (λ e. off (sym e ∙ eqb-true n (page + 1) is))

pub in_turn_none : (change : Change) (page : ℕ) (xs : List Item) → are_numbered page xs ≡ true
    → (change.home.page ≤ page) ⊎ (page + length xs < change.home.page)
    → passes_over xs change ≡ false
in_turn_none change page [] numbered off = refl
in_turn_none change page (Begin o n ∷ xs) numbered off = absurd (cc (numbered))
in_turn_none change page (PageCopy n at rows ∷ xs) numbered off =
    let parts = and_parts (n == page + 1) (are_numbered (page + 1) xs) numbered in
    rw (other_page change n page parts.0 (here off))
    (in_turn_none change (page + 1) xs parts.1 (later off))
  where
    here : (change.home.page ≤ page) ⊎ (page + suc (length xs) < change.home.page)
        → change.home.page ≡ page + 1 → ⊥
    here (inl h) e = omega (arith, h, e)
    here (inr h) e = omega (arith, h, e)

    later : (change.home.page ≤ page) ⊎ (page + suc (length xs) < change.home.page)
        → (change.home.page ≤ page + 1) ⊎ (page + 1 + length xs < change.home.page)
    later (inl h) = inl (omega (arith, h))
    later (inr h) = inr (omega (arith, h))
in_turn_none change page (items.Change c ∷ xs) numbered off = absurd (cc (numbered))
in_turn_none change page (Booked s ∷ xs) numbered off = absurd (cc (numbered))

pub in_turn_at : (change : Change) (page : ℕ) (xs : List Item) (i : ℕ) (d : Item)
    → are_numbered page xs ≡ true → i < length xs → change.home.page ≡ page + (i + 1)
    → passes_over (get_or xs i d ∷ []) change ≡ passes_over xs change
in_turn_at change page [] i d numbered within is = absurd (omega (arith, within))
in_turn_at change page (Begin o n ∷ xs) i d numbered within is = absurd (cc (numbered))
in_turn_at change page (PageCopy n at rows ∷ xs) zero d numbered within is =
    let parts = and_parts (n == page + 1) (are_numbered (page + 1) xs) numbered in
    ap (λ b. (n == change.home.page && nat_le change.position.0 at.0) || b)
    (sym (in_turn_none change (page + 1) xs parts.1 (inl (omega (arith, is)))))
in_turn_at change page (PageCopy n at rows ∷ xs) (suc i) d numbered within is =
    let parts = and_parts (n == page + 1) (are_numbered (page + 1) xs) numbered in
    rw (other_page change n page parts.0 (λ e. omega (arith, e, is)))
    (in_turn_at change (page + 1) xs i d parts.1 (omega (arith, within)) (omega (arith, is)))
in_turn_at change page (items.Change c ∷ xs) i d numbered within is = absurd (cc (numbered))
in_turn_at change page (Booked s ∷ xs) i d numbered within is = absurd (cc (numbered))

-- one copy more

pub more_numbered : (page : ℕ) (xs : List Item) (n : ℕ) (at : Position) (rows : List (Place × Row))
    → are_numbered page (xs ++ PageCopy n at rows ∷ [])
    ≡ (are_numbered page xs && n == page + length xs + 1)
more_numbered page [] n at rows = and-true (n == page + 1) ∙ ap (λ m. n == m) (omega arith)
more_numbered page (Begin o m ∷ xs) n at rows = refl
more_numbered page (PageCopy m a more ∷ xs) n at rows =
    go (m == page + 1) (are_numbered (page + 1) xs) (n == page + suc (length xs) + 1)
    (more_numbered (page + 1) xs n at rows
    ∙ ap (λ k. are_numbered (page + 1) xs && n == k) (longer page (length xs)))
  where
    longer : (k l : ℕ) → k + 1 + l + 1 ≡ k + suc l + 1
    longer k l = omega arith

    go : (b : Bool) {x : Bool} (y z : Bool) → x ≡ (y && z) → (b && x) ≡ ((b && y) && z)
    go true y z e = e
    go false y z e = refl
more_numbered page (items.Change c ∷ xs) n at rows = refl
more_numbered page (Booked s ∷ xs) n at rows = refl
