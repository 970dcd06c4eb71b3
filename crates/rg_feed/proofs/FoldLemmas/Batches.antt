-- Several changes at once, and places that none of them names.
use Rattle.std.proofs.Common.{◌≡◌, ℕ, ◌+◌, ◌≤◌, zero, suc, Bool, true, false, List, [], ◌∷◌, Option}
use Rattle.std.proofs.Common.{Some, None, refl, ◌∙◌, ap, if◌then◌else◌, arith, drop, take, length}
use Rattle.rg_base.specs.declared.change.Change.{Change}
use Rattle.rg_base.specs.declared.place.Place.{Place}
use Rattle.rg_base.specs.Place.{same_place}
use Rattle.rg_feed.specs.Fold.Last.{applied_at, changed_at, last_at, later_of}
use Rattle.rg_feed.specs.Fold.Fold.{changes, fold_to, since_begin}
use Rattle.rg_feed.specs.Fold.Lawful.{Lawful, kept, passes_over}
use Rattle.rg_feed.specs.declared.fold.item.Item.{Item}
use Rattle.rg_feed.proofs.FoldLemmas.Applied.{same_fold}
use Rattle.rg_feed.proofs.FoldLemmas.Taken.{take_one}

rest_of : {A : Type 0} → List A → List A
rest_of [] = []
rest_of (x ∷ xs) = xs

same_rest : {A : Type 0} {x y : A} {xs ys : List A} → x ∷ xs ≡ y ∷ ys → xs ≡ ys
unfolding rest_of
same_rest e = ap rest_of e

drop_next : {A : Type 0} (k : ℕ) (xs : List A) (x : A) (rest : List A) → drop k xs ≡ x ∷ rest
    → drop (suc k) xs ≡ rest
drop_next zero [] x rest e = absurd (cc (e))
drop_next zero (y ∷ ys) x rest e = same_rest e
drop_next (suc k) [] x rest e = absurd (cc (e))
drop_next (suc k) (y ∷ ys) x rest e = drop_next k ys x rest e

one_later : (n k : ℕ) → suc n + k ≡ n + suc k
one_later n k = omega arith

pub batch : (feed : List Item) (n k : ℕ) (rest : List Change) → Lawful (since_begin feed)
    → drop k (changes (since_begin feed)) ≡ rest → n ≤ length rest → (place : Place)
    → fold_to feed (n + k) place
    ≡ applied_at place (kept (since_begin feed) (take n rest)) (fold_to feed k place)
batch feed zero k rest lawful e within place = ap (λ n. fold_to feed n place) (omega arith)
batch feed (suc n) k [] lawful e within place = absurd (omega (arith, within))
batch feed (suc n) k (change ∷ rest) lawful e within place =
    ap (λ m. fold_to feed m place) (one_later n k)
    ∙ batch feed n (suc k) rest lawful (drop_next k (changes (since_begin feed)) change rest e)
    (omega (arith, within)) place
    ∙ ap (applied_at place (kept (since_begin feed) (take n rest)))
    (take_one feed k change rest lawful e place)
    ∙ go (passes_over (since_begin feed) change)
  where
    go : (b : Bool)
        → applied_at place (kept (since_begin feed) (take n rest))
        (if b then fold_to feed k place else changed_at place change (fold_to feed k place))
        ≡ applied_at place
        (if b then kept (since_begin feed) (take n rest)
        else change ∷ kept (since_begin feed) (take n rest)) (fold_to feed k place)
    go true = refl
    go false = refl

-- a place that none names

pub both_none : (later earlier : Option Change) → later_of later earlier ≡ None
    → (later ≡ None) × (earlier ≡ None)
both_none None earlier e = (refl, e)
both_none (Some change) earlier e = absurd (cc (e))

pub none_kept : (place : Place) (feed : List Item) (cs : List Change) → last_at place cs ≡ None
    → last_at place (kept feed cs) ≡ None
none_kept place feed [] e = refl
none_kept place feed (c ∷ cs) e = go (passes_over feed c)
    (both_none (last_at place cs) (if same_place c.home place then Some c else None) e)
    (none_kept place feed cs)
  where
    go : (b : Bool)
        → (last_at place cs ≡ None) × ((if same_place c.home place then Some c else None) ≡ None)
        → (last_at place cs ≡ None → last_at place (kept feed cs) ≡ None)
        → last_at place (if b then kept feed cs else c ∷ kept feed cs) ≡ None
    go true none rest = rest none.0
    go false none rest =
        ap (λ later. later_of later (if same_place c.home place then Some c else None))
        (rest none.0) ∙ none.1

pub unnamed_stays : (feed : List Item) (n k : ℕ) → Lawful (since_begin feed)
    → n ≤ length (drop k (changes (since_begin feed))) → (place : Place)
    → last_at place (take n (drop k (changes (since_begin feed)))) ≡ None
    → fold_to feed (n + k) place ≡ fold_to feed k place
unnamed_stays feed n k lawful within place none =
    let rest = drop k (changes (since_begin feed)) in
    batch feed n k rest lawful refl within place
    ∙ same_fold (kept (since_begin feed) (take n rest)) [] place
    (none_kept place (since_begin feed) (take n rest) none) (fold_to feed k place)
