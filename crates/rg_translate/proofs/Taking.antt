-- The next changes of a backlog, one after another.
use Rattle.std.proofs.Common.{◌≡◌, ℕ, ◌+◌, ◌<◌, zero, suc, Bool, true, false, List, [], ◌∷◌, ◌++◌}
use Rattle.std.proofs.Common.{refl, sym, ◌∙◌, ap, add-one, arith, drop, if◌then◌else◌, length}
use Rattle.std.proofs.Common.{length-drop, take}
use Rattle.rg_base.specs.declared.change.Change.{Change}
use Rattle.rg_base.proofs.Small.{take_suc}
use Rattle.rg_feed.specs.Ends.{Received}
use Rattle.rg_feed.specs.Fold.Fold.{changes, since_begin}
use Rattle.rg_feed.specs.Fold.Lawful.{kept, passes_over}
use Rattle.rg_feed.specs.declared.fold.item.Item.{Item}
use Rattle.rg_translate.specs.Backlog.{to_make}

pub some_left : {A : Type 0} (k : ℕ) (xs : List A) → drop k xs ≡ [] → k < length xs → ⊥
some_left k xs e some = omega (arith, length-drop k xs, ap length e)

nothing : {A : Type 0} (k : ℕ) → drop {A = A} k [] ≡ []
nothing zero = refl
nothing (suc k) = refl

drop_drop : {A : Type 0} (n k : ℕ) (xs : List A) → drop n (drop k xs) ≡ drop (k + n) xs
drop_drop n zero xs = ap (λ m. drop m xs) (omega arith)
drop_drop n (suc k) [] = nothing n ∙ sym (nothing (suc k + n))
drop_drop n (suc k) (x ∷ xs) =
    let e : suc (k + n) ≡ suc k + n = omega arith in
    drop_drop n k xs ∙ ap (λ m. drop m (x ∷ xs)) e

-- n from the k-th on, and the one behind them
next-step : {A : Type 0} (n k m : ℕ) (xs : List A) → m ≡ k + n
    → take (n + 1) (drop k xs) ≡ take n (drop k xs) ++ take 1 (drop m xs)
next-step n k m xs e =
    ap (λ m. take m (drop k xs)) (add-one n) ∙ take_suc n (drop k xs)
    ∙ ap (λ ys. take n (drop k xs) ++ take 1 ys) (drop_drop n k xs ∙ ap (λ m. drop m xs) (sym e))

pub kept-append : (feed : List Item) (xs ys : List Change)
    → kept feed (xs ++ ys) ≡ kept feed xs ++ kept feed ys
kept-append feed [] ys = refl
kept-append feed (x ∷ xs) ys = go (passes_over feed x) (kept-append feed xs ys)
  where
    go : (b : Bool) → kept feed (xs ++ ys) ≡ kept feed xs ++ kept feed ys
        → (if b then kept feed (xs ++ ys) else x ∷ kept feed (xs ++ ys))
        ≡ (if b then kept feed xs else x ∷ kept feed xs) ++ kept feed ys
    go true e = e
    go false e = ap (λ zs. x ∷ zs) e

-- the batch of one change more
pub one_more : (n : ℕ) (start here : Received) → here.items ≡ start.items
    → here.taken ≡ start.taken + n
    → to_make (n + 1) start ≡ to_make n start ++ to_make 1 here
one_more n start here items taken =
    let all = changes (since_begin start.items) in
    ap (kept (since_begin start.items)) (next-step n start.taken here.taken all taken)
    ∙ kept-append (since_begin start.items) (take n (drop start.taken all))
    (take 1 (drop here.taken all))
    ∙ ap
    (λ (xs : List Item). kept (since_begin start.items) (take n (drop start.taken all))
    ++ kept (since_begin xs) (take 1 (drop here.taken (changes (since_begin xs))))) (sym items)

pub grown : (n : ℕ) (start here : Received) (batch more : List Change) → here.items ≡ start.items
    → here.taken ≡ start.taken + n
    → batch ≡ to_make n start → more ≡ batch ++ to_make 1 here → more ≡ to_make (n + 1) start
grown n start here batch more items taken is adds =
    adds ∙ ap (λ cs. cs ++ to_make 1 here) is ∙ sym (one_more n start here items taken)
