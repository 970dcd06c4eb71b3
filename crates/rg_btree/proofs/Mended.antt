-- Two children side by side become one, or two others.
use Rattle.std.proofs.Common.{◌≡◌, ◌+◌, ◌<◌, zero, suc, ℕ, List, [], ◌∷◌, ◌++◌, length, take, drop}
use Rattle.std.proofs.Common.{set, get_or, append_assoc, refl, sym, ◌∙◌, ap, subst, arith}
use Rattle.std.specs.List.{remove, AllByRecursion}
use Rattle.std.proofs.lemmas.List.{append-nil}
use Rattle.rg_base.specs.declared.place.Place.{Place}
use Rattle.rg_base.proofs.Each.{Each-append}
use Rattle.rg_bulk.specs.Branch.{Branch, joined, total}
use Rattle.rg_bulk.specs.Shape.{IsKid}
use Rattle.rg_btree.specs.Child.{firsts}
use Rattle.rg_btree.proofs.Kids.{IsReplaced, take_set, drop_set, take_more_set, firsts-take}
use Rattle.rg_btree.proofs.Kids.{firsts-drop, total_after, length_after, joined_after}
use Rattle.rg_btree.proofs.Kids.{joined_before}

-- ---- a list without the element behind one

pub take_removed : {X : Type 0} (xs : List X) (i : ℕ) → take i (remove xs (suc i)) ≡ take i xs
take_removed [] zero = refl
take_removed [] (suc i) = refl
take_removed (x ∷ xs) zero = refl
take_removed (x ∷ xs) (suc i) = ap (λ ys. x ∷ ys) (take_removed xs i)

pub drop_removed : {X : Type 0} (xs : List X) (i : ℕ)
    → drop (suc i) (remove xs (suc i)) ≡ drop (suc (suc i)) xs
drop_removed [] zero = refl
drop_removed [] (suc i) = refl
drop_removed (x ∷ []) zero = refl
drop_removed (x ∷ y ∷ xs) zero = refl
drop_removed (x ∷ xs) (suc i) = drop_removed xs i

pub get_removed : {X : Type 0} (xs : List X) (i : ℕ) (d : X)
    → get_or (remove xs (suc i)) i d ≡ get_or xs i d
get_removed [] zero d = refl
get_removed [] (suc i) d = refl
get_removed (x ∷ xs) zero d = refl
get_removed (x ∷ xs) (suc i) d = get_removed xs i d

pub length_removed : {X : Type 0} (xs : List X) (i : ℕ) → suc i < length xs
    → length (remove xs (suc i)) + 1 ≡ length xs
length_removed [] i lt = absurd (omega arith)
length_removed (x ∷ []) zero lt = absurd (omega arith)
length_removed (x ∷ y ∷ xs) zero lt = omega arith
length_removed (x ∷ xs) (suc i) lt = let rest = length_removed xs i (omega arith) in omega arith

cut_two : {X : Type 0} (xs : List X) (i : ℕ) (d e : X) → suc i < length xs
    → xs ≡ take i xs ++ ((get_or xs i d ∷ get_or xs (suc i) e ∷ []) ++ drop (suc (suc i)) xs)
cut_two [] i d e lt = absurd (omega arith)
cut_two (x ∷ []) zero d e lt = absurd (omega arith)
cut_two (x ∷ y ∷ xs) zero d e lt = refl
cut_two (x ∷ xs) (suc i) d e lt = ap (λ ys. x ∷ ys) (cut_two xs i d e (omega arith))

-- the keys of the others
pub front_keys : (keys : List (ℕ × Place)) (kids : List Branch) (i : ℕ) (new : Branch)
    (keys' : List (ℕ × Place)) (kids' : List Branch)
    → keys ≡ firsts kids → keys' ≡ remove keys (suc i) → kids' ≡ remove kids (suc i)
    → take i keys' ≡ firsts (take i (set kids' i new))
front_keys keys kids i new keys' kids' same k ks =
    ap (take i) k ∙ take_removed keys i ∙ ap (take i) same ∙ firsts-take i kids
    ∙ ap firsts (sym (take_removed kids i) ∙ ap (take i) (sym ks) ∙ sym (take_set kids' i new))

pub back_keys : (keys : List (ℕ × Place)) (kids : List Branch) (i : ℕ) (new : Branch)
    (keys' : List (ℕ × Place)) (kids' : List Branch)
    → keys ≡ firsts kids → keys' ≡ remove keys (suc i) → kids' ≡ remove kids (suc i)
    → drop (suc i) keys' ≡ firsts (drop (suc i) (set kids' i new))
back_keys keys kids i new keys' kids' same k ks =
    ap (drop (suc i)) k ∙ drop_removed keys i ∙ ap (drop (suc (suc i))) same
    ∙ firsts-drop (suc (suc i)) kids
    ∙ ap firsts
    (sym (drop_removed kids i) ∙ ap (drop (suc i)) (sym ks) ∙ sym (drop_set kids' i new))

pub record IsMended (h : ℕ) (before after : List Branch) (left right : Branch) (news : List Branch)
    : Type 0 where
  pub entries : joined after ≡ joined before
  pub each : AllByRecursion (IsKid h) after
  pub count : length after + 2 ≡ length before + length news
  pub nodes : total (λ kid. kid.nodes) after + (left.nodes + right.nodes)
      ≡ total (λ kid. kid.nodes) before + total (λ kid. kid.nodes) news
  pub inners : total (λ kid. kid.inners) after + (left.inners + right.inners)
      ≡ total (λ kid. kid.inners) before + total (λ kid. kid.inners) news

pub mended : (h : ℕ) (before : List Branch) (i : ℕ) (left right new : Branch)
    (others kids' after : List Branch) → suc i < length before → left ≡ get_or before i left
    → right ≡ get_or before (suc i) right → kids' ≡ remove before (suc i)
    → after ≡ take (suc i) (set kids' i new) ++ (others ++ drop (suc i) (set kids' i new))
    → AllByRecursion (IsKid h) (take i before)
    → AllByRecursion (IsKid h) (drop (suc (suc i)) before)
    → AllByRecursion (IsKid h) (new ∷ others)
    → joined (new ∷ others) ≡ left.entries ++ right.entries
    → IsMended h before after left right (new ∷ others)
mended h before i left right new others kids' after low l r ks is front back each entries =
    let some : i < length kids' = omega (arith, length_removed before i low, ap length ks) in
    let was : before ≡ take i before ++ ((left ∷ right ∷ []) ++ drop (suc (suc i)) before) =
    cut_two before i left right low
    ∙ (λ j. take i before ++ ((sym l j ∷ sym r j ∷ []) ++ drop (suc (suc i)) before)) in
    let now : after ≡ take i before ++ ((new ∷ others) ++ drop (suc (suc i)) before) =
    is ∙ (λ j. take_more_set kids' i new some j ++ (others ++ drop_set kids' i new j))
    ∙ append_assoc (take i kids') (new ∷ []) (others ++ drop (suc i) kids')
    ∙ (λ j. (ap (take i) ks ∙ take_removed before i) j
    ++ ((new ∷ others) ++ (ap (drop (suc i)) ks ∙ drop_removed before i) j)) in
    let swap : IsReplaced (take i before) (left ∷ right ∷ []) (new ∷ others)
    (drop (suc (suc i)) before) before after = record { was = was; is = now } in
    let lengths = length_after (take i before) (left ∷ right ∷ []) (new ∷ others)
    (drop (suc (suc i)) before) before after swap in
    let nodes = total_after (take i before) (left ∷ right ∷ []) (new ∷ others)
    (drop (suc (suc i)) before) before after swap (λ kid. kid.nodes) in
    let inners = total_after (take i before) (left ∷ right ∷ []) (new ∷ others)
    (drop (suc (suc i)) before) before after swap (λ kid. kid.inners) in
    record {
      entries =
          joined_after (take i before) (left ∷ right ∷ []) (new ∷ others)
          (drop (suc (suc i)) before) before after swap
          ∙ ap (λ es. joined (take i before) ++ (es ++ joined (drop (suc (suc i)) before)))
          (entries ∙ ap (λ es. left.entries ++ es) (sym (append-nil right.entries)))
          ∙ sym
          (joined_before (take i before) (left ∷ right ∷ []) (new ∷ others)
          (drop (suc (suc i)) before) before after swap);
      each = subst (AllByRecursion (IsKid h)) (sym now)
          (Each-append (IsKid h) (take i before) ((new ∷ others) ++ drop (suc (suc i)) before)
          front (Each-append (IsKid h) (new ∷ others) (drop (suc (suc i)) before) each back));
      count = omega arith;
      nodes = omega arith;
      inners = omega arith;
    }
