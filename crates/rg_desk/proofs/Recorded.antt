-- The entries of a desk, and one more.
use Rattle.std.proofs.Common.{◌≡◌, ◌≤◌, ◌<◌, ◌^◌, ◌⊎◌, inl, inr, ℕ, zero, suc, List, [], ◌∷◌}
use Rattle.std.proofs.Common.{◌++◌, drop, length, get_or, refl, sym, ap, arith}
use Rattle.std.specs.List.{AllByRecursion}
use Rattle.std.proofs.lemmas.List.Elements.{All-from_recursion}
use Rattle.rg_laws_utility.proofs.TraceStageLemmas.Tended.{length_push}
use Rattle.rg_base.proofs.Walk.{place}
use Rattle.rg_stmt.specs.declared.event.Entry.{Entry}
use Rattle.rg_desk.specs.Chronicle.{IsEntry, IsRecorded}

at_left : (xs : List Entry) (x d : Entry) (i : ℕ) → i < length xs
    → get_or (xs ++ x ∷ []) i d ≡ get_or xs i d
at_left [] x d i lt = absurd (omega arith)
at_left (y ∷ xs) x d zero lt = refl
at_left (y ∷ xs) x d (suc i) lt = at_left xs x d i (omega arith)

at_last : (xs : List Entry) (x d : Entry) (n : ℕ) → n ≡ length xs → get_or (xs ++ x ∷ []) n d ≡ x
at_last [] x d zero e = refl
at_last [] x d (suc n) e = absurd (omega arith)
at_last (y ∷ xs) x d zero e = absurd (omega arith)
at_last (y ∷ xs) x d (suc n) e = at_last xs x d n (omega arith)

all_push : (P : Entry → Type 0) (xs : List Entry) (x : Entry) → AllByRecursion P xs → P x
    → AllByRecursion P (xs ++ x ∷ [])
all_push P [] x all is = (is, tt)
all_push P (y ∷ xs) x all is = (all.0, all_push P xs x all.1 is)

all_more : (a b : ℕ) (xs : List Entry) → a ≤ b → AllByRecursion (λ e. e.calls ≤ a) xs
    → AllByRecursion (λ e. e.calls ≤ b) xs
all_more a b [] le all = tt
all_more a b (y ∷ xs) le all = (omega (arith, le, all.0), all_more a b xs le all.1)

pub recorded_push : (trace : List Entry) (calls : ℕ) (e : Entry) → IsRecorded trace calls
    → calls ≤ e.calls → IsEntry e → length (trace ++ e ∷ []) < 2 ^ 63
    → IsRecorded (trace ++ e ∷ []) e.calls
recorded_push trace calls e was le is few = record {
  rising = λ i j d below lt. by_place i j d below lt (place j (length trace));
  below = all_push (λ x. x.calls ≤ e.calls) trace e (all_more calls e.calls trace le was.below)
      (omega arith);
  each = all_push IsEntry trace e was.each is;
  few = few;
}
  where
    by_last : (i j : ℕ) (d : Entry) → i ≤ j → j ≡ length trace
        → (i < length trace) ⊎ ((length trace ≡ i) ⊎ (length trace < i))
        → (get_or (trace ++ e ∷ []) i d).calls ≤ (get_or (trace ++ e ∷ []) j d).calls
    by_last i j d below at (inl lt) =
        let a = ap (λ (x : Entry). x.calls) (at_left trace e d i lt) in
        let b = ap (λ (x : Entry). x.calls) (at_last trace e d j at) in
        let c : (get_or trace i d).calls ≤ calls =
        All-from_recursion (λ x. x.calls ≤ calls) trace was.below i d lt in
        omega (arith, a, b, c, le)
    by_last i j d below at (inr (inl same)) =
        let a = ap (λ (x : Entry). x.calls) (at_last trace e d i (sym same)) in
        let b = ap (λ (x : Entry). x.calls) (at_last trace e d j at) in
        omega (arith, a, b)
    by_last i j d below at (inr (inr past)) = absurd (omega (arith, below, at, past))

    by_place : (i j : ℕ) (d : Entry) → i ≤ j → j < length (trace ++ e ∷ [])
        → (j < length trace) ⊎ ((length trace ≡ j) ⊎ (length trace < j))
        → (get_or (trace ++ e ∷ []) i d).calls ≤ (get_or (trace ++ e ∷ []) j d).calls
    by_place i j d below lt (inl low) =
        let a = ap (λ (x : Entry). x.calls) (at_left trace e d i (omega (arith, below, low))) in
        let b = ap (λ (x : Entry). x.calls) (at_left trace e d j low) in
        let c = was.rising i j d below low in
        omega (arith, a, b, c)
    by_place i j d below lt (inr (inl same)) =
        by_last i j d below (sym same) (place i (length trace))
    by_place i j d below lt (inr (inr past)) = let n = length_push trace e in
        absurd (omega (arith, lt, past, n))

-- what holds of all entries holds of the later ones

recorded_tail : (x : Entry) (xs : List Entry) (calls : ℕ) → IsRecorded (x ∷ xs) calls
    → IsRecorded xs calls
recorded_tail x xs calls was = record {
  rising =
      λ i j d below lt. was.rising (suc i) (suc j) d (omega (arith, below)) (omega (arith, lt));
  below = was.below.1;
  each = was.each.1;
  few = let few = was.few in omega (arith, few);
}

pub recorded_drop : (n : ℕ) (xs : List Entry) (calls : ℕ) → IsRecorded xs calls
    → IsRecorded (drop n xs) calls
recorded_drop zero xs calls was = was
recorded_drop (suc n) [] calls was = was
recorded_drop (suc n) (x ∷ xs) calls was = recorded_drop n xs calls (recorded_tail x xs calls was)

-- there may be none
pub recorded_none : (calls : ℕ) → IsRecorded [] calls
recorded_none calls = record {
  rising = λ i j d below lt. absurd (omega (arith, lt));
  below = tt;
  each = tt;
  few = omega arith;
}
