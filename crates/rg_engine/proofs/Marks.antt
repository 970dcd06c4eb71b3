-- The marks of pages, and one more page without a mark.
use Rattle.std.proofs.Common.{◌≡◌, ◌==◌, ◌≤◌, ◌<◌, ◌++◌, ◌+◌, ℕ, zero, suc, true, List, [], ◌∷◌}
use Rattle.std.proofs.Common.{Option, Some, None, length, slice_index_or, refl, sym, ◌∙◌, ap, subst}
use Rattle.std.proofs.Common.{arith, ◌⊎◌, inl, inr}
use Rattle.rg_base.proofs.Walk.{place}
use Rattle.rg_base.specs.declared.position.Position.{Position}
use Rattle.rg_base.proofs.Small.{nat_itself}
use Rattle.rg_page.specs.Content.{Content, content_at}
use Rattle.rg_engine.specs.Prepared.{AreMarksAt, IsMarkAt, IsMarkOf}
use Rattle.rg_engine.specs.OnVolume.{AllCleanBefore, AreClean, is_clean, is_clean_at, mark_at}

none_at : (ms : List (Option Position)) (i : ℕ)
    → slice_index_or (ms ++ None ∷ []) i None ≡ slice_index_or ms i None
none_at [] zero = refl
none_at [] (suc i) = refl
none_at (m ∷ ms) zero = refl
none_at (m ∷ ms) (suc i) = none_at ms i

pub mark_push : (ms : List (Option Position)) (p : ℕ) → 1 ≤ p
    → mark_at (ms ++ None ∷ []) p ≡ mark_at ms p
mark_push ms zero one = absurd (omega (arith, one))
mark_push ms (suc p) one = none_at ms p

-- a page more has this mark
at_end : (ms : List (Option Position)) (m : Option Position) (i : ℕ)
    → ((i ≡ length ms → ⊥) × (slice_index_or (ms ++ m ∷ []) i None ≡ slice_index_or ms i None))
    ⊎ ((i ≡ length ms) × (slice_index_or (ms ++ m ∷ []) i None ≡ m))
at_end [] m zero = inr (refl, refl)
at_end [] m (suc i) = inl (λ e. absurd (omega (arith, e)), refl)
at_end (x ∷ ms) m zero = inl (λ e. absurd (omega (arith, e)), refl)
at_end (x ∷ ms) m (suc i) = go (at_end ms m i)
  where
    go : ((i ≡ length ms → ⊥) × (slice_index_or (ms ++ m ∷ []) i None ≡ slice_index_or ms i None))
        ⊎ ((i ≡ length ms) × (slice_index_or (ms ++ m ∷ []) i None ≡ m))
        → ((suc i ≡ length (x ∷ ms) → ⊥)
        × (slice_index_or (ms ++ m ∷ []) i None ≡ slice_index_or ms i None))
        ⊎ ((suc i ≡ length (x ∷ ms)) × (slice_index_or (ms ++ m ∷ []) i None ≡ m))
    go (inl (apart, same)) = inl (λ e. apart (omega (arith, e)), same)
    go (inr (end, is)) = inr (ap suc end, is)

more_marks : (count at p : ℕ) (m : Option Position) → (p ≡ count + 1 → ⊥) → IsMarkAt count at p m
    → IsMarkAt (count + 1) at p m
more_marks count at p None apart is = grind (arith, is, apart)
more_marks count at p (Some q) apart is = (omega (arith, is.0), is.1)

pub marks_push : (count at : ℕ) (ms : List (Option Position)) (x : Position) → x.0 ≡ at
    → length ms ≡ count → AreMarksAt count at ms → AreMarksAt (count + 1) at (ms ++ Some x ∷ [])
marks_push count at ms x is long are zero one = absurd (omega (arith, one))
marks_push count at ms x is long are (suc p) one = go (at_end ms (Some x) p)
  where
    go :
        ((p ≡ length ms → ⊥)
        × (slice_index_or (ms ++ Some x ∷ []) p None ≡ slice_index_or ms p None))
        ⊎ ((p ≡ length ms) × (slice_index_or (ms ++ Some x ∷ []) p None ≡ Some x))
        → IsMarkAt (count + 1) at (suc p) (slice_index_or (ms ++ Some x ∷ []) p None)
    go (inl (apart, same)) = subst (IsMarkAt (count + 1) at (suc p)) (sym same)
        (more_marks count at (suc p) (slice_index_or ms p None)
        (λ e. apart (omega (arith, e, long))) (are (suc p) one))
    go (inr (end, same)) =
        subst (IsMarkAt (count + 1) at (suc p)) (sym same) (omega (arith, end, long), is)

-- one page more is clean
pub clean_more : (contents : List Content) (marks : List (Option Position)) (end : ℕ)
    → AllCleanBefore contents marks end → is_clean_at contents marks end ≡ true
    → AllCleanBefore contents marks (end + 1)
clean_more contents marks end before here q one low = go (place q end)
  where
    go : (q < end) ⊎ ((end ≡ q) ⊎ (end < q)) → is_clean_at contents marks q ≡ true
    go (inl less) = before q one less
    go (inr (inl same)) = subst (λ (k : ℕ). is_clean_at contents marks k ≡ true) same here
    go (inr (inr more)) = absurd (omega (arith, low, more))

-- where each page has its mark, all are clean
pub all_clean : (pages : List Content) (marks : List (Option Position))
    → ((q : ℕ) → 1 ≤ q → IsMarkOf pages q (mark_at marks q)) → AreClean pages marks
all_clean pages marks marked q one high = go (mark_at marks q) (marked q one)
  where
    go : (m : Option Position) → IsMarkOf pages q m → is_clean m (content_at pages q) ≡ true
    go None past = absurd (omega (arith, past, high))
    go (Some at) is = ap (λ (n : ℕ). n == (content_at pages q).position) is.1
        ∙ nat_itself (content_at pages q).position
