-- How far the indexes of a draft are made, step by step.
use Rattle.std.proofs.Common.{◌≡◌, ◌≤◌, ◌<◌, ◌+◌, nat_lt, ℕ, Bool, true, zero, suc, if◌then◌else◌}
use Rattle.std.proofs.Common.{refl, sym, ◌∙◌, ap, subst, arith}
use Rattle.std.proofs.lemmas.Bool.Decides.{nat_tests}
use Rattle.rg_base.specs.declared.which.Which.{Which}
use Rattle.rg_base.specs.declared.which.Which.TheVariants.{Key, Clus, Cat}
use Rattle.rg_model.specs.Turn.{nth_which}
use Rattle.rg_shadow.specs.Shade.{Shade, stage_in, with_stage}
use Rattle.rg_shadow.specs.declared.drafts.IndexStage.{IndexStage}
use Rattle.rg_shadow.specs.declared.drafts.IndexStage.TheVariants.{Unsorted, Sorted, Built}
use Rattle.rg_phase.specs.Made.{stage_by}

pub with_copy : (which : Which) (stage : IndexStage) (s : Shade)
    → (with_stage which stage s).copy ≡ s.copy
with_copy Key stage s = refl
with_copy Clus stage s = refl
with_copy Cat stage s = refl

pub with_capacity : (which : Which) (stage : IndexStage) (s : Shade)
    → (with_stage which stage s).capacity ≡ s.capacity
with_capacity Key stage s = refl
with_capacity Clus stage s = refl
with_capacity Cat stage s = refl

-- the indexes are made as these numbers say
abbrev AreMade : (sorted built : ℕ) → Shade → Type 0
AreMade sorted built s = (which : Which) → stage_in which s ≡ stage_by sorted built which

pub sort_next : (n b : ℕ) (s : Shade) → b ≤ n → n < 3 → AreMade n b s
    → AreMade (n + 1) b (with_stage (nth_which n) Sorted s)
sort_next zero zero s few low h Key = refl
sort_next zero zero s few low h Clus = h Clus
sort_next zero zero s few low h Cat = h Cat
sort_next zero (suc b) s few low h which = absurd (omega (arith, few))
sort_next (suc zero) zero s few low h Key = h Key
sort_next (suc zero) zero s few low h Clus = refl
sort_next (suc zero) zero s few low h Cat = h Cat
sort_next (suc zero) (suc zero) s few low h Key = h Key
sort_next (suc zero) (suc zero) s few low h Clus = refl
sort_next (suc zero) (suc zero) s few low h Cat = h Cat
sort_next (suc zero) (suc (suc b)) s few low h which = absurd (omega (arith, few))
sort_next (suc (suc zero)) zero s few low h Key = h Key
sort_next (suc (suc zero)) zero s few low h Clus = h Clus
sort_next (suc (suc zero)) zero s few low h Cat = refl
sort_next (suc (suc zero)) (suc zero) s few low h Key = h Key
sort_next (suc (suc zero)) (suc zero) s few low h Clus = h Clus
sort_next (suc (suc zero)) (suc zero) s few low h Cat = refl
sort_next (suc (suc zero)) (suc (suc zero)) s few low h Key = h Key
sort_next (suc (suc zero)) (suc (suc zero)) s few low h Clus = h Clus
sort_next (suc (suc zero)) (suc (suc zero)) s few low h Cat = refl
sort_next (suc (suc zero)) (suc (suc (suc b))) s few low h which = absurd (omega (arith, few))
sort_next (suc (suc (suc n))) b s few low h which = absurd (omega (arith, low))

pub build_next_index : (n m : ℕ) (s : Shade) → n < 3 → 3 ≤ m → AreMade m n s
    → AreMade m (n + 1) (with_stage (nth_which n) Built s)
build_next_index n zero s low all h which = absurd (omega (arith, all))
build_next_index n (suc zero) s low all h which = absurd (omega (arith, all))
build_next_index n (suc (suc zero)) s low all h which = absurd (omega (arith, all))
build_next_index zero (suc (suc (suc m))) s low all h Key = refl
build_next_index zero (suc (suc (suc m))) s low all h Clus = h Clus
build_next_index zero (suc (suc (suc m))) s low all h Cat = h Cat
build_next_index (suc zero) (suc (suc (suc m))) s low all h Key = h Key
build_next_index (suc zero) (suc (suc (suc m))) s low all h Clus = refl
build_next_index (suc zero) (suc (suc (suc m))) s low all h Cat = h Cat
build_next_index (suc (suc zero)) (suc (suc (suc m))) s low all h Key = h Key
build_next_index (suc (suc zero)) (suc (suc (suc m))) s low all h Clus = h Clus
build_next_index (suc (suc zero)) (suc (suc (suc m))) s low all h Cat = refl
build_next_index (suc (suc (suc n))) (suc (suc (suc m))) s low all h which =
    absurd (omega (arith, low))

below : (m n : ℕ) → m < n → nat_lt m n ≡ true
below m n e = grind (arith, nat_tests, e)

-- the next one to be built has its list sorted
pub next_sorted : (n m : ℕ) → n < 3 → 3 ≤ m → stage_by m n (nth_which n) ≡ Sorted
next_sorted zero m few all =
    ap (λ (b : Bool). if b then Sorted else Unsorted) (below 0 m (omega (arith, all)))
next_sorted (suc zero) m few all =
    ap (λ (b : Bool). if b then Sorted else Unsorted) (below 1 m (omega (arith, all)))
next_sorted (suc (suc zero)) m few all =
    ap (λ (b : Bool). if b then Sorted else Unsorted) (below 2 m (omega (arith, all)))
next_sorted (suc (suc (suc n))) m few all = absurd (omega (arith, few))

pub all_built : (m n : ℕ) → 3 ≤ n → (which : Which) → stage_by m n which ≡ Built
all_built m n all Key =
    ap (λ (b : Bool). if b then Built else (if nat_lt 0 m then Sorted else Unsorted))
    (below 0 n (omega (arith, all)))
all_built m n all Clus =
    ap (λ (b : Bool). if b then Built else (if nat_lt 1 m then Sorted else Unsorted))
    (below 1 n (omega (arith, all)))
all_built m n all Cat =
    ap (λ (b : Bool). if b then Built else (if nat_lt 2 m then Sorted else Unsorted))
    (below 2 n (omega (arith, all)))

pub none_made : (which : Which) → Unsorted ≡ stage_by 0 0 which
none_made Key = refl
none_made Clus = refl
none_made Cat = refl
