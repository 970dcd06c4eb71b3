-- The numbers of pages.
use Rattle.std.proofs.Common.{◌≡◌, ℕ, ◌+◌, ◌-◌, ◌/◌, ◌==◌, ◌≤◌, ◌<◌, Bool, true, false}
use Rattle.std.proofs.Common.{if◌then◌else◌, refl, arith}
use Rattle.std.proofs.Math.Nat.{div-mul-le_self}
use Rattle.std.proofs.lemmas.Bool.Decides.{nat_tests}
use Rattle.std.proofs.lemmas.Nat.{le-div}
use Rattle.rg_model.specs.Packed.{page_at, page_count}

-- the next filled page is the next one of all pages, once those that are due are there
pub page_at-next : (freepage k : ℕ) → page_at freepage (k + 1) ≡ page_count freepage k + 1
page_at-next freepage k = go (freepage == 0)
  where
    go : (b : Bool)
        → (if b then k + 1 else (k + 1) + (k + 1 - 1) / freepage)
        ≡ (if b then k else k + k / freepage) + 1
    go true = refl
    go false = let e : k + 1 - 1 ≡ k = omega arith in rw e (omega arith)

pub above_zero : (n : ℕ) → (n == 0) ≡ false → 0 < n
above_zero n e = grind (arith, nat_tests)

-- a filled page more is a page more at least
pub page_count-more : (freepage k : ℕ) → page_count freepage k + 1 ≤ page_count freepage (k + 1)
page_count-more freepage k = go (freepage == 0) refl
  where
    go : (b : Bool) → (freepage == 0) ≡ b
        → (if b then k else k + k / freepage) + 1
        ≤ (if b then k + 1 else (k + 1) + (k + 1) / freepage)
    go true e = omega arith
    go false e =
        let d : k / freepage ≤ (k + 1) / freepage =
        le-div (k / freepage) (k + 1) freepage (above_zero freepage e)
        (omega (arith, div-mul-le_self k freepage)) in
        omega (arith, d)
