-- A tree is not high.
use Rattle.std.proofs.Common.{◌≡◌, ◌+◌, ◌-◌, ◌<◌, ◌≤◌, zero, suc, ℕ, List, [], ◌∷◌, length}
use Rattle.std.proofs.Common.{length-append, refl, subst, inl, inr, arith}
use Rattle.std.proofs.lemmas.Bool.{cases_lt}
use Rattle.rg_bulk.specs.Branch.{Branch, joined}
use Rattle.std.specs.List.{AllByRecursion}
use Rattle.rg_bulk.specs.Shape.{IsKid, least_entries}

abbrev nine_more : ℕ → ℕ
nine_more zero = 9
nine_more (suc d) = suc (nine_more d)

nine_more_is : (d : ℕ) → nine_more d ≡ d + 9
nine_more_is zero = refl
nine_more_is (suc d) = let rest = nine_more_is d in omega arith

many : (d : ℕ) → 18446744073709551616 ≤ least_entries (nine_more d)
many zero = omega arith
many (suc d) = let rest = many d in omega arith

pub height_small : (h n : ℕ) → least_entries h ≤ n → n < 18446744073709551616 → h < 9
height_small h n le lt =
    elim (cases_lt h 9) [
      | inl low ↦ low
      | inr high ↦
          let is : nine_more (h - 9) ≡ h = omega (arith, nine_more_is (h - 9)) in
          let much : 18446744073709551616 ≤ least_entries h =
          subst (λ k. 18446744073709551616 ≤ least_entries k) is (many (h - 9)) in
          absurd (omega arith)
    ]

pub level_low : (h : ℕ) (level : List Branch) (n : ℕ) → AllByRecursion (IsKid h) level
    → 0 < length level
    → length (joined level) ≡ n → n < 18446744073709551616 → h < 9
level_low h [] n each some is lt = absurd (omega arith)
level_low h (kid ∷ level) n each some is lt =
    let enough = each.0.entries in
    height_small h n (omega (arith, length-append kid.entries (joined level))) lt
