-- Where a list of entries is cut in two.
use Rattle.std.specs.Prelude.{ℕ, ◌≡◌, ◌≤◌, Bool, true, false, List, length, take, drop}
use Rattle.std.specs.List.{AllByRecursion}

-- the first n pass the test, and the rest fail it
abbrev pub IsCutBy : {X : Type 0} → (X → Bool) → List X → ℕ → Type 0
IsCutBy test xs n = (n ≤ length xs) × AllByRecursion (λ x. test x ≡ true) (take n xs)
    × AllByRecursion (λ x. test x ≡ false) (drop n xs)
