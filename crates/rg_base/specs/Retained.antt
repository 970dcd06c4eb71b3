-- What is left of a map by a test on its keys and values.
use Rattle.std.specs.Prelude.{ℕ, ◌≡◌, Bool, true, Option, Some, None}
use Rattle.std.specs.Borrow.{Bor}
use Rattle.std.specs.Fn.{Shared}
use Rattle.std.specs.Ordering.{nat_cmp}
use Rattle.std.specs.FinMap as map

-- each answer of the closure is that of the test
abbrev pub Tests :
    {F V : Type 0} → Shared F (ℕ × (Bor V × Unit {0})) Bool → F → (ℕ → V → Bool) → Type 0
Tests {F} {V} calls closure test =
    (key : ℕ) (value : Bor V) (answer : Bool) → calls.post closure (key, (value, tt)) answer
    → answer ≡ test key value.now

-- a key without a value has nothing to lose
abbrev pub passes : {V : Type 0} → (ℕ → V → Bool) → ℕ → Option V → Bool
passes test key None = true
passes test key (Some value) = test key value

-- the keys that pass
abbrev pub retain_entries :
    {V : Type 0} → (ℕ → V → Bool) → map.FinMap nat_cmp V → map.FinMap nat_cmp V
retain_entries test entries = map.retain_keys entries (λ key. passes test key (map.get entries key))
