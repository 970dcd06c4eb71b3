-- Sets of keys, by numbers.
use Rattle.std.specs.Prelude.{◌≡◌, ◌≤◌, ◌<◌, ◌==◌, ◌&&◌, ◌||◌, ℕ, Bool, true, false, not}
use Rattle.std.specs.Prelude.{Option, Some, None}
use Rattle.std.specs.Ordering.{nat_cmp}
use Rattle.std.specs.FinMap as map

-- a set of keys
abbrev pub Set : Type 0
Set = map.FinMap nat_cmp (Unit {0})

-- a set for each number
abbrev pub Sets : Type 0
Sets = map.FinMap nat_cmp Set

-- there is a set, and it has the key
abbrev pub has_key : Option Set → ℕ → Bool
has_key None key = false
has_key (Some set) key = map.contains_key set key

-- the set of this number has the key
abbrev pub is_key_in : Sets → (number key : ℕ) → Bool
is_key_in sets number key = has_key (map.get sets number) key

-- this key and this number are the other ones
abbrev pub is_this : (number key n q : ℕ) → Bool
is_this number key n q = (number == n) && (key == q)

-- the key is in the set of the number, and the rest is as before
abbrev pub IsPutIn : Sets → Sets → (number key : ℕ) → Type 0
IsPutIn old new number key =
    (n q : ℕ) → is_key_in new n q ≡ (is_this number key n q || is_key_in old n q)

-- the key is not in the set of the number, and the rest is as before
abbrev pub IsTakenOut : Sets → Sets → (number key : ℕ) → Type 0
IsTakenOut old new number key =
    (n q : ℕ) → is_key_in new n q ≡ (not (is_this number key n q) && is_key_in old n q)

-- the least key of the set of this number from a key on, or none
abbrev pub IsFirstIn : Sets → (number from : ℕ) → Option ℕ → Type 0
IsFirstIn sets number from None = (q : ℕ) → from ≤ q → is_key_in sets number q ≡ false
IsFirstIn sets number from (Some key) =
    (from ≤ key) × (is_key_in sets number key ≡ true)
    × ((q : ℕ) → from ≤ q → q < key → is_key_in sets number q ≡ false)
