-- The keys in the lists of sessions.
use Rattle.std.specs.Prelude.{◌≡◌, ◌==◌, ◌&&◌, ℕ, zero, suc, Bool, true, not, List, [], ◌∷◌, ◌++◌}
use Rattle.std.specs.Prelude.{if◌then◌else◌, vec_len}
use Rattle.std.specs.List.{list_any}
use Rattle.std.specs.declared.alloc.Global.{Global}
use Rattle.std.specs.declared.vec.Vec.{Vec}
use Rattle.std.specs.FinMap as map
use Rattle.rg_base.specs.declared.session.Session.{Session}
use Rattle.rg_model.specs.Held.{is_others}
use Rattle.rg_model.specs.State.{Locks}

-- the keys in the list with this number
abbrev pub keys_in : List (Vec ℕ Global) → ℕ → List ℕ
keys_in [] number = []
keys_in (list ∷ lists) zero = list.items
keys_in (list ∷ lists) (suc number) = keys_in lists number

-- the list with this number has this key at its end, and the others are the same
abbrev pub IsAppended : List (Vec ℕ Global) → List (Vec ℕ Global) → ℕ → ℕ → Type 0
IsAppended shorter longer number key =
    (n : ℕ)
    → keys_in longer n ≡ (if n == number then keys_in shorter n ++ key ∷ [] else keys_in shorter n)

-- each list is the same
abbrev pub SameKeys : List (Vec ℕ Global) → List (Vec ℕ Global) → Type 0
SameKeys old new = (n : ℕ) → keys_in new n ≡ keys_in old n

-- the session's list has the key
abbrev pub is_listed : List (Vec ℕ Global) → Session → ℕ → Bool
is_listed lists session key = list_any (λ listed. listed == key) (keys_in lists session.0)

-- each session's list has exactly the keys that it has locked
abbrev pub IsExact : Locks → List (Vec ℕ Global) → Type 0
IsExact locks lists =
    (session : Session) (key : ℕ)
    → is_listed lists session key ≡ not (is_others session (map.get locks key))

-- no key stands twice
abbrev pub stands_once : List ℕ → Bool
stands_once [] = true
stands_once (key ∷ keys) = not (list_any (λ other. other == key) keys) && stands_once keys

abbrev pub AreOnce : List (Vec ℕ Global) → Type 0
AreOnce lists = (number : ℕ) → stands_once (keys_in lists number) ≡ true

-- There is a list for each number that a session can have. It has the keys that the session has
-- locked, each once.
pub record HasLists (locks : Locks) (lists : Vec (Vec ℕ Global) Global) : Type 0 where
  pub len : vec_len lists ≡ 256
  pub exact : IsExact locks lists.items
  pub once : AreOnce lists.items
