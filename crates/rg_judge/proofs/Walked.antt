-- What a walk over locks finds.
use Rattle.std.proofs.Common.{◌≡◌, ◌||◌, ℕ, Bool, true, false, cond, List, [], ◌∷◌, filter, refl}
use Rattle.std.specs.List.{list_any}
use Rattle.std.specs.Option.{is_some}
use Rattle.rg_base.specs.declared.lock.Lock.{Lock}
use Rattle.rg_model.specs.Held.{first_owner}

by_first : (b : Bool) (e : ℕ × Lock) (es : List (ℕ × Lock)) (rest : Bool)
    → is_some (first_owner es) ≡ rest → is_some (first_owner (cond b (e ∷ es) es)) ≡ (b || rest)
by_first true e es rest is = refl
by_first false e es rest is = is

-- there is a first one where one passes
pub any_filter : (p : ℕ × Lock → Bool) (es : List (ℕ × Lock))
    → is_some (first_owner (filter p es)) ≡ list_any p es
any_filter p [] = refl
any_filter p (e ∷ es) = by_first (p e) e (filter p es) (list_any p es) (any_filter p es)
