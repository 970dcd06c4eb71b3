-- The test of each byte of a text.
use Rattle.std.proofs.Common.{◌≡◌, ◌==◌, ◌&&◌, ℕ, List, [], ◌∷◌, refl, ap}
use Rattle.std.specs.List.{list_all}
use Rattle.rg_base.specs.Words.{is_dashes}

pub is_dashes-list_all : (bytes : List ℕ) → is_dashes bytes ≡ list_all (λ b. b == 45) bytes
is_dashes-list_all [] = refl
is_dashes-list_all (b ∷ bs) = ap (λ rest. (b == 45) && rest) (is_dashes-list_all bs)
