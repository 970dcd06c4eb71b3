-- Bytes that lack one byte, and where it stands first.
use Rattle.std.proofs.Common.{ℕ, ◌≡◌, ◌≢◌, List, [], ◌∷◌, ◌++◌, refl, sym}
use Rattle.rg_deck.specs.Reading.{Lacks}

-- the first place of a byte is one place
pub first_place : (mark : ℕ) (a b x y : List ℕ) → Lacks mark a → Lacks mark b
    → a ++ mark ∷ x ≡ b ++ mark ∷ y → (a ≡ b) × (x ≡ y)
first_place mark [] [] x y la lb e = (refl, cc)
first_place mark [] (q ∷ qs) x y la lb e = let same : mark ≡ q = cc in absurd (lb.0 (sym same))
first_place mark (p ∷ ps) [] x y la lb e = let same : p ≡ mark = cc in absurd (la.0 same)
first_place mark (p ∷ ps) (q ∷ qs) x y la lb e =
    let head : p ≡ q = cc in
    let rest = first_place mark ps qs x y la.1 lb.1 cc in
    let tail = rest.0 in
    (cc, rest.1)

-- what lacks a byte has no place of it
pub no_place : (mark : ℕ) (a b x : List ℕ) → Lacks mark a → a ≢ b ++ mark ∷ x
no_place mark [] [] x la e = cc
no_place mark [] (q ∷ qs) x la e = cc
no_place mark (p ∷ ps) [] x la e = let same : p ≡ mark = cc in la.0 same
no_place mark (p ∷ ps) (q ∷ qs) x la e = no_place mark ps qs x la.1 cc

pub Lacks-append : (mark : ℕ) (a b : List ℕ) → Lacks mark a → Lacks mark b → Lacks mark (a ++ b)
Lacks-append mark [] b la lb = lb
Lacks-append mark (p ∷ ps) b la lb = (la.0, Lacks-append mark ps b la.1 lb)
