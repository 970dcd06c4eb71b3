-- The name of a volume's file says its sizes.
use Rattle.std.proofs.Common.{ℕ, ◌≡◌, ◌<◌, ◌==◌, ◌&&◌, ◌^◌, Bool, true, false, if◌then◌else◌}
use Rattle.std.proofs.Common.{List, [], ◌∷◌, ◌++◌, drop, get_or, codes, refl, ap, arith}
use Rattle.std.specs.Fmt.{decimal}
use Rattle.std.specs.Str.Parse.{AllDigits}
use Rattle.std.proofs.lemmas.Str.Parse.{digit_from_value}
use Rattle.std.proofs.lemmas.Fmt.{decimal_injective}
use Rattle.std.proofs.lemmas.Bool.Decides.{nat_tests}
use Rattle.rg_base.proofs.Numerals.{decimal_digits}
use Rattle.rg_file.specs.Sizes.{is_standard, volume_name}
use Rattle.rg_file.specs.declared.sizes.Sizes.{Sizes}

-- digits end where a byte below them stands
digits_end : (mark : ℕ) → mark < 48 → (a b x y : List ℕ) → AllDigits 10 a → AllDigits 10 b
    → a ++ mark ∷ x ≡ b ++ mark ∷ y → (a ≡ b) × (x ≡ y)
digits_end mark low [] [] x y da db e = (refl, cc)
digits_end mark low [] (q ∷ qs) x y da db e =
    let same : mark ≡ q = cc in
    let digit = digit_from_value q db.0 in
    absurd (omega arith)
digits_end mark low (p ∷ ps) [] x y da db e =
    let same : p ≡ mark = cc in
    let digit = digit_from_value p da.0 in
    absurd (omega arith)
digits_end mark low (p ∷ ps) (q ∷ qs) x y da db e =
    let head : p ≡ q = cc in
    let rest = digits_end mark low ps qs x y da.1 db.1 cc in
    let tail = rest.0 in
    (cc, rest.1)

-- the name of a volume of other sizes than the standard ones
abbrev other_name : ℕ → ℕ → List ℕ
other_name log copy = codes "reorgdb-" ++ (decimal log ++ 45 ∷ (decimal copy ++ codes ".vol"))

others : (m n p q : ℕ) → m < 2 ^ 64 → n < 2 ^ 64 → p < 2 ^ 64 → q < 2 ^ 64
    → other_name m n ≡ other_name p q → (m ≡ p) × (n ≡ q)
others m n p q fm fn fp fq e =
    let one = digits_end 45 (omega arith) (decimal m) (decimal p) (decimal n ++ codes ".vol")
    (decimal q ++ codes ".vol") (decimal_digits m fm) (decimal_digits p fp)
    (ap (λ l. drop 8 l) e) in
    let two = digits_end 46 (omega arith) (decimal n) (decimal q) (codes "vol") (codes "vol")
    (decimal_digits n fn) (decimal_digits q fq) one.1 in
    (decimal_injective m p fm fp one.0, decimal_injective n q fn fq two.0)

abbrev named : Bool → ℕ → ℕ → List ℕ
named here log copy = if here then codes "reorgdb.vol" else other_name log copy

both : (a b : Bool) (m n p q : ℕ) → m < 2 ^ 64 → n < 2 ^ 64 → p < 2 ^ 64 → q < 2 ^ 64
    → ((m == 8192) && (n == 4096)) ≡ a → ((p == 8192) && (q == 4096)) ≡ b
    → named a m n ≡ named b p q → (m ≡ p) × (n ≡ q)
both true true m n p q fm fn fp fq ea eb e = (grind (arith, nat_tests), grind (arith, nat_tests))
both true false m n p q fm fn fp fq ea eb e =
    let dot : 46 ≡ 45 = ap (λ l. get_or l 7 0) e in
    absurd (omega (arith, dot))
both false true m n p q fm fn fp fq ea eb e =
    let dot : 45 ≡ 46 = ap (λ l. get_or l 7 0) e in
    absurd (omega (arith, dot))
both false false m n p q fm fn fp fq ea eb e = others m n p q fm fn fp fq e

pub one_name : (a b : Sizes) → volume_name a ≡ volume_name b → (a.log ≡ b.log) × (a.copy ≡ b.copy)
one_name a b e =
    let ra = a.in_range in
    let rb = b.in_range in
    both (is_standard a) (is_standard b) a.log a.copy b.log b.copy
    (omega (arith, ra.1)) (omega (arith, ra.3)) (omega (arith, rb.1)) (omega (arith, rb.3))
    refl refl e
