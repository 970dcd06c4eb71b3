-- Numbers, as words.
use Rattle.std.proofs.Common.{ℕ, ◌≡◌, ◌≢◌, ◌<◌, ◌≤◌, ◌+◌, ◌*◌, ◌^◌, List, [], ◌∷◌, length, get_or}
use Rattle.std.proofs.Common.{drop, Option, Some, None, SomeIff, IfNone, IfSome, arith, ap, sym}
use Rattle.std.proofs.Common.{◌∙◌}
use Rattle.std.specs.Char.{digit_value}
use Rattle.std.specs.Fmt.{decimal}
use Rattle.std.specs.Str.Parse.{AllDigits, digits_value, digits_value_after}
use Rattle.std.proofs.lemmas.Str.Parse.{IsNumeralModel, numerals_by_value, tells_digits}
use Rattle.std.proofs.lemmas.Fmt.{digits_decimal, digits_value-decimal, decimal-digits_value}
use Rattle.std.proofs.lemmas.Fmt.{decimal_nonempty, length-decimal-le, first_decimal}
use Rattle.std.proofs.lemmas.List.{at_drop_more}
use Rattle.rg_base.specs.Number.{IsUnpadded}

own : IsNumeralModel (AllDigits 10) (digits_value 10)
own = numerals_by_value (AllDigits 10) tells_digits

-- further digits make a number no less
digits_value_after-le : (n : ℕ) (digits : List ℕ) → n ≤ digits_value_after 10 n digits
digits_value_after-le n [] = omega arith
digits_value_after-le n (d ∷ ds) = omega (arith, digits_value_after-le (n * 10 + digit_value d) ds)

-- what the digits so far and the next one stand for is no more than all of them
pub value_so_far : (value i : ℕ) (digits : List ℕ) → i < length digits
    → digits_value_after 10 value (drop i digits) ≡ digits_value 10 digits
    → value * 10 + digit_value (get_or digits i 0) ≤ digits_value 10 digits
value_so_far value i digits h e =
    let step = at_drop_more (digits_value_after 10 value) digits i 0 h in
    omega (
      arith,
      digits_value_after-le (value * 10 + digit_value (get_or digits i 0)) (drop (i + 1) digits),
    )

pub decimal_digits : (n : ℕ) → n < 2 ^ 64 → AllDigits 10 (decimal n)
decimal_digits n h = digits_decimal own n h

-- a number has a digit, and one of two digits or more does not begin with a zero
IsUnpadded-decimal : (n : ℕ) → n < 2 ^ 64 → IsUnpadded (decimal n)
IsUnpadded-decimal n h = (
  decimal_nonempty n h,
  λ zero. grind (arith, decimal_nonempty n, first_decimal n, length-decimal-le 1 n),
)

pub no_padded : (word : List ℕ) (n : ℕ) → (IsUnpadded word → ⊥) → n < 2 ^ 64 → word ≢ decimal n
no_padded word n not fits e = not (rw e (IsUnpadded-decimal n fits))

pub digits_none : (word : List ℕ) (r : Option ℕ) → IsUnpadded word
    → SomeIff r (AllDigits 10 word × (digits_value 10 word < 2 ^ 64)) (digits_value 10 word)
    → IfNone r ((n : ℕ) → n < 2 ^ 64 → word ≢ decimal n)
digits_none word None unpadded h =
    λ n fits e. h (rw e (digits_decimal own n fits), rw (e, digits_value-decimal own n fits) fits)
digits_none word (Some n) unpadded h = tt

pub digits_found : (word : List ℕ) (r : Option ℕ) → IsUnpadded word
    → SomeIff r (AllDigits 10 word × (digits_value 10 word < 2 ^ 64)) (digits_value 10 word)
    → IfSome r (λ n. (n < 2 ^ 64) × (word ≡ decimal n))
digits_found word None unpadded h = tt
digits_found word (Some n) unpadded h = (
  omega (arith, h.0.1, h.1),
  sym (decimal-digits_value own word h.0.0 unpadded.0 unpadded.1 h.0.1) ∙ ap decimal (sym h.1),
)

pub number_found : (word : List ℕ) (r : Option ℕ)
    → IfSome r (λ n. (n < 2 ^ 64) × (word ≡ decimal n)) → IfSome r (λ n. word ≡ decimal n)
number_found word None h = tt
number_found word (Some n) h = h.1
