-- Numbers and texts, as words.
use Rattle.std.proofs.Common.{ℕ, ◌≡◌, ◌≢◌, ◌<◌, ◌^◌, true, List, [], ◌∷◌, ◌++◌}
use Rattle.std.proofs.Common.{length, drop, Option, Some, None, arith, sym, ◌∙◌}
use Rattle.std.proofs.Common.{IfNone, IfSome}
use Rattle.std.specs.Fmt.{decimal}
use Rattle.std.specs.Str.Parse.{AllDigits}
use Rattle.std.proofs.lemmas.Str.Parse.{digit_from_value}
use Rattle.std.proofs.lemmas.Fmt.{decimal_injective}
use Rattle.std.proofs.lemmas.Bool.Decides.{nat_tests}
use Rattle.rg_base.proofs.Numerals.{decimal_digits}
use Rattle.rg_base.specs.Words.{is_dashes, text_word}
use Rattle.rg_deck.specs.Reading.{Lacks, Finds, BeginsWithNumber, IsRange}
use Rattle.rg_deck.proofs.Bytes.{first_place, no_place}

Lacks-digits : (mark : ℕ) → mark < 48 → (digits : List ℕ) → AllDigits 10 digits → Lacks mark digits
Lacks-digits mark low [] h = tt
Lacks-digits mark low (d ∷ ds) h = let r = digit_from_value d h.0 in
    ((λ e. omega arith), Lacks-digits mark low ds h.1)

pub Lacks-decimal : (mark n : ℕ) → mark < 48 → n < 2 ^ 64 → Lacks mark (decimal n)
Lacks-decimal mark n low h = Lacks-digits mark low (decimal n) (decimal_digits n h)

pub finds_number : (word : List ℕ) (r : Option ℕ)
    → IfNone r ((n : ℕ) → n < 2 ^ 64 → word ≢ decimal n)
    → IfSome r (λ n. (n < 2 ^ 64) × (word ≡ decimal n)) → Finds (λ n. n < 2 ^ 64) decimal word r
finds_number word None none found = none
finds_number word (Some n) none found = found

-- what begins with a number and a space begins with no other
number_begins : (bytes rest other : List ℕ) (m n : ℕ) → BeginsWithNumber bytes m rest
    → BeginsWithNumber bytes n other → (m ≡ n) × (rest ≡ other)
number_begins bytes rest other m n a b =
    let parts = first_place 32 (decimal m) (decimal n) rest other
    (Lacks-decimal 32 m (omega arith) a.0) (Lacks-decimal 32 n (omega arith) b.0) (sym a.1 ∙ b.1) in
    (decimal_injective m n a.0 b.0 parts.0, parts.1)

pub number_once : (bytes rest other : List ℕ) (m n : ℕ) → BeginsWithNumber bytes m rest → n < 2 ^ 64
    → bytes ≡ decimal n ++ 32 ∷ other → (m ≡ n) × (rest ≡ other)
number_once bytes rest other m n a fits e = number_begins bytes rest other m n a (fits, e)

pub no_number_lacks : (bytes rest : List ℕ) (n : ℕ) → Lacks 32 bytes → BeginsWithNumber bytes n rest
    → ⊥
no_number_lacks bytes rest n lacks b = no_place 32 bytes (decimal n) rest lacks b.1

pub no_number_word : (bytes word after : List ℕ) → Lacks 32 word → bytes ≡ word ++ 32 ∷ after
    → ((n : ℕ) → n < 2 ^ 64 → word ≢ decimal n) → (n : ℕ) (rest : List ℕ)
    → BeginsWithNumber bytes n rest → ⊥
no_number_word bytes word after lacks e none n rest b =
    none n b.0
    (first_place 32 word (decimal n) after rest lacks (Lacks-decimal 32 n (omega arith) b.0)
    (sym e ∙ b.1)).0

pub no_range : (bytes rest : List ℕ) (lo : ℕ) → BeginsWithNumber bytes lo rest
    → ((n : ℕ) → n < 2 ^ 64 → rest ≢ decimal n) → (other hi : ℕ) → IsRange bytes other hi → ⊥
no_range bytes rest lo a none other hi is =
    let one = number_once bytes rest (decimal hi) lo other a is.0 is.2 in
    none hi is.1 one.1

-- the word of a text that is all `-` has one more
pub dashes_but_one : (word : List ℕ) → is_dashes word ≡ true → 0 < length word
    → word ≡ text_word (drop 1 word)
dashes_but_one [] h some = absurd (omega arith)
dashes_but_one (b ∷ bs) h some = grind (arith, nat_tests)
