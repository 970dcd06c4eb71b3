-- Which bytes are those of a row.
use Rattle.std.proofs.Common.{◌≡◌, ◌≤◌, ◌<◌, ◌^◌, ℕ, suc, zero, ◌+◌, ◌-◌, true, false}
use Rattle.std.proofs.Common.{eqb, leb, List, [], ◌∷◌, ◌++◌, length, take, drop, get_or, Some, None}
use Rattle.std.proofs.Common.{refl, sym, ap, subst, ◌∙◌, arith, length-append}
use Rattle.std.specs.Int.{w16, from_be_bytes}
use Rattle.std.specs.List.{list_all, AllByRecursion}
use Rattle.std.proofs.lemmas.List.{append_assoc, drop_at, length-drop, length-take-le, get_or-drop}
use Rattle.std.proofs.lemmas.Bool.{leb-true, eqb-true, le-leb, eq-eqb, ne_eqb, and_parts, and_from}
use Rattle.byteorder.specs.Endian.{big_number}
use Rattle.byteorder.specs.Numbers.{big_number-reads_back, big_from-take}
use Rattle.rg_base.specs.declared.row.Row.{Row}
use Rattle.rg_base.specs.declared.row_bytes.RowFault.{RowFault}
use Rattle.rg_base.specs.declared.row_bytes.RowFault.TheVariants.{Short, Length, Byte}
use Rattle.rg_base.specs.declared.row_bytes.RowFault.TheVariants as row_fault
use Rattle.rg_base.specs.Field.{field}
use Rattle.rg_base.specs.RowBytes.{row_bytes, row_of, HasLength, RowFaultIs}
use Rattle.rg_base.specs.Text.{IsLetter}
use Rattle.rg_base.proofs.Fields.{length-field, field_of_2, small_drop, small_take}
use Rattle.rg_base.proofs.RowBytes.{length-row_bytes, row_of-row_bytes}
use Rattle.rg_base.specs.Values.{FitsRow}
use Rattle.rg_record.specs.Reading.{is_letter, is_row, refusal, row_in, Refuses}
use Rattle.rg_record.specs.declared.fault.RecordFault.TheVariants.{NotARecord}

letters : (text : List ℕ) → AllByRecursion IsLetter text → list_all is_letter text ≡ true
letters [] all = refl
letters (b ∷ text) all =
    and_from (is_letter b) (list_all is_letter text)
    (and_from _ _ (le-leb 33 b all.0.0) (le-leb b 126 all.0.1)) (letters text all.1)

letter_in : (text : List ℕ) (i : ℕ) → i < length text → list_all is_letter text ≡ true
    → IsLetter (get_or text i 0)
letter_in [] i lt all = absurd (omega arith)
letter_in (b ∷ text) zero lt all =
    let one = and_parts (is_letter b) (list_all is_letter text) all in
    let ends = and_parts (leb 33 b) (leb b 126) one.0 in
    (leb-true 33 b ends.0, leb-true b 126 ends.1)
letter_in (b ∷ text) (suc i) lt all =
    letter_in text i (omega arith) (and_parts (is_letter b) (list_all is_letter text) all).1

-- the number that a field in front gives
pub number_front : (n x : ℕ) (rest bytes : List ℕ) → x < 256 ^ n → bytes ≡ field n x ++ rest
    → big_number n bytes ≡ x
unfolding field
number_front n x rest bytes fits e = ap (big_number n) e ∙ big_number-reads_back n x rest fits

-- a row's bytes are those of a row
pub is_row-row_bytes : (row : Row) → FitsRow row → is_row (row_bytes row) ≡ true
unfolding is_row
is_row-row_bytes row fits =
    let f1 : List ℕ = field 8 row.key in
    let f2 : List ℕ = field 8 row.clus in
    let f3 : List ℕ = field 8 row.cat in
    let f4 : List ℕ = field 2 (length row.text) in
    let all : List ℕ = row_bytes row in
    let len : length all ≡ 26 + length row.text = length-row_bytes row in
    let short : length row.text ≤ 800 = fits.text.short in
    let l3 : length ((f1 ++ f2) ++ f3) ≡ 24 =
    simp (length-append, length-field) refl in
    let l4 : length (((f1 ++ f2) ++ f3) ++ f4) ≡ 26 =
    simp (length-append, length-field) refl in
    let e24 : all ≡ ((f1 ++ f2) ++ f3) ++ (f4 ++ row.text) = simp append_assoc refl in
    let d24 : drop 24 all ≡ f4 ++ row.text =
    ap (drop 24) e24 ∙ drop_at ((f1 ++ f2) ++ f3) (f4 ++ row.text) 24 l3 in
    let e26 : all ≡ (((f1 ++ f2) ++ f3) ++ f4) ++ row.text = simp append_assoc refl in
    let d26 : drop 26 all ≡ row.text =
    ap (drop 26) e26 ∙ drop_at (((f1 ++ f2) ++ f3) ++ f4) row.text 26 l4 in
    let number : big_number 2 (drop 24 all) ≡ length all - 26 =
    number_front 2 (length row.text) row.text (drop 24 all) (omega (arith, short)) d24
    ∙ omega (arith, len) in
    let long : 26 ≤ length all = omega (arith, len) in
    let small : length all ≤ 826 = omega (arith, len, short) in
    let all_letters : list_all is_letter (drop 26 all) ≡ true =
    ap (list_all is_letter) d26 ∙ letters row.text fits.text.letters in
    and_from _ _ (le-leb 26 (length all) long)
    (and_from _ _ (le-leb (length all) 826 small) (and_from _ _ (eq-eqb _ _ number) all_letters))

-- a row that is read is the one that the bytes show
pub row_read : (row : Row) (bytes : List ℕ) → FitsRow row → row_bytes row ≡ bytes
    → row ≡ row_of bytes
    → (length bytes ≡ 0 → ⊥) → row_in bytes ≡ Some (Some row)
unfolding row_in
row_read row bytes fits spelled shown some =
    let is : is_row bytes ≡ true = ap is_row (sym spelled) ∙ is_row-row_bytes row fits in
    let not_empty : eqb (length bytes) 0 ≡ false = ne_eqb (length bytes) 0 some in
    rw (not_empty, is, ← shown) refl

-- a row in its bytes
pub row_again : (row : Row) → FitsRow row → row_in (row_bytes row) ≡ Some (Some row)
row_again row fits =
    row_read row (row_bytes row) fits refl (sym (row_of-row_bytes row fits.key fits.clus fits.cat))
    (λ none. omega (arith, none, length-row_bytes row))

-- the tests of `is_row`, one by one
record Tests (bytes : List ℕ) : Type 0 where
  long : 26 ≤ length bytes
  short : length bytes ≤ 826
  number : big_number 2 (drop 24 bytes) ≡ length bytes - 26
  all : list_all is_letter (drop 26 bytes) ≡ true

tests : (bytes : List ℕ) → is_row bytes ≡ true → Tests bytes
unfolding is_row
tests bytes is =
    let a = and_parts _ _ is in
    let b = and_parts _ _ a.1 in
    let c = and_parts _ _ b.1 in
    record {
      long = leb-true _ _ a.0;
      short = leb-true _ _ b.0;
      number = eqb-true _ _ c.0;
      all = c.1;
    }

field_back : (bytes : List ℕ) (n : ℕ) → length bytes ≡ 2 → ((i : ℕ) → get_or bytes i 0 < 256)
    → n ≡ big_number 2 bytes → field 2 n ≡ bytes
field_back bytes n two small e =
    let same : big_number 2 bytes ≡ from_be_bytes w16 bytes = omega arith in
    field_of_2 bytes n two small (e ∙ same)

has_length : (bytes : List ℕ) → ((i : ℕ) → get_or bytes i 0 < 256) → Tests bytes → HasLength bytes
has_length bytes small t = record {
  whole =
      let two : length (take 2 (drop 24 bytes)) ≡ 2 =
      length-take-le 2 (drop 24 bytes) (omega (arith, length-drop 24 bytes, t.long)) in
      let front : big_number 2 (take 2 (drop 24 bytes)) ≡ big_number 2 (drop 24 bytes) =
      big_from-take 0 2 2 (drop 24 bytes) (omega arith) in
      sym (field_back (take 2 (drop 24 bytes)) (length bytes - 26) two
      (small_take 2 (drop 24 bytes) (small_drop 24 bytes small)) (sym (front ∙ t.number)));
  short = t.short;
}

test_fails : (bytes : List ℕ) (fault : RowFault) → ((i : ℕ) → get_or bytes i 0 < 256)
    → RowFaultIs bytes fault → refusal fault ≡ NotARecord → Tests bytes → ⊥
test_fails bytes Short small why not_memory t = omega (arith, why, t.long)
test_fails bytes Length small why not_memory t = why.1 (has_length bytes small t)
test_fails bytes (Byte at) small why not_memory t =
    let first = why.2 in
    let low : 26 ≤ at = first.low in
    let high : at < length bytes = first.high in
    let e : 26 + (at - 26) ≡ at = omega (arith, low) in
    let letter : IsLetter (get_or (drop 26 bytes) (at - 26) 0) =
    letter_in (drop 26 bytes) (at - 26) (omega (arith, low, high, length-drop 26 bytes)) t.all in
    let At : ℕ → Type 0 = λ i. IsLetter (get_or bytes i 0) in
    first.other (subst At e (subst IsLetter (get_or-drop 26 bytes (at - 26) 0) letter))
test_fails bytes row_fault.NoMemory small why not_memory t = cc

none_read : (bytes : List ℕ) (fault : RowFault) → ((i : ℕ) → get_or bytes i 0 < 256)
    → RowFaultIs bytes fault → refusal fault ≡ NotARecord → (length bytes ≡ 0 → ⊥)
    → row_in bytes ≡ None
unfolding row_in
none_read bytes fault small why not_memory some =
    let not_empty : eqb (length bytes) 0 ≡ false = ne_eqb (length bytes) 0 some in
    let fails : is_row bytes ≡ false =
    elim (is_row bytes) as (λ b. is_row bytes ≡ b → is_row bytes ≡ false) [
      | true ↦ λ e. absurd (test_fails bytes fault small why not_memory (tests bytes e))
      | false ↦ λ e. e
    ] refl in
    rw (not_empty, fails) refl

-- bytes that are refused are no row's
pub row_refused : (bytes : List ℕ) (fault : RowFault) → ((i : ℕ) → get_or bytes i 0 < 256)
    → RowFaultIs bytes fault → (length bytes ≡ 0 → ⊥) → Refuses (refusal fault) (row_in bytes)
row_refused bytes Short small why some = none_read bytes Short small why refl some
row_refused bytes Length small why some = none_read bytes Length small why refl some
row_refused bytes (Byte at) small why some = none_read bytes (Byte at) small why refl some
row_refused bytes row_fault.NoMemory small why some = tt
