-- The bytes of a row, field by field.
use Rattle.std.proofs.Common.{◌≡◌, ◌≤◌, ◌<◌, ℕ, ◌+◌, ◌-◌, ◌^◌, zero, suc, List, [], ◌∷◌, ◌++◌}
use Rattle.std.proofs.Common.{length, take, drop, refl, sym, ap, subst, ◌∙◌, arith, length-append}
use Rattle.std.proofs.Common.{get_or}
use Rattle.std.proofs.lemmas.List.{append_assoc, take_at, take-append-drop, drop-drop, drop_at}
use Rattle.std.proofs.lemmas.List.{get_or-drop, get_or-take, length-drop, length-take-le}
use Rattle.std.specs.List.{AllByRecursion}
use Rattle.rg_base.specs.Text.{IsLetter, IsText}
use Rattle.rg_base.specs.declared.row.Row.{Row}
use Rattle.rg_base.specs.Field.{field}
use Rattle.byteorder.specs.Endian.{big_number}
use Rattle.byteorder.specs.Numbers.{big_number-reads_back}
use Rattle.rg_base.specs.RowBytes.{row_bytes, row_of, row_size, HasLength, IsFirstOther, RowFaultIs}
use Rattle.rg_base.specs.declared.row_bytes.RowFault.{RowFault}
use Rattle.rg_base.specs.declared.row_bytes.RowFault.TheVariants.{Short, Length, Byte, NoMemory}
use Rattle.rg_base.proofs.Fields.{length-field, field_one_2, put_next}

pub length-row_bytes : (row : Row) → length (row_bytes row) ≡ row_size row
length-row_bytes row =
    simp (length-append, length-field) (omega arith)

-- four fields and the text, each written where the one before it ends
pub row_written : (row : Row) (text base a b c d e : List ℕ) → text ≡ row.text
    → a ≡ take 0 base ++ (field 8 row.key ++ drop 8 base)
    → b ≡ take 8 a ++ (field 8 row.clus ++ drop 16 a)
    → c ≡ take 16 b ++ (field 8 row.cat ++ drop 24 b)
    → d ≡ take 24 c ++ (field 2 (length text) ++ drop 26 c)
    → e ≡ take 26 d ++ (text ++ drop (26 + length text) d)
    → e ≡ row_bytes row ++ drop (row_size row) base
row_written row text base a b c d e et ea eb ec ed ee =
    let f1 : List ℕ = field 8 row.key in
    let f2 : List ℕ = field 8 row.clus in
    let f3 : List ℕ = field 8 row.cat in
    let f4 : List ℕ = field 2 (length text) in
    let l1 : length f1 ≡ 8 = length-field 8 row.key in
    let l2 : length (f1 ++ f2) ≡ 16 =
    length-append f1 f2 ∙ omega (arith, l1, length-field 8 row.clus) in
    let l3 : length ((f1 ++ f2) ++ f3) ≡ 24 =
    length-append (f1 ++ f2) f3 ∙ omega (arith, l2, length-field 8 row.cat) in
    let l4 : length (((f1 ++ f2) ++ f3) ++ f4) ≡ 26 =
    length-append ((f1 ++ f2) ++ f3) f4 ∙ omega (arith, l3, length-field 2 (length text)) in
    let s2 : b ≡ (f1 ++ f2) ++ drop 16 base =
    put_next base a b f1 f2 8 8 l1 (length-field 8 row.clus) ea eb in
    let s3 : c ≡ ((f1 ++ f2) ++ f3) ++ drop 24 base =
    put_next base b c (f1 ++ f2) f3 16 8 l2 (length-field 8 row.cat) s2 ec in
    let s4 : d ≡ (((f1 ++ f2) ++ f3) ++ f4) ++ drop 26 base =
    put_next base c d ((f1 ++ f2) ++ f3) f4 24 2 l3 (length-field 2 (length text)) s3 ed in
    let s5 : e ≡ ((((f1 ++ f2) ++ f3) ++ f4) ++ text) ++ drop (26 + length text) base =
    put_next base d e (((f1 ++ f2) ++ f3) ++ f4) text 26 (length text) l4 refl s4 ee in
    s5 ∙ rw et (simp append_assoc refl)

-- bytes are their fields and what follows
pub row_read : (bytes : List ℕ) → 26 ≤ length bytes
    → take 8 bytes ++ (take 8 (drop 8 bytes) ++ (take 8 (drop 16 bytes)
    ++ (take 2 (drop 24 bytes) ++ drop 26 bytes))) ≡ bytes
row_read bytes long =
    let split : (n m : ℕ) → take m (drop n bytes) ++ drop (n + m) bytes ≡ drop n bytes =
    λ n m. ap (λ (xs : List ℕ). take m (drop n bytes) ++ xs) (sym (drop-drop m n bytes))
    ∙ take-append-drop m (drop n bytes) in
    rw (split 24 2, split 16 8, split 8 8) (take-append-drop 8 bytes)

-- the row whose fields these are
pub row_made : (row : Row) (bytes : List ℕ) → 26 ≤ length bytes → field 8 row.key ≡ take 8 bytes
    → field 8 row.clus ≡ take 8 (drop 8 bytes) → field 8 row.cat ≡ take 8 (drop 16 bytes)
    → field 2 (length row.text) ≡ take 2 (drop 24 bytes) → row.text ≡ drop 26 bytes
    → row_bytes row ≡ bytes
row_made row bytes long e1 e2 e3 e4 e5 = rw (e1, e2, e3, e4, e5) (row_read bytes long)

letter_at : (xs : List ℕ) (i : ℕ) → i < length xs → AllByRecursion IsLetter xs
    → IsLetter (get_or xs i 0)
letter_at [] i below all = absurd (omega arith)
letter_at (x ∷ xs) zero below all = all.0
letter_at (x ∷ xs) (suc i) below all = letter_at xs i (omega arith) all.1

-- the first other byte of the text, as one of all bytes
pub first_other : (bytes : List ℕ) (n : ℕ) → 26 ≤ length bytes → n < length (drop 26 bytes)
    → AllByRecursion IsLetter (take n (drop 26 bytes))
    → (IsLetter (get_or (drop 26 bytes) n 0) → ⊥) → IsFirstOther bytes (26 + n)
first_other bytes n long within letters other = record {
  low = omega arith;
  high = omega (arith, length-drop 26 bytes);
  other = λ is. other (subst IsLetter (sym (get_or-drop 26 bytes n 0)) is);
  first = λ k low high.
      let e : 26 + (k - 26) ≡ k = omega arith in
      let below : k - 26 < n = omega arith in
      let there : k - 26 < length (take n (drop 26 bytes)) =
      omega (arith, length-take-le n (drop 26 bytes) (omega arith)) in
      let is : IsLetter (get_or (take n (drop 26 bytes)) (k - 26) 0) =
      letter_at (take n (drop 26 bytes)) (k - 26) there letters in
      let At : ℕ → Type 0 = λ i. IsLetter (get_or bytes i 0) in
      subst At e
      (subst IsLetter
      (get_or-take n (drop 26 bytes) (k - 26) 0 below ∙ get_or-drop 26 bytes (k - 26) 0) is);
}

-- bytes whose length is another than the text's have no right length
pub other_length : (bytes text : List ℕ) (n : ℕ) → n < 2 ^ 16 → field 2 n ≡ take 2 (drop 24 bytes)
    → length text + 26 ≡ length bytes → (n ≡ length text → ⊥) → HasLength bytes → ⊥
other_length bytes text n fits e len other has =
    let short : length bytes ≤ 826 = has.short in
    let small : length bytes - 26 < 2 ^ 16 = omega arith in
    let same : n ≡ length bytes - 26 =
    field_one_2 n (length bytes - 26) fits small (e ∙ has.whole) in
    other (omega arith)

-- the number that a field starts with
number_of_field : (n x : ℕ) (rest : List ℕ) → x < 256 ^ n → big_number n (field n x ++ rest) ≡ x
unfolding field
number_of_field n x rest fits = big_number-reads_back n x rest fits

same_row : (a b : Row) → a.key ≡ b.key → a.clus ≡ b.clus → a.cat ≡ b.cat → a.text ≡ b.text → a ≡ b
same_row a b key clus cat text =
    λ i. record { key = key i; clus = clus i; cat = cat i; text = text i }

-- what follows each field

drop_8 : (row : Row)
    → drop 8 (row_bytes row)
    ≡ field 8 row.clus ++ (field 8 row.cat ++ (field 2 (length row.text) ++ row.text))
drop_8 row = drop_at (field 8 row.key) _ 8 (length-field 8 row.key)

drop_16 : (row : Row)
    → drop 16 (row_bytes row) ≡ field 8 row.cat ++ (field 2 (length row.text) ++ row.text)
drop_16 row =
    sym (drop-drop 8 8 (row_bytes row)) ∙ ap (drop 8) (drop_8 row)
    ∙ drop_at (field 8 row.clus) _ 8 (length-field 8 row.clus)

drop_24 : (row : Row) → drop 24 (row_bytes row) ≡ field 2 (length row.text) ++ row.text
drop_24 row =
    sym (drop-drop 8 16 (row_bytes row)) ∙ ap (drop 8) (drop_16 row)
    ∙ drop_at (field 8 row.cat) _ 8 (length-field 8 row.cat)

-- bytes that spell a row have its fields, and the length of its text
pub spelled_parts : (bytes : List ℕ) → row_bytes (row_of bytes) ≡ bytes
    → (26 ≤ length bytes) × (field 2 (length (drop 26 bytes)) ≡ take 2 (drop 24 bytes))
unfolding row_of
spelled_parts bytes spelled =
    let text : List ℕ = drop 26 bytes in
    let head : take 2 (drop 24 bytes) ≡ field 2 (length text) =
    ap (λ (xs : List ℕ). take 2 (drop 24 xs)) (sym spelled) ∙ ap (take 2) (drop_24 (row_of bytes))
    ∙ take_at (field 2 (length text)) text 2 (length-field 2 (length text)) in (
      omega (arith, ap (λ (xs : List ℕ). length xs) spelled, length-row_bytes (row_of bytes)),
      sym head,
    )

pub spelled_text : (bytes : List ℕ) → IsText (row_of bytes).text → IsText (drop 26 bytes)
unfolding row_of
spelled_text bytes text = text

drop_26 : (row : Row) → drop 26 (row_bytes row) ≡ row.text
drop_26 row =
    sym (drop-drop 2 24 (row_bytes row)) ∙ ap (drop 2) (drop_24 row)
    ∙ drop_at (field 2 (length row.text)) _ 2 (length-field 2 (length row.text))

-- a row whose numbers fit is the one that its bytes show
pub row_of-row_bytes : (row : Row) → row.key < 2 ^ 64 → row.clus < 2 ^ 64 → row.cat < 2 ^ 64
    → row_of (row_bytes row) ≡ row
unfolding row_of
row_of-row_bytes row key clus cat =
    same_row _ row
    (number_of_field 8 row.key _ key)
    (ap (big_number 8) (drop_8 row) ∙ number_of_field 8 row.clus _ clus)
    (ap (big_number 8) (drop_16 row) ∙ number_of_field 8 row.cat _ cat)
    (drop_26 row)

-- bytes that spell a row show it
pub row_shown : (row : Row) (bytes : List ℕ) → row.key < 2 ^ 64 → row.clus < 2 ^ 64
    → row.cat < 2 ^ 64
    → row_bytes row ≡ bytes → row ≡ row_of bytes
row_shown row bytes key clus cat e = sym (row_of-row_bytes row key clus cat) ∙ ap row_of e

-- bytes that spell a row have no fault

pub not_short : (row : Row) (bytes : List ℕ) → row_bytes row ≡ bytes → length bytes < 26 → ⊥
not_short row bytes e short =
    absurd (omega (arith, ap (λ (xs : List ℕ). length xs) e, length-row_bytes row))

pub has_length : (row : Row) (bytes : List ℕ) → row_bytes row ≡ bytes → IsText row.text
    → HasLength bytes
has_length row bytes e text =
    let f1 : List ℕ = field 8 row.key in
    let f2 : List ℕ = field 8 row.clus in
    let f3 : List ℕ = field 8 row.cat in
    let f4 : List ℕ = field 2 (length row.text) in
    let all : List ℕ = row_bytes row in
    let long : length bytes ≡ 26 + length row.text =
    ap (λ (xs : List ℕ). length xs) (sym e) ∙ length-row_bytes row in
    let d24 : drop 24 all ≡ f4 ++ row.text = drop_24 row in
    record {
      whole = ap (λ (xs : List ℕ). take 2 (drop 24 xs)) (sym e) ∙ ap (take 2) d24
          ∙ take_at f4 row.text 2 (length-field 2 (length row.text))
          ∙ ap (field 2) (omega (arith, long));
      short = omega (arith, long, text.short);
    }

pub no_other : (row : Row) (bytes : List ℕ) (at : ℕ) → row_bytes row ≡ bytes → IsText row.text
    → IsFirstOther bytes at → ⊥
no_other row bytes at e text first =
    let long : length bytes ≡ 26 + length row.text =
    ap (λ (xs : List ℕ). length xs) (sym e) ∙ length-row_bytes row in
    let n : ℕ = at - 26 in
    let at_is : 26 + n ≡ at = omega (arith, first.low) in
    let there : get_or bytes at 0 ≡ get_or row.text n 0 =
    ap (λ (xs : List ℕ). get_or xs at 0) (sym e) ∙ ap (λ k. get_or (row_bytes row) k 0) (sym at_is)
    ∙ sym (get_or-drop 26 (row_bytes row) n 0)
    ∙ ap (λ (xs : List ℕ). get_or xs n 0) (drop_26 row) in
    first.other
    (subst IsLetter (sym there)
    (letter_at row.text n (omega (arith, first.high, long)) text.letters))

-- only memory can be wanting there
abbrev pub IsMemory : RowFault → Type 0
IsMemory Short = ⊥
IsMemory Length = ⊥
IsMemory (Byte at) = ⊥
IsMemory NoMemory = Unit {0}

pub memory_only : (row : Row) (bytes : List ℕ) → row_bytes row ≡ bytes → IsText row.text
    → (fault : RowFault) → RowFaultIs bytes fault → IsMemory fault
memory_only row bytes e text Short is = not_short row bytes e is
memory_only row bytes e text Length is = is.1 (has_length row bytes e text)
memory_only row bytes e text (Byte at) is = no_other row bytes at e text is.2
memory_only row bytes e text NoMemory is = tt
