-- Records that stand one after the other.
use Rattle.std.proofs.Common.{◌≡◌, ℕ, ◌+◌, ◌≤◌, ◌<◌, ◌^◌, List, [], ◌∷◌, ◌++◌, length, take, drop}
use Rattle.std.proofs.Common.{get_or, refl, sym, ◌∙◌, ap, arith}
use Rattle.std.specs.List.{flat_map}
use Rattle.std.proofs.lemmas.List.{take_at, drop_at, append_assoc, drop_more, take_more}
use Rattle.std.proofs.lemmas.List.{length-append, take-append-drop}
use Rattle.std.proofs.lemmas.List.Elements.{Contains-get_or}
use Rattle.byteorder.specs.Endian.{big_number}
use Rattle.rg_base.specs.Field.{field}
use Rattle.rg_base.proofs.Fields.{length-field}
use Rattle.rg_record.specs.declared.fault.RecordFault.{RecordFault}
use Rattle.rg_record.specs.declared.fault.RecordFault.TheVariants.{NotARecord, NoMemory}
use Rattle.rg_record.specs.declared.record.Record.{Record}
use Rattle.rg_record.specs.Spelling.{record_bytes, record_size}
use Rattle.rg_record.specs.Told.{IsNone}
use Rattle.rg_record.proofs.Again.{one_record}
use Rattle.rg_record.proofs.Rows.{number_front}
use Rattle.rg_record.proofs.Sizes.{length-record_bytes, record_size_limit}
use Rattle.rg_image.specs.Kept.{IsEntry}
use Rattle.rg_image.specs.Page.{spelt}
use Rattle.rg_log.specs.Read.{IsNoEntry, StandAt}

-- the parts of bytes at whose front a record stands
pub record Parts (entry : Record) (rest bytes : List ℕ) : Type 0 where
  pub number : big_number 2 bytes ≡ record_size entry
  pub long : 2 ≤ length bytes
  pub body : drop 2 bytes ≡ record_bytes entry ++ rest
  pub front : take (record_size entry) (drop 2 bytes) ≡ record_bytes entry
  pub back : drop (record_size entry) (drop 2 bytes) ≡ rest
  pub room : record_size entry ≤ length (drop 2 bytes)

pub parts : (entry : Record) (rest bytes : List ℕ) → IsEntry entry → bytes ≡ spelt entry ++ rest
    → Parts entry rest bytes
parts entry rest bytes is e =
    let n : ℕ = record_size entry in
    let whole : bytes ≡ field 2 n ++ (record_bytes entry ++ rest) =
    e ∙ append_assoc (field 2 n) (record_bytes entry) rest in
    let small : n ≤ 1729 = record_size_limit entry is.spelled is.fits in
    let d2 : drop 2 bytes ≡ record_bytes entry ++ rest =
    ap (drop 2) whole ∙ drop_at (field 2 n) (record_bytes entry ++ rest) 2 (length-field 2 n) in
    let len : length (record_bytes entry) ≡ n = length-record_bytes entry in
    record {
      number = number_front 2 n (record_bytes entry ++ rest) bytes (omega (arith, small)) whole;
      long = omega (
        arith,
        ap (λ (l : List ℕ). length l) whole,
        length-append (field 2 n) (record_bytes entry ++ rest),
        length-field 2 n,
      );
      body = d2;
      front = ap (take n) d2 ∙ take_at (record_bytes entry) rest n len;
      back = ap (drop n) d2 ∙ drop_at (record_bytes entry) rest n len;
      room = omega
          (arith, ap (λ (l : List ℕ). length l) d2, length-append (record_bytes entry) rest, len);
    }

-- one record stands at the front of bytes, and one rest behind it
pub entry_one : (a b : Record) (s t : List ℕ) → IsEntry a → IsEntry b → spelt a ++ s ≡ spelt b ++ t
    → (a ≡ b) × (s ≡ t)
entry_one a b s t is_a is_b e =
    let p = parts a s (spelt a ++ s) is_a refl in
    let q = parts b t (spelt a ++ s) is_b e in
    let size : record_size a ≡ record_size b = sym p.number ∙ q.number in
    let bytes : record_bytes a ≡ record_bytes b =
    sym p.front ∙ ap (λ (n : ℕ). take n (drop 2 (spelt a ++ s))) size ∙ q.front in (
      one_record a b is_a.fits is_b.fits bytes,
      sym p.back ∙ ap (λ (n : ℕ). drop n (drop 2 (spelt a ++ s))) size ∙ q.back,
    )

-- the number that was read
pub number_read : (bytes : List ℕ) (n : ℕ) → n < 2 ^ 16 → field 2 n ≡ take 2 (drop 0 bytes)
    → big_number 2 bytes ≡ n
number_read bytes n small e =
    number_front 2 n (drop 2 bytes) bytes small
    (sym (take-append-drop 2 bytes) ∙ ap (λ (l : List ℕ). l ++ drop 2 bytes) (sym e))

pub too_short : (bytes : List ℕ) → length bytes < 2 → IsNoEntry bytes NotARecord
too_short bytes short entry rest is e = let p = parts entry rest bytes is e in
    omega (arith, p.long, short)

pub no_room : (bytes body : List ℕ) (n : ℕ) → n < 2 ^ 16 → field 2 n ≡ take 2 (drop 0 bytes)
    → body ≡ drop 2 bytes → length body < n → IsNoEntry bytes NotARecord
no_room bytes body n small number is_body short entry rest is e =
    let p = parts entry rest bytes is e in
    let same : record_size entry ≡ n = sym p.number ∙ number_read bytes n small number in
    omega (arith, p.room, short, same, ap (λ (l : List ℕ). length l) is_body)

pub not_read : (bytes body front : List ℕ) (n : ℕ) (fault : RecordFault) → n < 2 ^ 16
    → field 2 n ≡ take 2 (drop 0 bytes) → body ≡ drop 2 bytes → front ≡ take n body
    → IsNone front fault → IsNoEntry bytes fault
not_read bytes body front n NoMemory small number is_body is_front none = tt
not_read bytes body front n NotARecord small number is_body is_front none = λ entry rest is e.
    let p = parts entry rest bytes is e in
    let same : record_size entry ≡ n = sym p.number ∙ number_read bytes n small number in
    let at : front ≡ record_bytes entry =
    is_front ∙ ap (take n) is_body ∙ ap (λ (k : ℕ). take k (drop 2 bytes)) (sym same) ∙ p.front in
    none entry is.fits is.spelled (sym at)

pub was_read : (bytes body front rest : List ℕ) (n : ℕ) (entry : Record)
    → field 2 n ≡ take 2 (drop 0 bytes) → body ≡ drop 2 bytes → front ≡ take n body
    → rest ≡ drop n body
    → length front ≡ n → record_bytes entry ≡ front → bytes ≡ spelt entry ++ rest
was_read bytes body front rest n entry number is_body is_front is_rest len spelled =
    let size : record_size entry ≡ n =
    sym (length-record_bytes entry) ∙ ap (λ (l : List ℕ). length l) spelled ∙ len in
    let behind : front ++ rest ≡ body = ap (λ (l : List ℕ). l ++ rest) is_front
    ∙ ap (λ (l : List ℕ). take n body ++ l) is_rest ∙ take-append-drop n body in
    let head : field 2 (record_size entry) ≡ take 2 bytes = ap (field 2) size ∙ number in
    sym (append_assoc (field 2 (record_size entry)) (record_bytes entry) rest
    ∙ ap (λ (l : List ℕ). field 2 (record_size entry) ++ (l ++ rest)) spelled
    ∙ ap (λ (l : List ℕ). field 2 (record_size entry) ++ l) (behind ∙ is_body)
    ∙ ap (λ (l : List ℕ). l ++ drop 2 bytes) head ∙ take-append-drop 2 bytes)

-- one more record was read
pub one_more :
    (bytes rest after tail : List ℕ) (count k : ℕ) (items rs : List Record) (entry : Record)
    → IsEntry entry → k < count → StandAt bytes count rs tail
    → rest ≡ spelt entry ++ after
    → (items ≡ take k rs) × (rest ≡ flat_map spelt (drop k rs) ++ tail)
    → (items ++ entry ∷ [] ≡ take (k + 1) rs) × (after ≡ flat_map spelt (drop (k + 1) rs) ++ tail)
one_more bytes rest after tail count k items rs entry is lt stand read so_far =
    let in_rs : k < length rs = omega (arith, lt, stand.number) in
    let g : Record = get_or rs k entry in
    let here : drop k rs ≡ g ∷ drop (k + 1) rs = drop_more rs k entry in_rs in
    let others : List ℕ = flat_map spelt (drop (k + 1) rs) in
    let split : spelt entry ++ after ≡ spelt g ++ (others ++ tail) =
    sym read ∙ so_far.1 ∙ ap (λ (l : List Record). flat_map spelt l ++ tail) here
    ∙ append_assoc (spelt g) others tail in
    let one = entry_one entry g after (others ++ tail) is
    (stand.entries g (Contains-get_or rs k entry in_rs)) split in (
      ap (λ (l : List Record). l ++ entry ∷ []) so_far.0
          ∙ ap (λ (x : Record). take k rs ++ x ∷ []) one.0 ∙ sym (take_more rs k entry in_rs),
      one.1,
    )

-- where no record stands, so many do not
pub none_more : (bytes rest tail : List ℕ) (count k : ℕ) (items rs : List Record)
    (fault : RecordFault) (d : Record) → k < count → StandAt bytes count rs tail
    → fault ≡ NotARecord → IsNoEntry rest fault
    → (items ≡ take k rs) × (rest ≡ flat_map spelt (drop k rs) ++ tail) → ⊥
none_more bytes rest tail count k items rs NoMemory d lt stand not_memory none so_far = cc
none_more bytes rest tail count k items rs NotARecord d lt stand not_memory none so_far =
    let in_rs : k < length rs = omega (arith, lt, stand.number) in
    let g : Record = get_or rs k d in
    let here : drop k rs ≡ g ∷ drop (k + 1) rs = drop_more rs k d in_rs in
    let others : List ℕ = flat_map spelt (drop (k + 1) rs) in
    none g (others ++ tail) (stand.entries g (Contains-get_or rs k d in_rs))
    (so_far.1 ∙ ap (λ (l : List Record). flat_map spelt l ++ tail) here
    ∙ append_assoc (spelt g) others tail)
