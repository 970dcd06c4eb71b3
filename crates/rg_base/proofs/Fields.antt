-- The fields of a format.
use Rattle.std.proofs.Common.{◌≡◌, ◌<◌, ℕ, zero, suc, ◌+◌, ◌^◌, List, [], ◌∷◌, ◌++◌, length, take}
use Rattle.std.proofs.Common.{drop, get_or, sym, ap, ◌∙◌, arith}
use Rattle.std.proofs.lemmas.List.{append_assoc, take_at, get_or-drop}
use Rattle.std.proofs.lemmas.Slice.{drop-append-drop}
use Rattle.std.proofs.lemmas.Nat.{be_bytes_2, be_bytes_4, be_bytes_8, from_be_bytes-to_be_bytes_2}
use Rattle.std.proofs.lemmas.Nat.{from_be_bytes-to_be_bytes_4, from_be_bytes-to_be_bytes_8}
use Rattle.std.specs.Int.{w16, w32, w64, from_be_bytes}
use Rattle.byteorder.specs.Numbers.{length-bytes_high_first}
use Rattle.rg_base.specs.Field.{field}

pub length-field : (n x : ℕ) → length (field n x) ≡ n
unfolding field
length-field n x = length-bytes_high_first n x

-- bytes are the field of the number that they spell
pub field_of_2 : (bytes : List ℕ) (n : ℕ) → length bytes ≡ 2 → ((i : ℕ) → get_or bytes i 0 < 256)
    → n ≡ from_be_bytes w16 bytes → field 2 n ≡ bytes
unfolding field
field_of_2 bytes n len small e = be_bytes_2 bytes n len small e

pub field_of_4 : (bytes : List ℕ) (n : ℕ) → length bytes ≡ 4 → ((i : ℕ) → get_or bytes i 0 < 256)
    → n ≡ from_be_bytes w32 bytes → field 4 n ≡ bytes
unfolding field
field_of_4 bytes n len small e = be_bytes_4 bytes n len small e

pub field_of_8 : (bytes : List ℕ) (n : ℕ) → length bytes ≡ 8 → ((i : ℕ) → get_or bytes i 0 < 256)
    → n ≡ from_be_bytes w64 bytes → field 8 n ≡ bytes
unfolding field
field_of_8 bytes n len small e = be_bytes_8 bytes n len small e

-- equal fields are of equal numbers
pub field_one_2 : (m n : ℕ) → m < 2 ^ 16 → n < 2 ^ 16 → field 2 m ≡ field 2 n → m ≡ n
unfolding field
field_one_2 m n fits_m fits_n e =
    sym (from_be_bytes-to_be_bytes_2 m fits_m) ∙ ap (from_be_bytes w16) e
    ∙ from_be_bytes-to_be_bytes_2 n fits_n

pub field_one_4 : (m n : ℕ) → m < 2 ^ 32 → n < 2 ^ 32 → field 4 m ≡ field 4 n → m ≡ n
unfolding field
field_one_4 m n fits_m fits_n e =
    sym (from_be_bytes-to_be_bytes_4 m fits_m) ∙ ap (from_be_bytes w32) e
    ∙ from_be_bytes-to_be_bytes_4 n fits_n

pub field_one_8 : (m n : ℕ) → m < 2 ^ 64 → n < 2 ^ 64 → field 8 m ≡ field 8 n → m ≡ n
unfolding field
field_one_8 m n fits_m fits_n e =
    sym (from_be_bytes-to_be_bytes_8 m fits_m) ∙ ap (from_be_bytes w64) e
    ∙ from_be_bytes-to_be_bytes_8 n fits_n

-- a piece is written where the pieces before it end
pub put_next : (base now next front piece : List ℕ) (at n : ℕ) → length front ≡ at
    → length piece ≡ n
    → now ≡ front ++ drop at base → next ≡ take at now ++ (piece ++ drop (at + n) now)
    → next ≡ (front ++ piece) ++ drop (at + n) base
put_next base now next front piece at n len len_piece e_now e_next =
    let first : take at now ≡ front = ap (take at) e_now ∙ take_at front (drop at base) at len in
    let last : drop (at + n) now ≡ drop (at + n) base =
    ap (drop (at + n)) e_now ∙ drop-append-drop at base front (at + n) (omega arith) len in
    e_next ∙ ap (λ (xs : List ℕ). xs ++ (piece ++ drop (at + n) now)) first
    ∙ ap (λ (xs : List ℕ). front ++ (piece ++ xs)) last
    ∙ sym (append_assoc front piece (drop (at + n) base))

-- bytes are below 256; so are those of a part of them

pub small_drop : (n : ℕ) (xs : List ℕ) → ((i : ℕ) → get_or xs i 0 < 256) → (i : ℕ)
    → get_or (drop n xs) i 0 < 256
small_drop n xs small i = rw (get_or-drop n xs i 0) (small (n + i))

pub small_take : (n : ℕ) (xs : List ℕ) → ((i : ℕ) → get_or xs i 0 < 256) → (i : ℕ)
    → get_or (take n xs) i 0 < 256
small_take zero xs small i = omega arith
small_take (suc n) [] small i = omega arith
small_take (suc n) (x ∷ xs) small zero = small 0
small_take (suc n) (x ∷ xs) small (suc i) = small_take n xs (λ k. small (suc k)) i
