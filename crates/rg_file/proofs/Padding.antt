-- The bytes of a page, where a part of it stands past the end of the file.
use Rattle.std.proofs.Common.{◌≡◌, ◌<◌, ◌≤◌, ◌+◌, ◌-◌, ℕ, zero, suc, List, [], ◌++◌, Option, Some}
use Rattle.std.proofs.Common.{None, IfSome, length, take, drop, replicate, refl, sym, ap, ◌∙◌}
use Rattle.std.proofs.Common.{arith, append_assoc, append-nil, length-take-le}
use Rattle.std.proofs.lemmas.List.{take-replicate, length-drop}
use Rattle.std.proofs.Math.Seq.{take-append-add}
use Rattle.std.proofs.Math.ListN.{drop_of_length-le}
use Rattle.std.specs.Io.KnownBytes.{Consumes, IsAtEnd}
use Rattle.rg_file.specs.Pages.{padded}
use borrow.Rule.Slice.PartMut.{put_mid}

-- a write to the end of a slice
put_end : (a k : ℕ) (xs ys : List ℕ) → length xs ≤ a + k → put_mid a k xs ys ≡ take a xs ++ ys
put_end a k xs ys h =
    let none : drop k (drop a xs) ≡ [] =
    drop_of_length-le (drop a xs) {i = k} (omega (arith, length-drop a xs)) in
    ap (λ l. take a xs ++ (ys ++ l)) none ∙ ap (λ l. take a xs ++ l) (append-nil ys)

-- zeros follow where no byte is left
zeros_follow : (k len : ℕ) (ys : List ℕ) → (0 < k → ys ≡ []) → k ≤ len
    → take k (ys ++ replicate len 0) ≡ replicate k 0
zeros_follow zero len ys none within = refl
zeros_follow (suc k) len ys none within =
    ap (λ l. take (suc k) (l ++ replicate len 0)) (none (omega arith))
    ∙ take-replicate (suc k) len 0 within

pad : (n len : ℕ) (front ys : List ℕ) → length front ≡ n → n ≤ len → (n < len → ys ≡ [])
    → padded len (front ++ ys) ≡ front ++ replicate (len - n) 0
pad n len front ys is within none =
    let more = ys ++ replicate len 0 in
    let sum : len ≡ length front + (len - n) = omega (arith, is, within) in
    ap (take len) (append_assoc front ys (replicate len 0))
    ∙ ap (λ m. take m (front ++ more)) sum
    ∙ take-append-add front more (len - n)
    ∙ ap (λ l. front ++ l)
    (zeros_follow (len - n) len ys (λ some. none (omega (arith, some))) (omega arith))

pub pads_known : (old new : Option (List ℕ)) (n len : ℕ) (into zeros : List ℕ) → length into ≡ len
    → n ≤ len → Consumes old new (take n into) → (n < len → IsAtEnd new)
    → zeros ≡ replicate (length (take (length into - n) (drop n into))) 0
    → IfSome old (λ bytes. put_mid n (length into - n) into zeros ≡ padded len bytes)
pads_known None new n len into zeros is within taken end filled = tt
pads_known (Some xs) None n len into zeros is within taken end filled = absurd taken
pads_known (Some xs) (Some ys) n len into zeros is within taken end filled =
    let count : length (take (length into - n) (drop n into)) ≡ len - n =
    length-take-le (length into - n) (drop n into) (omega (arith, length-drop n into))
    ∙ ap (λ m. m - n) is in
    put_end n (length into - n) into zeros (omega arith)
    ∙ ap (λ l. take n into ++ l) (filled ∙ ap (λ m. replicate m 0) count)
    ∙
    sym (pad n len (take n into) ys (length-take-le n into (omega (arith, is, within))) within end)
    ∙ ap (padded len) (sym taken)
