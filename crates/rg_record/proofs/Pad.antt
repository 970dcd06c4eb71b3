-- A page that is being filled.
use Rattle.std.proofs.Common.{◌≡◌, ℕ, ◌+◌, ◌-◌, ◌≤◌, List, ◌++◌, length, take, drop, replicate}
use Rattle.std.proofs.Common.{refl, sym, ◌∙◌, ap, arith}
use Rattle.std.proofs.lemmas.List.{drop_at, drop-replicate, length-take, length-append}
use Rattle.std.proofs.lemmas.List.{length-replicate, append_assoc}
use Rattle.std.proofs.lemmas.Slice.{take-put_mid}
use borrow.Rule.Slice.PartMut.{put_mid}
use Rattle.rg_record.specs.Filled.{padded}

-- a page has 4096 bytes
pub length-filled : (bytes : List ℕ) (used : ℕ) → used ≤ 4096 → bytes ≡ padded (take used bytes)
    → length bytes ≡ 4096
length-filled bytes used le is =
    let xs = take used bytes in
    omega (
      arith,
      ap (λ (l : List ℕ). length l) is,
      length-append xs (replicate (4096 - length xs) 0),
      length-replicate {A = ℕ} (4096 - length xs) 0,
      length-take used bytes,
    )

-- where a piece is put behind the bytes so far, zeros follow it
pub added : (bytes piece : List ℕ) (used k : ℕ) → k ≡ length piece → used + length piece ≤ 4096
    → bytes ≡ padded (take used bytes)
    → put_mid used k bytes piece ≡ padded (take (used + length piece) (put_mid used k bytes piece))
added bytes piece used k same le is =
    let xs = take used bytes in
    let long : length bytes ≡ 4096 = length-filled bytes used (omega (arith, le)) is in
    let len : length xs ≡ used = omega (arith, length-take used bytes, long, le) in
    let front : take (used + length piece) (put_mid used k bytes piece) ≡ xs ++ piece =
    take-put_mid used k bytes piece (used + length piece) refl (omega (arith, long, le)) in
    let rest : drop used bytes ≡ replicate (4096 - length xs) 0 =
    ap (drop used) is ∙ drop_at xs (replicate (4096 - length xs) 0) used len in
    let count : 4096 - length xs - k ≡ 4096 - length (xs ++ piece) =
    omega (arith, len, same, length-append xs piece, le) in
    let end : drop k (drop used bytes) ≡ replicate (4096 - length (xs ++ piece)) 0 =
    ap (drop k) rest ∙ drop-replicate k (4096 - length xs) 0
    ∙ ap (λ (n : ℕ). replicate n 0) count in
    ap (λ (l : List ℕ). xs ++ (piece ++ l)) end
    ∙ sym (append_assoc xs piece (replicate (4096 - length (xs ++ piece)) 0))
    ∙ ap padded (sym front)
