-- Stretches of a buffer, as one of them is replaced.
use Rattle.std.proofs.Common.{◌≡◌, ◌≤◌, ◌<◌, ℕ, zero, suc, ◌+◌, ◌-◌, List, [], ◌∷◌, ◌++◌, length}
use Rattle.std.proofs.Common.{take, drop, set, get_or, refl, sym, ap, subst, ◌∙◌, arith, Option}
use Rattle.std.proofs.Common.{Some, None}
use Rattle.std.proofs.lemmas.List.{append_assoc, take-append-drop, take-append-le, drop-append-le}
use Rattle.std.proofs.lemmas.List.{drop-drop, drop_at, take_at, length-take-le, length-drop}
use Rattle.std.proofs.lemmas.List.{take-take, drop-take, take_all, drop_all, append-nil}
use borrow.Rule.Slice.PartMut.{put_mid}
use Rattle.std.specs.List.{copy_within}
use Rattle.std.specs.declared.vec.Vec.{Vec}
use Rattle.std.specs.declared.alloc.Global.{Global}
use Rattle.rg_page.specs.Stretches.{stretches, total, filled_by, bytes_of, size_of, IsPut, IsBuffer}
use Rattle.rg_base.specs.declared.row.Row.{Row}
use Rattle.rg_base.proofs.RowBytes.{length-row_bytes}

pub length-stretches : (lengths bytes : List ℕ) → length (stretches lengths bytes) ≡ length lengths
length-stretches [] bytes = refl
length-stretches (n ∷ lengths) bytes = omega (arith, length-stretches lengths (drop n bytes))

pub take-stretches : (i : ℕ) (lengths bytes : List ℕ)
    → take i (stretches lengths bytes) ≡ stretches (take i lengths) bytes
take-stretches zero lengths bytes = refl
take-stretches (suc i) [] bytes = refl
take-stretches (suc i) (n ∷ lengths) bytes =
    ap (λ (xs : List (List ℕ)). take n bytes ∷ xs) (take-stretches i lengths (drop n bytes))

pub filled_by-stretches : (lengths bytes : List ℕ) → total lengths ≤ length bytes
    → filled_by (stretches lengths bytes) ≡ total lengths
filled_by-stretches [] bytes within = refl
filled_by-stretches (n ∷ lengths) bytes within =
    omega (
      arith,
      length-take-le n bytes (omega arith),
      filled_by-stretches lengths (drop n bytes) (omega (arith, length-drop n bytes)),
    )

pub stretches-push : (lengths bytes : List ℕ)
    → stretches (lengths ++ 0 ∷ []) bytes ≡ stretches lengths bytes ++ [] ∷ []
stretches-push [] bytes = refl
stretches-push (n ∷ lengths) bytes =
    ap (λ (xs : List (List ℕ)). take n bytes ∷ xs) (stretches-push lengths (drop n bytes))

pub total-push : (lengths : List ℕ) → total (lengths ++ 0 ∷ []) ≡ total lengths
total-push [] = refl
total-push (n ∷ lengths) = omega (arith, total-push lengths)

pub total-take : (i : ℕ) (lengths : List ℕ) → total (take i lengths) ≤ total lengths
total-take zero lengths = omega arith
total-take (suc i) [] = omega arith
total-take (suc i) (n ∷ lengths) = omega (arith, total-take i lengths)

pub total-more : (lengths : List ℕ) (i : ℕ) → i < length lengths
    → total (take (i + 1) lengths) ≡ total (take i lengths) + get_or lengths i 0
total-more [] i below = absurd (omega arith)
total-more (n ∷ lengths) zero below = omega arith
total-more (n ∷ lengths) (suc i) below =
    let e : suc i + 1 ≡ suc (i + 1) = omega arith in
    rw e (omega (arith, total-more lengths i (omega arith)))

-- the length at a place, those before it, and those behind
pub total-split : (lengths : List ℕ) (i : ℕ) → i < length lengths
    → total (take i lengths) + get_or lengths i 0 + total (drop (suc i) lengths) ≡ total lengths
total-split [] i below = absurd (omega arith)
total-split (n ∷ lengths) zero below = omega arith
total-split (n ∷ lengths) (suc i) below = omega (arith, total-split lengths i (omega arith))

pub total-set : (lengths : List ℕ) (i m : ℕ) → i < length lengths
    → total (set lengths i m) + get_or lengths i 0 ≡ total lengths + m
total-set [] i m below = absurd (omega arith)
total-set (n ∷ lengths) zero m below = omega arith
total-set (n ∷ lengths) (suc i) m below = omega (arith, total-set lengths i m (omega arith))

-- a stretch is its part of the buffer
pub stretch_at : (lengths bytes : List ℕ) (i : ℕ) → i < length lengths
    → get_or (stretches lengths bytes) i []
    ≡ take (get_or lengths i 0) (drop (total (take i lengths)) bytes)
stretch_at [] bytes i below = absurd (omega arith)
stretch_at (n ∷ lengths) bytes zero below = refl
stretch_at (n ∷ lengths) bytes (suc i) below =
    stretch_at lengths (drop n bytes) i (omega arith)
    ∙ ap (take (get_or lengths i 0)) (drop-drop (total (take i lengths)) n bytes)

-- stretches of equal bytes are equal
same : (lengths a b : List ℕ) → take (total lengths) a ≡ take (total lengths) b
    → stretches lengths a ≡ stretches lengths b
same [] a b e = refl
same (n ∷ lengths) a b e =
    let first : take n a ≡ take n b =
    sym (take-take n (n + total lengths) a (omega arith)) ∙ ap (take n) e
    ∙ take-take n (n + total lengths) b (omega arith) in
    let rest : take (total lengths) (drop n a) ≡ take (total lengths) (drop n b) =
    sym (drop-take n (total lengths) a) ∙ ap (drop n) e ∙ drop-take n (total lengths) b in
    ap (λ (xs : List ℕ). xs ∷ stretches lengths (drop n a)) first
    ∙ ap (λ (xs : List (List ℕ)). take n b ∷ xs) (same lengths (drop n a) (drop n b) rest)

-- one stretch is replaced
pub replaced_at : (lengths : List ℕ) (i m : ℕ) (front old piece back rest : List ℕ)
    → i < length lengths → length front ≡ total (take i lengths) → length old ≡ get_or lengths i 0
    → length piece ≡ m
    → take (total (drop (suc i) lengths)) rest ≡ take (total (drop (suc i) lengths)) back
    → stretches (set lengths i m) (front ++ (piece ++ rest))
    ≡ set (stretches lengths (front ++ (old ++ back))) i piece
replaced_at [] i m front old piece back rest below f o p e = absurd (omega arith)
replaced_at (n ∷ lengths) zero m (x ∷ front) old piece back rest below f o p e =
    absurd (omega arith)
replaced_at (n ∷ lengths) zero m [] old piece back rest below f o p e =
    let one : take m (piece ++ rest) ≡ piece = take_at piece rest m p in
    let two : drop m (piece ++ rest) ≡ rest = drop_at piece rest m p in
    let three : drop n (old ++ back) ≡ back = drop_at old back n o in
    rw (one, two, three) (ap (λ (xs : List (List ℕ)). piece ∷ xs) (same lengths rest back e))
replaced_at (n ∷ lengths) (suc i) m front old piece back rest below f o p e =
    let long : n ≤ length front = omega arith in
    let rec = replaced_at lengths i m (drop n front) old piece back rest (omega arith)
    (omega (arith, length-drop n front)) o p e in
    let one : take n (front ++ (piece ++ rest)) ≡ take n front = take-append-le n front _ long in
    let two : drop n (front ++ (piece ++ rest)) ≡ drop n front ++ (piece ++ rest) =
    drop-append-le n front _ long in
    let three : take n (front ++ (old ++ back)) ≡ take n front = take-append-le n front _ long in
    let four : drop n (front ++ (old ++ back)) ≡ drop n front ++ (old ++ back) =
    drop-append-le n front _ long in
    rw (one, two, three, four) (ap (λ (xs : List (List ℕ)). take n front ∷ xs) rec)

-- the whole buffer, where a row was put
pub replaced : (lengths before after : List ℕ) (i m : ℕ) (piece : List ℕ) → i < length lengths
    → total lengths ≤ length before → length piece ≡ m
    → IsPut before after (total (take i lengths)) (get_or lengths i 0)
    (total (drop (suc i) lengths)) piece
    → stretches (set lengths i m) after ≡ set (stretches lengths before) i piece
replaced lengths before after i m piece below within p put =
    let at : ℕ = total (take i lengths) in
    let n : ℕ = get_or lengths i 0 in
    let split = total-split lengths i below in
    let front : length (take at before) ≡ at = length-take-le at before (omega arith) in
    let long : n ≤ length (drop at before) = omega (arith, length-drop at before) in
    let old : length (take n (drop at before)) ≡ n = length-take-le n (drop at before) long in
    let whole : take at before ++ (take n (drop at before) ++ drop n (drop at before)) ≡ before =
    ap (λ (xs : List ℕ). take at before ++ xs) (take-append-drop n (drop at before))
    ∙ take-append-drop at before in
    let moved =
    put.moved ∙ ap (take (total (drop (suc i) lengths))) (sym (drop-drop n at before)) in
    ap (stretches (set lengths i m)) put.is
    ∙ replaced_at lengths i m (take at before) (take n (drop at before)) piece
    (drop n (drop at before)) put.rest below front old p moved
    ∙ ap (λ (xs : List ℕ). set (stretches lengths xs) i piece) whole

-- bytes behind the old ones are moved, and nothing is put
pub put_none : (before after : List ℕ) (at old filled : ℕ) → at + old ≤ filled
    → filled ≤ length before
    → after ≡ copy_within before (at + old) filled at → length after ≡ length before
    → IsPut before after at old (filled - (at + old)) []
put_none before after at old filled low high is long =
    let more : ℕ = filled - (at + old) in
    let middle : List ℕ = take more (drop (at + old) before) in
    let whole : length middle ≡ more =
    length-take-le more (drop (at + old) before) (omega (arith, length-drop (at + old) before)) in
    record {
      rest = middle ++ drop (at + more) before;
      is = is ∙ append_assoc (take at before) middle (drop (at + more) before);
      moved = take_at middle (drop (at + more) before) more whole;
      long = long;
    }

-- they are moved, and then a piece is put
pub put_some : (before between after piece : List ℕ) (at old size filled : ℕ) → at + old ≤ filled
    → filled ≤ length before → filled + size ≤ length before + old → length piece ≡ size
    → between ≡ copy_within before (at + old) filled (at + size) → length between ≡ length before
    → after ≡ take at between ++ (piece ++ drop size (drop at between))
    → length after ≡ length before
    → IsPut before after at old (filled - (at + old)) piece
put_some before between after piece at old size filled low high fits len is same_length put long =
    let more : ℕ = filled - (at + old) in
    let middle : List ℕ = take more (drop (at + old) before) in
    let last : List ℕ = drop ((at + size) + more) before in
    let whole : length middle ≡ more =
    length-take-le more (drop (at + old) before) (omega (arith, length-drop (at + old) before)) in
    let front : length (take (at + size) before) ≡ at + size =
    length-take-le (at + size) before (omega arith) in
    let shape : between ≡ take (at + size) before ++ (middle ++ last) =
    is ∙ append_assoc (take (at + size) before) middle last in
    let first : take at between ≡ take at before =
    ap (take at) shape ∙ take-append-le at (take (at + size) before) _ (omega (arith, front))
    ∙ take-take at (at + size) before (omega arith) in
    let rest : drop size (drop at between) ≡ middle ++ last =
    drop-drop size at between ∙ ap (drop (at + size)) shape
    ∙ drop_at (take (at + size) before) (middle ++ last) (at + size) front in
    record {
      rest = middle ++ last;
      is = put ∙ ap (λ (xs : List ℕ). xs ++ (piece ++ drop size (drop at between))) first
          ∙ ap (λ (xs : List ℕ). take at before ++ (piece ++ xs)) rest;
      moved = take_at middle last more whole;
      long = long;
    }

-- what the end of the buffer becomes where it is written from a place on
pub written_end : (between into piece : List ℕ) (at n size : ℕ) → at + n ≡ length between
    → into ≡ piece ++ drop size (take n (drop at between))
    → put_mid at n between into ≡ take at between ++ (piece ++ drop size (drop at between))
written_end between into piece at n size e is =
    let whole : take n (drop at between) ≡ drop at between =
    take_all n (drop at between) (omega (arith, length-drop at between)) in
    let none : drop n (drop at between) ≡ [] =
    drop_all n (drop at between) (omega (arith, length-drop at between)) in
    ap (λ (xs : List ℕ). take at between ++ (into ++ xs)) none
    ∙ ap (λ (xs : List ℕ). take at between ++ xs)
    (append-nil into ∙ is ∙ ap (λ (xs : List ℕ). piece ++ drop size xs) whole)

-- what a buffer's fields say of the stretches seen

module _ (lengths : Vec ℕ Global) (bytes : List ℕ) (filled : ℕ) (areas : List (List ℕ))
    (is : IsBuffer lengths bytes filled) (seen : stretches lengths.items bytes ≡ areas) where
  pub seen_count : length areas ≡ length lengths.items
  seen_count =
      ap (λ (xs : List (List ℕ)). length xs) (sym seen) ∙ length-stretches lengths.items bytes

  pub seen_fits : (i : ℕ) → total (take i lengths.items) ≤ 4064
  seen_fits i = omega (arith, total-take i lengths.items, is.fills, is.within)

  pub seen_offset : (i : ℕ) → filled_by (take i areas) ≡ total (take i lengths.items)
  seen_offset i =
      ap (λ (xs : List (List ℕ)). filled_by (take i xs)) (sym seen)
      ∙ ap filled_by (take-stretches i lengths.items bytes)
      ∙ filled_by-stretches (take i lengths.items) bytes (omega (arith, seen_fits i, is.whole))

  pub seen_whole : filled_by areas ≡ filled
  seen_whole =
      ap filled_by (sym seen)
      ∙ filled_by-stretches lengths.items bytes (omega (arith, is.fills, is.within, is.whole))
      ∙ is.fills

  pub seen_at : (i : ℕ) → i < length areas
      → get_or areas i []
      ≡ take (get_or lengths.items i 0) (drop (total (take i lengths.items)) bytes)
  seen_at i below =
      ap (λ (xs : List (List ℕ)). get_or xs i []) (sym seen)
      ∙ stretch_at lengths.items bytes i (omega (arith, below, seen_count))

  pub seen_length : (i : ℕ) → i < length areas
      → length (get_or areas i []) ≡ get_or lengths.items i 0
  seen_length i below =
      let split = total-split lengths.items i (omega (arith, below, seen_count)) in
      ap (λ (xs : List ℕ). length xs) (seen_at i below)
      ∙ length-take-le (get_or lengths.items i 0) (drop (total (take i lengths.items)) bytes)
      (omega (
        arith,
        length-drop (total (take i lengths.items)) bytes,
        split,
        is.fills,
        is.within,
        is.whole,
      ))

  -- the stretch ends within what is filled
  pub seen_end : (i : ℕ) → i < length areas
      → total (take i lengths.items) + get_or lengths.items i 0 + total (drop (suc i) lengths.items)
      ≡ filled
  seen_end i below = total-split lengths.items i (omega (arith, below, seen_count)) ∙ is.fills

  -- a piece that was put where stretch i was
  pub seen_put : (i : ℕ) → i < length areas → (before after piece : List ℕ) (at n : ℕ)
      → before ≡ bytes
      → at ≡ filled_by (take i areas) → n ≡ get_or lengths.items i 0
      → IsPut before after at n (filled - (at + n)) piece
      → IsPut bytes after (total (take i lengths.items)) (get_or lengths.items i 0)
      (total (drop (suc i) lengths.items)) piece
  seen_put i below before after piece at n eb ea en put =
      let e_at : at ≡ total (take i lengths.items) = ea ∙ seen_offset i in
      let e_more : filled - (at + n) ≡ total (drop (suc i) lengths.items) =
      omega (arith, e_at, en, seen_end i below) in
      let one = subst (λ (b : List ℕ). IsPut b after at n (filled - (at + n)) piece) eb put in
      let two = subst (λ (m : ℕ). IsPut bytes after at n m piece) e_more one in
      let three =
      subst (λ (k : ℕ). IsPut bytes after k n (total (drop (suc i) lengths.items)) piece) e_at
      two in
      subst
      (λ (k : ℕ). IsPut bytes after (total (take i lengths.items)) k
      (total (drop (suc i) lengths.items)) piece) en three

-- a vector whose items were written over by as many
pub refilled : (v : Vec ℕ Global) (ws : List ℕ) → length ws ≡ v.len
    → take v.len (ws ++ drop (length ws) v.items) ≡ ws
refilled v ws e = take_at ws (drop (length ws) v.items) v.len e

pub length-bytes_of : (row : Option Row) → length (bytes_of row) ≡ size_of row
length-bytes_of None = refl
length-bytes_of (Some row) = length-row_bytes row

pub filled_by-push : (areas : List (List ℕ)) → filled_by (areas ++ [] ∷ []) ≡ filled_by areas
filled_by-push [] = refl
filled_by-push (bytes ∷ areas) = omega (arith, filled_by-push areas)

pub length-set_any : (areas : List (List ℕ)) (i : ℕ) (bytes : List ℕ)
    → length (set areas i bytes) ≡ length areas
length-set_any [] i bytes = refl
length-set_any (x ∷ areas) zero bytes = refl
length-set_any (x ∷ areas) (suc i) bytes = omega (arith, length-set_any areas i bytes)

pub set-end : (areas : List (List ℕ)) (i : ℕ) (bytes : List ℕ) → length areas ≡ i
    → set (areas ++ [] ∷ []) i bytes ≡ areas ++ bytes ∷ []
set-end [] zero bytes e = refl
set-end [] (suc i) bytes e = absurd (omega arith)
set-end (x ∷ areas) zero bytes e = absurd (omega arith)
set-end (x ∷ areas) (suc i) bytes e =
    ap (λ (xs : List (List ℕ)). x ∷ xs) (set-end areas i bytes (omega arith))

pub get_or-past : (areas : List (List ℕ)) (i : ℕ) → length areas ≤ i → get_or areas i [] ≡ []
get_or-past [] i past = refl
get_or-past (x ∷ areas) zero past = absurd (omega arith)
get_or-past (x ∷ areas) (suc i) past = get_or-past areas i (omega arith)
