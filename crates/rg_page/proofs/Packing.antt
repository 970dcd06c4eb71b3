-- Rows that are packed on one page, one more at a time.
use Rattle.std.proofs.Common.{◌≡◌, ◌≤◌, ◌<◌, ◌+◌, ◌-◌, ℕ, zero, suc, None, List, [], ◌∷◌, ◌++◌}
use Rattle.std.proofs.Common.{length, map, take, drop, get_or, refl, ap, ◌∙◌, arith, length-append}
use Rattle.std.proofs.lemmas.List.{take_at, take-append-le, take-append-drop, drop-append-le}
use Rattle.std.proofs.lemmas.List.{length-drop, length-take-le, map_more}
use borrow.Rule.Slice.PartMut.{put_mid}
use Rattle.rg_base.specs.RowBytes.{row_bytes, row_size}
use Rattle.rg_base.specs.declared.place.Place.{Place}
use Rattle.rg_base.specs.declared.row.Row.{Row as TableRow}
use Rattle.rg_base.proofs.RowBytes.{length-row_bytes}
use Rattle.rg_home.specs.Pages.{row_or_empty}
use Rattle.rg_home.specs.Slot.{Slot}
use Rattle.rg_home.specs.Slot.{Row}
use Rattle.rg_home.specs.Slots.{used, trim}
use Rattle.rg_page.specs.Bare.{bare}
use Rattle.rg_page.specs.Laid.{laid, AreAreas}
use Rattle.rg_page.specs.Packed.{packed_slots, packed_bytes, AreShown}
use Rattle.rg_page.specs.Stretches.{stretches, total, filled_by}
use Rattle.rg_page.proofs.Buffer.{written_end}
use Rattle.rg_page.proofs.Making.{spelled}

-- one stretch more, behind those that are there
pub stretches-more : (lengths front piece rest back : List ℕ) (m : ℕ) → length front ≡ total lengths
    → length piece ≡ m
    → stretches (lengths ++ m ∷ []) (front ++ (piece ++ rest))
    ≡ stretches lengths (front ++ back) ++ piece ∷ []
stretches-more [] (x ∷ front) piece rest back m f p = absurd (omega arith)
stretches-more [] [] piece rest back m f p = ap (λ (xs : List ℕ). xs ∷ []) (take_at piece rest m p)
stretches-more (n ∷ lengths) front piece rest back m f p =
    let long : n ≤ length front = omega arith in
    let one = take-append-le n front (piece ++ rest) long in
    let two = drop-append-le n front (piece ++ rest) long in
    let three = take-append-le n front back long in
    let four = drop-append-le n front back long in
    rw (one, two, three, four)
    (ap (λ (xs : List (List ℕ)). take n front ∷ xs)
    (stretches-more lengths (drop n front) piece rest back m (omega (arith, length-drop n front))
    p))

-- a piece that is written from a place on stands there, and the buffer is as long as before
pub put_last : (before into piece : List ℕ) (at : ℕ) → at ≤ length before
    → into ≡ piece ++ drop (length piece) (take (length before - at) (drop at before))
    → put_mid at (length before - at) before into
    ≡ take at before ++ (piece ++ drop (length piece) (drop at before))
put_last before into piece at low is =
    written_end before into piece at (length before - at) (length piece) (omega arith) is

pub length-put_last : (before piece : List ℕ) (at : ℕ) → at + length piece ≤ length before
    → length (take at before ++ (piece ++ drop (length piece) (drop at before))) ≡ length before
length-put_last before piece at within =
    omega (
      arith,
      length-append (take at before) (piece ++ drop (length piece) (drop at before)),
      length-append piece (drop (length piece) (drop at before)),
      length-take-le at before (omega arith),
      length-drop (length piece) (drop at before),
      length-drop at before,
    )

-- the stretches where one more was written behind the buffer's filled bytes
pub stretches-put : (lengths before piece : List ℕ) (at : ℕ) → total lengths ≡ at
    → at ≤ length before
    → stretches (lengths ++ length piece ∷ [])
    (take at before ++ (piece ++ drop (length piece) (drop at before)))
    ≡ stretches lengths before ++ piece ∷ []
stretches-put lengths before piece at fills low =
    stretches-more lengths (take at before) piece (drop (length piece) (drop at before))
    (drop at before) (length piece)
    (omega (arith, length-take-le at before low, fills)) refl
    ∙ ap (λ (xs : List ℕ). stretches lengths xs ++ piece ∷ []) (take-append-drop at before)

pub total-more_at_end : (lengths : List ℕ) (m : ℕ) → total (lengths ++ m ∷ []) ≡ total lengths + m
total-more_at_end [] m = omega arith
total-more_at_end (n ∷ lengths) m = omega (arith, total-more_at_end lengths m)

-- the header of one row more
pub headers-more : (rows : List (Place × TableRow)) (k : ℕ) (d : Place × TableRow) → k < length rows
    → map bare (packed_slots (take (k + 1) rows))
    ≡ map bare (packed_slots (take k rows))
    ++ Row (row_size (get_or rows k d).1) (row_or_empty None) ∷ []
headers-more [] k d below = absurd (omega arith)
headers-more (x ∷ rows) zero d below = refl
headers-more (x ∷ rows) (suc k) d below =
    let e : suc k + 1 ≡ suc (k + 1) = omega arith in
    rw e
    (ap (λ (slots : List Slot). Row (row_size x.1) (row_or_empty None) ∷ slots)
    (headers-more rows k d (omega arith)))

-- the bytes of one row more
pub bytes-more : (rows : List (Place × TableRow)) (k : ℕ) (d : Place × TableRow) → k < length rows
    → packed_bytes (take (k + 1) rows)
    ≡ packed_bytes (take k rows) ++ row_bytes (get_or rows k d).1 ∷ []
bytes-more rows k d below =
    map_more (λ (homed : Place × TableRow). row_bytes homed.1) rows k d below

-- the next row finds room behind those before it
pub bytes-fit : (rows : List (Place × TableRow)) (k : ℕ) (d : Place × TableRow) → k < length rows
    → filled_by (packed_bytes (take k rows)) + row_size (get_or rows k d).1
    ≤ used (packed_slots rows)
bytes-fit [] k d below = absurd (omega arith)
bytes-fit (x ∷ rows) zero d below = omega arith
bytes-fit (x ∷ rows) (suc k) d below =
    omega (arith, length-row_bytes x.1, bytes-fit rows k d (omega arith))

pub shown-more : (rows : List (Place × TableRow)) (k : ℕ) (d : Place × TableRow) → k < length rows
    → AreShown (take k rows) → AreShown (get_or rows k d ∷ []) → AreShown (take (k + 1) rows)
shown-more [] k d below front next = absurd (omega arith)
shown-more (x ∷ rows) zero d below front next = next
shown-more (x ∷ rows) (suc k) d below front next =
    let e : suc k + 1 ≡ suc (k + 1) = omega arith in
    rw e (front.0, shown-more rows k d (omega arith) front.1 next)

pub length-packed : (rows : List (Place × TableRow)) → length (packed_slots rows) ≡ length rows
length-packed [] = refl
length-packed (x ∷ rows) = ap suc (length-packed rows)

pub length-packed_bytes : (rows : List (Place × TableRow))
    → length (packed_bytes rows) ≡ length rows
length-packed_bytes [] = refl
length-packed_bytes (x ∷ rows) = ap suc (length-packed_bytes rows)

-- the headers and the bytes make up the slots

pub packed_areas : (rows : List (Place × TableRow)) → AreShown rows
    → AreAreas (map bare (packed_slots rows)) (packed_bytes rows)
packed_areas [] shown = refl
packed_areas (x ∷ rows) shown =
    (spelled (row_size x.1) x.1 (omega arith) shown.0, packed_areas rows shown.1)

pub packed_laid : (rows : List (Place × TableRow)) (others : List Place)
    → length others ≡ length rows → AreShown rows
    → laid (map bare (packed_slots rows)) others (packed_bytes rows) ≡ packed_slots rows
packed_laid [] others p shown = refl
packed_laid (x ∷ rows) [] p shown = absurd (omega arith)
packed_laid (x ∷ rows) (other ∷ others) p shown =
    ap
    (λ (r : TableRow). Row (row_size x.1) r
    ∷ laid (map bare (packed_slots rows)) others (packed_bytes rows)) shown.0.0
    ∙ ap (λ (slots : List Slot). Row (row_size x.1) x.1 ∷ slots)
    (packed_laid rows others (omega arith) shown.1)

pub packed_bare : (rows : List (Place × TableRow))
    → map bare (map bare (packed_slots rows)) ≡ map bare (packed_slots rows)
packed_bare [] = refl
packed_bare (x ∷ rows) =
    ap (λ (slots : List Slot). Row (row_size x.1) (row_or_empty None) ∷ slots) (packed_bare rows)

pub packed_trimmed : (rows : List (Place × TableRow))
    → trim (map bare (packed_slots rows)) ≡ map bare (packed_slots rows)
packed_trimmed [] = refl
packed_trimmed (x ∷ rows) =
    ap (λ (slots : List Slot). Row (row_size x.1) (row_or_empty None) ∷ slots) (packed_trimmed rows)
