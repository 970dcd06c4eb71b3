-- The rows of the next page, and those after it.
use Rattle.std.proofs.Common.{◌≡◌, ℕ, zero, suc, ◌+◌, ◌-◌, ◌≤◌, ◌<◌, ◌==◌, Bool, true, false}
use Rattle.std.proofs.Common.{filter, nat_le, List, [], ◌∷◌, ◌++◌, if◌then◌else◌, length, take}
use Rattle.std.proofs.Common.{drop, refl, sym, ap, subst, ◌∙◌, arith}
use Rattle.std.proofs.Math.Seq.{take-add}
use Rattle.std.proofs.lemmas.Bool.Decides.{nat_tests}
use Rattle.std.proofs.lemmas.List.{drop-drop, drop_at, take_at, length-take-le}
use Rattle.rg_base.specs.declared.options.Options.{Options}
use Rattle.rg_base.specs.declared.place.Place.{Place}
use Rattle.rg_base.specs.declared.row.Row.{Row}
use Rattle.rg_model.specs.Packed.{area_of, free_part, home_spot, page_at, spots_from}
use Rattle.rg_stmt.specs.declared.layout.Spot.{Spot}
use Rattle.rg_reload.proofs.Lying.{Nothing, nothing_before, nothing_more, rises}
use Rattle.rg_reload.specs.Moved.{Moved, moved_to, moved_from, moved_on, more_taken, packed_rows}
use Rattle.rg_reload.specs.Moved.{page_taken, pages_filled, pairs_of, rows_in, moved_spots}

-- a page that is done takes no row
full_page : (a b : ℕ) → nat_le (a + (18 + b)) 0 ≡ false
full_page a b = grind (arith, nat_tests)

-- the further rows of the k-th filled page, and then those of the next ones
moved-more : (options : Options) (k slot free : ℕ) (rows : List (Place × Row))
    → moved_from options k slot free rows
    ≡ moved_on (page_at options.freepage k) slot (take (more_taken options free rows) rows)
    ++ moved_from options k 0 0 (drop (more_taken options free rows) rows)
moved-more options k slot free [] = refl
moved-more options k slot free (x ∷ rows) =
    go (nat_le (free_part options + area_of x.1) free)
    (moved-more options k (slot + 1) (free - area_of x.1) rows)
  where
    go : (b : Bool)
        → moved_from options k (slot + 1) (free - area_of x.1) rows
        ≡ moved_on (page_at options.freepage k) (slot + 1)
        (take (more_taken options (free - area_of x.1) rows) rows)
        ++ moved_from options k 0 0 (drop (more_taken options (free - area_of x.1) rows) rows)
        → (if b then moved_to (page_at options.freepage k) slot x
        ∷ moved_from options k (slot + 1) (free - area_of x.1) rows
        else moved_to (page_at options.freepage (k + 1)) 0 x
        ∷ moved_from options (k + 1) 1 (4064 - area_of x.1) rows)
        ≡ moved_on (page_at options.freepage k) slot
        (take (if b then suc (more_taken options (free - area_of x.1) rows) else 0) (x ∷ rows))
        ++ moved_from options k 0 0
        (drop (if b then suc (more_taken options (free - area_of x.1) rows) else 0) (x ∷ rows))
    go true e = ap (λ (m : List Moved). moved_to (page_at options.freepage k) slot x ∷ m) e
    go false e =
        sym (ap (λ (b : Bool). if b then moved_to (page_at options.freepage k) 0 x
        ∷ moved_from options k (0 + 1) (0 - area_of x.1) rows
        else moved_to (page_at options.freepage (k + 1)) 0 x
        ∷ moved_from options (k + 1) 1 (4064 - area_of x.1) rows)
        (full_page (free_part options) (26 + length x.1.text)))

-- the rows of the next page, and then those of the pages after it
moved-page : (options : Options) (k : ℕ) (rows : List (Place × Row)) → 0 < length rows
    → moved_from options k 0 0 rows
    ≡ moved_on (page_at options.freepage (k + 1)) 0 (take (page_taken options rows) rows)
    ++ moved_from options (k + 1) 0 0 (drop (page_taken options rows) rows)
moved-page options k [] h = absurd (omega arith)
moved-page options k (x ∷ rows) h =
    ap (λ (b : Bool). if b then moved_to (page_at options.freepage k) 0 x
    ∷ moved_from options k (0 + 1) (0 - area_of x.1) rows
    else moved_to (page_at options.freepage (k + 1)) 0 x
    ∷ moved_from options (k + 1) 1 (4064 - area_of x.1) rows)
    (full_page (free_part options) (26 + length x.1.text))
    ∙ ap (λ (m : List Moved). moved_to (page_at options.freepage (k + 1)) 0 x ∷ m)
    (moved-more options (k + 1) 1 (4064 - area_of x.1) rows)

pub length-moved_on : (page slot : ℕ) (rows : List (Place × Row))
    → length (moved_on page slot rows) ≡ length rows
length-moved_on page slot [] = refl
length-moved_on page slot (x ∷ rows) = ap suc (length-moved_on page (slot + 1) rows)

pub length-moved_from : (options : Options) (k slot free : ℕ) (rows : List (Place × Row))
    → length (moved_from options k slot free rows) ≡ length rows
length-moved_from options k slot free [] = refl
length-moved_from options k slot free (x ∷ rows) =
    go (nat_le (free_part options + area_of x.1) free)
    (length-moved_from options k (slot + 1) (free - area_of x.1) rows)
    (length-moved_from options (k + 1) 1 (4064 - area_of x.1) rows)
  where
    go : (b : Bool)
        → length (moved_from options k (slot + 1) (free - area_of x.1) rows) ≡ length rows
        → length (moved_from options (k + 1) 1 (4064 - area_of x.1) rows) ≡ length rows
        → length (if b then moved_to (page_at options.freepage k) slot x
        ∷ moved_from options k (slot + 1) (free - area_of x.1) rows
        else moved_to (page_at options.freepage (k + 1)) 0 x
        ∷ moved_from options (k + 1) 1 (4064 - area_of x.1) rows) ≡ suc (length rows)
    go true e f = ap suc e
    go false e f = ap suc f

pub pairs_of-append : (a b : List Moved) → pairs_of (a ++ b) ≡ pairs_of a ++ pairs_of b
pairs_of-append [] b = refl
pairs_of-append (m ∷ a) b =
    ap (λ (p : List (Place × Place)). (m.source, m.target) ∷ p) (pairs_of-append a b)

length-pairs_of : (a : List Moved) → length (pairs_of a) ≡ length a
length-pairs_of [] = refl
length-pairs_of (m ∷ a) = ap suc (length-pairs_of a)

-- as many pairs as rows that are placed
pub length-placed : (options : Options) (rows : List (Place × Row)) (count : ℕ)
    → count ≤ length rows
    → length (pairs_of (take count (packed_rows options rows))) ≡ count
length-placed options rows count h =
    length-pairs_of (take count (packed_rows options rows))
    ∙ length-take-le count (packed_rows options rows)
    (omega (arith, length-moved_from options 0 0 0 rows))

more_taken-high : (options : Options) (free : ℕ) (rows : List (Place × Row))
    → more_taken options free rows ≤ length rows
more_taken-high options free [] = omega arith
more_taken-high options free (x ∷ rows) = go (nat_le (free_part options + area_of x.1) free)
    (more_taken-high options (free - area_of x.1) rows)
  where
    go : (b : Bool) → more_taken options (free - area_of x.1) rows ≤ length rows
        → (if b then suc (more_taken options (free - area_of x.1) rows) else 0) ≤ suc (length rows)
    go true h = omega arith
    go false h = omega arith

pub page_taken-high : (options : Options) (rows : List (Place × Row))
    → page_taken options rows ≤ length rows
page_taken-high options [] = omega arith
page_taken-high options (x ∷ rows) =
    omega (arith, more_taken-high options (4064 - area_of x.1) rows)

pub page_taken-low : (options : Options) (rows : List (Place × Row)) → 0 < length rows
    → 0 < page_taken options rows
page_taken-low options [] h = h
page_taken-low options (x ∷ rows) h = omega arith

-- Where the rest is packed from the next filled page on: the rows that it takes are the next ones,
-- and then the rest is packed from the page after it on.
pub record NextPage (options : Options) (packed : List Moved) (rows : List (Place × Row))
    (count filled : ℕ) : Type 0 where
  pub placed : take (count + page_taken options (drop count rows)) packed
      ≡ take count packed
      ++ moved_on (page_at options.freepage (filled + 1)) 0
      (take (page_taken options (drop count rows)) (drop count rows))
  pub left : drop (count + page_taken options (drop count rows)) packed
      ≡ moved_from options (filled + 1) 0 0
      (drop (count + page_taken options (drop count rows)) rows)

pub next_page_of : (options : Options) (packed : List Moved) (rows : List (Place × Row))
    (count filled : ℕ)
    → 0 < length (drop count rows)
    → drop count packed ≡ moved_from options filled 0 0 (drop count rows)
    → NextPage options packed rows count filled
next_page_of options packed rows count filled h e =
    let taken : ℕ = page_taken options (drop count rows) in
    let first : List Moved =
    moved_on (page_at options.freepage (filled + 1)) 0 (take taken (drop count rows)) in
    let rest : List Moved = moved_from options (filled + 1) 0 0 (drop taken (drop count rows)) in
    let split : drop count packed ≡ first ++ rest =
    e ∙ moved-page options filled (drop count rows) h in
    let long : length first ≡ taken =
    length-moved_on (page_at options.freepage (filled + 1)) 0 (take taken (drop count rows))
    ∙ length-take-le taken (drop count rows) (page_taken-high options (drop count rows)) in
    record {
      placed = take-add count taken packed
          ∙ ap (λ (m : List Moved). take count packed ++ m)
          (ap (take taken) split ∙ take_at first rest taken long);
      left =
          sym (drop-drop taken count packed) ∙ ap (drop taken) split ∙ drop_at first rest taken long
          ∙ ap (moved_from options (filled + 1) 0 0) (drop-drop taken count rows);
    }

-- the pages of further rows of a page

pages_filled-append : (a b : List Moved) → pages_filled (a ++ b) ≡ pages_filled a + pages_filled b
pages_filled-append [] b = omega arith
pages_filled-append (m ∷ a) b = go (m.target.slot == 0) (pages_filled-append a b)
  where
    go : (t : Bool) → pages_filled (a ++ b) ≡ pages_filled a + pages_filled b
        → length
        (if t then m ∷ filter (λ (x : Moved). x.target.slot == 0) (a ++ b)
        else filter (λ (x : Moved). x.target.slot == 0) (a ++ b))
        ≡ length
        (if t then m ∷ filter (λ (x : Moved). x.target.slot == 0) a
        else filter (λ (x : Moved). x.target.slot == 0) a) + pages_filled b
    go true e = omega (arith, e)
    go false e = e

not_zero : (n : ℕ) → 0 < n → (n == 0) ≡ false
not_zero n h = grind (arith, nat_tests)

no_more : (page slot : ℕ) (rows : List (Place × Row)) → 0 < slot
    → pages_filled (moved_on page slot rows) ≡ 0
no_more page slot [] h = refl
no_more page slot (x ∷ rows) h =
    ap (λ (t : Bool). length (if t then moved_to page slot x
    ∷ filter (λ (m : Moved). m.target.slot == 0) (moved_on page (slot + 1) rows)
    else filter (λ (m : Moved). m.target.slot == 0) (moved_on page (slot + 1) rows)))
    (not_zero slot h)
    ∙ no_more page (slot + 1) rows (omega arith)

-- a page of rows is one page
pub pages_filled-page : (a : List Moved) (page taken : ℕ) (rows : List (Place × Row)) → 0 < taken
    → 0 < length rows
    → pages_filled (a ++ moved_on page 0 (take taken rows)) ≡ pages_filled a + 1
pages_filled-page a page zero rows t h = absurd (omega arith)
pages_filled-page a page (suc taken) [] t h = absurd (omega arith)
pages_filled-page a page (suc taken) (x ∷ rows) t h =
    pages_filled-append a (moved_on page 0 (x ∷ take taken rows))
    ∙ omega (arith, no_more page 1 (take taken rows) (omega arith))

-- the spots are those of the packed rows
pub moved_spots-moved : (options : Options) (k slot free : ℕ) (rows : List (Place × Row))
    → moved_spots (moved_from options k slot free rows)
    ≡ spots_from options k slot free (rows_in rows)
moved_spots-moved options k slot free [] = refl
moved_spots-moved options k slot free (x ∷ rows) =
    go (nat_le (free_part options + area_of x.1) free)
    (moved_spots-moved options k (slot + 1) (free - area_of x.1) rows)
    (moved_spots-moved options (k + 1) 1 (4064 - area_of x.1) rows)
  where
    go : (b : Bool)
        → moved_spots (moved_from options k (slot + 1) (free - area_of x.1) rows)
        ≡ spots_from options k (slot + 1) (free - area_of x.1) (rows_in rows)
        → moved_spots (moved_from options (k + 1) 1 (4064 - area_of x.1) rows)
        ≡ spots_from options (k + 1) 1 (4064 - area_of x.1) (rows_in rows)
        → moved_spots (if b then moved_to (page_at options.freepage k) slot x
        ∷ moved_from options k (slot + 1) (free - area_of x.1) rows
        else moved_to (page_at options.freepage (k + 1)) 0 x
        ∷ moved_from options (k + 1) 1 (4064 - area_of x.1) rows)
        ≡ (if b then home_spot (page_at options.freepage k) slot x.1
        ∷ spots_from options k (slot + 1) (free - area_of x.1) (rows_in rows)
        else home_spot (page_at options.freepage (k + 1)) 0 x.1
        ∷ spots_from options (k + 1) 1 (4064 - area_of x.1) (rows_in rows))
    go true e f = ap (λ (s : List Spot). home_spot (page_at options.freepage k) slot x.1 ∷ s) e
    go false e f = ap (λ (s : List Spot). home_spot (page_at options.freepage (k + 1)) 0 x.1 ∷ s) f

pub first_spots : (rows : List Moved)
    → pages_filled rows ≡ length (filter (λ (spot : Spot). spot.place.slot == 0) (moved_spots rows))
first_spots [] = refl
first_spots (m ∷ rows) = go (m.target.slot == 0) (first_spots rows)
  where
    go : (t : Bool)
        → pages_filled rows
        ≡ length (filter (λ (spot : Spot). spot.place.slot == 0) (moved_spots rows))
        → length
        (if t then m ∷ filter (λ (x : Moved). x.target.slot == 0) rows
        else filter (λ (x : Moved). x.target.slot == 0) rows)
        ≡ length (if t then home_spot m.target.page m.target.slot m.row
        ∷ filter (λ (spot : Spot). spot.place.slot == 0) (moved_spots rows)
        else filter (λ (spot : Spot). spot.place.slot == 0) (moved_spots rows))
    go true e = ap suc e
    go false e = e

-- a closed page gets no more rows
pub closed : (options : Options) (k : ℕ) (rows : List (Place × Row))
    → Nothing (page_at options.freepage k) (moved_from options k 0 0 rows)
closed options k [] = record { slots = refl; rows_are = λ s. refl }
closed options k (x ∷ rows) =
    subst (λ (b : Bool). Nothing (page_at options.freepage k)
    (if b then moved_to (page_at options.freepage k) 0 x
    ∷ moved_from options k (0 + 1) (0 - area_of x.1) rows
    else moved_to (page_at options.freepage (k + 1)) 0 x
    ∷ moved_from options (k + 1) 1 (4064 - area_of x.1) rows))
    (sym (full_page (free_part options) (26 + length x.1.text)))
    (nothing_more (page_at options.freepage k) (page_at options.freepage (k + 1)) 0 x
    (moved_from options (k + 1) 1 (4064 - area_of x.1) rows)
    (λ q. omega (arith, q, rises options.freepage k))
    (nothing_before options (k + 1) 1 (4064 - area_of x.1) (page_at options.freepage k) rows
    (rises options.freepage k)))
