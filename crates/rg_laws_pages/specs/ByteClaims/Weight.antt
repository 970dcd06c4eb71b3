-- The weight of home rows.
--
-- 1. A home row weighs its bytes and the 18 bytes of a slot, wherever it lies.
-- 2. Sums go over the places of pages, 225 to a page, and not over slots: a Free slot at the end of
--    a page that is dropped or padded changes no sum.
-- 3. The rows that a reorganization has still to bring over are measured so, against what their
--    pages claim.
use Rattle.std.specs.Prelude.{ℕ, ◌+◌, zero, suc, List, [], ◌∷◌, ◌++◌, Option, Some, None}
use Rattle.rg_base.specs.RowBytes.{row_size}
use Rattle.rg_base.specs.declared.place.Place.{Place}
use Rattle.rg_base.specs.declared.row.Row.{Row as TableRow}
use Rattle.rg_home.specs.Slot.{Slot}
use Rattle.rg_home.specs.Rows.{row_at}

-- the places of a page, m of them from slot i
abbrev pub places : ℕ → ℕ → ℕ → List Place
places n i zero = []
places n i (suc m) = record { page = n; slot = i } ∷ places n (i + 1) m

-- the places of k pages from page n
abbrev pub pages_from : ℕ → ℕ → List Place
pages_from n zero = []
pages_from n (suc k) = places n 0 225 ++ pages_from (n + 1) k

-- the sum of a number for each place
abbrev pub total : List Place → (Place → ℕ) → ℕ
total [] f = 0
total (p ∷ ps) f = f p + total ps f

-- of a row, if there is one
abbrev pub weight : Option TableRow → ℕ
weight None = 0
weight (Some row) = 18 + row_size row

-- of the rows whose homes are at these places
abbrev pub rows_weight : (Place → Slot) → List Place → ℕ
rows_weight at ps = total ps (λ p. weight (row_at at p))
