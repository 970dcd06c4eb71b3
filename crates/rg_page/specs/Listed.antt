-- What a list of pages keeps.
use Rattle.std.specs.Prelude.{◌≡◌, ◌≤◌, ◌<◌, ◌+◌, ◌-◌, ℕ, List, zero, suc, length, slice_index_or}
use Rattle.std.specs.Prelude.{slice_set, vec_capacity}
use Rattle.std.specs.declared.vec.Vec.{Vec}
use Rattle.std.specs.declared.alloc.Global.{Global}
use Rattle.std.proofs.Common.{arith}
use Rattle.rg_page.specs.Content.{Content, content_at, empty}

-- Pages have the numbers of their places and are of the copy. There is room for the reserved ones,
-- which are empty and have no number yet.
pub record IsList (copy : ℕ) (pages reserved : Vec Content Global) : Type 0 where
  pub few : length pages.items + length reserved.items ≤ 4294967295
  pub room : length pages.items + length reserved.items ≤ vec_capacity pages
  pub numbered : (k : ℕ) → k < length pages.items
      → (slice_index_or pages.items k (empty 0 0)).number ≡ k + 1
  pub of_copy : (k : ℕ) → k < length pages.items
      → (slice_index_or pages.items k (empty 0 0)).copy ≡ copy
  pub empty_ones : (k : ℕ) → k < length reserved.items
      → slice_index_or reserved.items k (empty copy 0) ≡ empty copy 0

-- the pages with another position of page p
abbrev pub stamped : List Content → (p at : ℕ) → List Content
stamped pages p at = slice_set pages (p - 1) (record (content_at pages p) { position = at })

pub list_few : (copy : ℕ) (pages reserved : Vec Content Global) → IsList copy pages reserved
    → length pages.items ≤ 4294967295
list_few copy pages reserved is = omega (arith, is.few)

pub list_numbered : (copy : ℕ) (pages reserved : Vec Content Global) → IsList copy pages reserved
    → (n : ℕ) → 1 ≤ n → n ≤ length pages.items → (content_at pages.items n).number ≡ n
list_numbered copy pages reserved is zero low high = absurd (omega arith)
list_numbered copy pages reserved is (suc k) low high = omega (arith, is.numbered k (omega arith))

pub list_of_copy : (copy : ℕ) (pages reserved : Vec Content Global) → IsList copy pages reserved
    → (n : ℕ) → 1 ≤ n → n ≤ length pages.items → (content_at pages.items n).copy ≡ copy
list_of_copy copy pages reserved is zero low high = absurd (omega arith)
list_of_copy copy pages reserved is (suc k) low high = is.of_copy k (omega arith)
