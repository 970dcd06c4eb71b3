-- Pages, as contracts see them.
use Rattle.std.specs.Prelude.{ℕ, List, ◌∷◌, map, slice_index_or}
use Rattle.rg_home.specs.Slot.{Slot}
pub use Rattle.rg_page.specs.Bytes.Content.{Content, empty}

-- the slots of each page
abbrev pub slots_of : List Content → List (List Slot)
slots_of pages = map (λ p. p.slots) pages

-- the page of a number from 1
abbrev pub content_at : List Content → ℕ → Content
content_at pages n = slice_index_or (empty 0 0 ∷ pages) n (empty 0 0)
