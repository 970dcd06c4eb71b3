-- What a record makes of pages.
use Rattle.std.specs.Prelude.{◌≡◌, ◌≤◌, ◌<◌, ◌+◌, ◌==◌, ℕ, true, List, [], ◌∷◌, ◌++◌, Option}
use Rattle.std.specs.Prelude.{length, if◌then◌else◌}
use Rattle.rg_base.specs.declared.part.Part.{Part}
use Rattle.rg_base.specs.declared.row.Row.{Row}
use Rattle.rg_home.specs.Pages.{TakesRow, row_or_empty, made, page_at}
use Rattle.rg_home.specs.Slots.{placed, Fits}
use Rattle.rg_page.specs.Content.{Content, empty, slots_of}
use Rattle.rg_page.specs.Seen.{Seen, Keeps, set_content}
use Rattle.rg_space.specs.Took.{IsHeldAt}

-- the pages, with an empty one more where page n is the next
abbrev pub grown : (copy : ℕ) → List Content → (n : ℕ) → List Content
grown copy pages n = if n == length pages + 1 then pages ++ empty copy n ∷ [] else pages

-- the pages after one part, and after several in order, each at the record's position
abbrev pub wrote_part : (copy owner : ℕ) → Option Row → (position : ℕ) → List Content → Part
    → List Content
wrote_part copy owner after position pages x =
    set_content (grown copy pages x.page) x owner after position

abbrev pub wrote_all : (copy owner : ℕ) → Option Row → (position : ℕ) → List Content → List Part
    → List Content
wrote_all copy owner after position pages [] = pages
wrote_all copy owner after position pages (x ∷ parts) =
    wrote_all copy owner after position (wrote_part copy owner after position pages x) parts

-- the page of each part that is there is held
abbrev pub AllHeld : Seen → List Part → Type 0
AllHeld s [] = Unit {0}
AllHeld s (x ∷ parts) = IsHeldAt s x.page × AllHeld s parts

-- a part fits its page, which is there, or is the next one and within the limit
pub record IsApplicable (limit : ℕ) (pages : List Content) (owner : ℕ) (after : Option Row)
    (x : Part) : Type 0 where
  pub low : 1 ≤ x.page
  pub next : x.page ≤ length pages + 1
  pub high : x.page ≤ limit
  pub row : TakesRow after x.op
  pub fits : Fits (placed (page_at (slots_of pages) x.page) x.slot
      (made owner (row_or_empty after) x.op))

-- each part in its turn
abbrev pub AreApplicable : (limit copy owner : ℕ) → Option Row → (position : ℕ) → List Content
    → List Part → Type 0
AreApplicable limit copy owner after position pages [] = Unit {0}
AreApplicable limit copy owner after position pages (x ∷ parts) =
    IsApplicable limit pages owner after x
    × AreApplicable limit copy owner after position
    (wrote_part copy owner after position pages x) parts

-- the page of each part is one of so many, or the next
abbrev pub AllNext : (n : ℕ) → List Part → Type 0
AllNext n [] = Unit {0}
AllNext n (x ∷ parts) = (x.page ≤ n + 1) × AllNext n parts

-- pages may be added up to this limit
pub record Within (limit : ℕ) (s : Seen) (capacity : ℕ) : Type 0 where
  pub reserved : limit ≤ length s.pages + s.reserved
  pub capacity_holds : limit ≤ capacity

-- what a write does to frames, beside their pages, where its record has this position
pub record Writes (position : ℕ) (a b : Seen) : Type 0 where
  pub keeps : Keeps a b
  pub sure : b.sure ≡ a.sure
  pub more : length a.pages ≤ length b.pages
  pub held : (p : ℕ) → a.held p ≡ true → b.held p ≡ true
  pub new_held : (p : ℕ) → length a.pages < p → p ≤ length b.pages → b.held p ≡ true
  pub left : length b.pages + b.reserved ≡ length a.pages + a.reserved
  pub forced : b.forced ≡ a.forced
  pub spare : a.spare ≤ b.spare
  pub idle : position ≤ a.forced → a.idle ≤ b.idle
  pub faults : b.faults ≡ a.faults
