-- What is seen of the summaries of pages.
use Rattle.std.specs.Prelude.{◌≤◌, ℕ, List, length}
use Rattle.rg_base.specs.declared.place.Place.{Place}
use Rattle.rg_home.specs.Pages.{page_at}
use Rattle.rg_home.specs.Slot.{Slot}
use Rattle.rg_home.specs.Slots.{placed, Fits}

-- the headers of each page, and how many pages more there is room for
pub record Summarized : Type 0 where
  pub pages : List (List Slot)
  pub room : ℕ

-- the page is there, and stays within its bytes where this slot is set
pub record HasRoom (pages : List (List Slot)) (p : Place) (s : Slot) : Type 0 where
  pub low : 1 ≤ p.page
  pub high : p.page ≤ length pages
  pub fits : Fits (placed (page_at pages p.page) p.slot s)
