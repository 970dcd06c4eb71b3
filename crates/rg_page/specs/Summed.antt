-- What a summary keeps of the headers of a page.
use Rattle.std.specs.Prelude.{◌≡◌, ◌≤◌, ℕ, vec_capacity}
use Rattle.std.specs.declared.vec.Vec.{Vec}
use Rattle.std.specs.declared.alloc.Global.{Global}
use Rattle.rg_home.specs.Slot.{Slot}
use Rattle.rg_home.specs.Slots.{used, Fits, IsTrimmed}
use Rattle.rg_page.specs.Ceiling.{ceiling}

-- the bytes that the slots take, the ceiling, and what holds of every page
pub record IsSummary (headers : Vec Slot Global) (taken most : ℕ) : Type 0 where
  pub is_taken : taken ≡ used headers.items
  pub is_most : most ≡ ceiling headers.items
  pub fits : Fits headers.items
  pub trimmed : IsTrimmed headers.items
  pub room : 226 ≤ vec_capacity headers
