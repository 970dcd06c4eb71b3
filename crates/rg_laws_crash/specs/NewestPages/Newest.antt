-- The pages of a copy in memory.
--
-- 1. Each is the version that all records of the log make of it. Past the pages in memory the
--    newest version of a page is empty.
-- 2. Each has its number, and no position is above that of the last record.
use Rattle.std.specs.Prelude.{◌≡◌, ◌≤◌, ◌+◌, nat_le, ℕ, List, [], ◌∷◌, length, if◌then◌else◌}
use Rattle.rg_base.specs.declared.part.Part.{Part}
use Rattle.rg_page.specs.Content.{Content, content_at, empty}
use Rattle.rg_page.specs.Seen.{Seen}
use Rattle.rg_record.specs.declared.record.Record.{Record}
use Rattle.rg_laws_crash.specs.PageVersions.Versions.{Epoch, version}

-- page p in memory, or an empty one past them
abbrev pub page_in : (copy : ℕ) → List Content → (p : ℕ) → Content
page_in copy pages p = if nat_le p (length pages) then content_at pages p else empty copy p

-- it is the newest version of page p
pub record IsNewest (e : Epoch) (rs : List Record) (p : ℕ) (x : Content) : Type 0 where
  pub is : x ≡ version e rs (length rs) p
  pub number : x.number ≡ p
  pub position : x.position ≤ length rs

-- so is each page in memory, and each past them
pub record AreNewest (e : Epoch) (rs : List Record) (s : Seen) : Type 0 where
  pub begun : e.from ≤ length rs
  pub copy : s.copy ≡ e.copy
  pub each : (p : ℕ) → 1 ≤ p → IsNewest e rs p (page_in s.copy s.pages p)

-- each of these parts is on a page that is there, of so many, or on the next one
abbrev pub AllNear : (count : ℕ) → List Part → Type 0
AllNear count [] = Unit {0}
AllNear count (x ∷ parts) = (1 ≤ x.page) × (x.page ≤ count + 1) × AllNear count parts

-- the positions of these records count up from this one
abbrev pub CountUp : (position : ℕ) → List Record → Type 0
CountUp position [] = Unit {0}
CountUp position (entry ∷ rs) = (entry.position.0 ≡ position) × CountUp (position + 1) rs
