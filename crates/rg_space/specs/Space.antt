-- What is seen of a space, and what its calls rest on.
--
-- 1. A space shows its frames, what it keeps of each page, and its capacity.
-- 2. The summaries agree with the pages. It is a condition of the calls and not a fact of the type,
--    since frames may be lent; each call keeps it.
use Rattle.std.specs.Prelude.{◌≡◌, ◌≤◌, ℕ, map, length}
use Rattle.rg_page.specs.Bare.{bare}
use Rattle.rg_page.specs.Content.{slots_of}
use Rattle.rg_page.specs.Seen.{Seen}
use Rattle.rg_space.specs.Summarized.{Summarized}
use Rattle.rg_space.specs.declared.space.Space.{Space}

abbrev pub frames_of : {F : Type 0} → Space F → F
frames_of space = space.frames

abbrev pub summaries_of : {F : Type 0} → Space F → Summarized
summaries_of space = space.summaries

abbrev pub capacity_in : {F : Type 0} → Space F → ℕ
capacity_in space = space.capacity

-- with other frames
abbrev pub with_frames : {F : Type 0} → Space F → F → Space F
with_frames space frames = record space { frames = frames }

-- how many plans of an undo there is room for
abbrev pub undos_in : {F : Type 0} → Space F → ℕ
undos_in space = length space.undos.items

-- the summaries are those of the pages
abbrev pub Agree : Seen → Summarized → Type 0
Agree seen summaries = map (map bare) (slots_of seen.pages) ≡ summaries.pages

-- the numbers of pages are in step, whatever the pages hold
pub record InStep (seen : Seen) (summaries : Summarized) (capacity : ℕ) : Type 0 where
  pub count : length summaries.pages ≡ length seen.pages
  pub room : summaries.room ≡ seen.reserved
  pub few : length seen.pages ≤ capacity
  pub limit : capacity ≤ seen.limit
