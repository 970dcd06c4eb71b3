-- When RELOAD fills a page, and when STOP NOSPACE comes instead.
--
-- 1. The entries since the start of the utility show how many pages of the new copy are filled.
--    FREEPAGE counts the page that is filled next, and the empty one that is due after it.
-- 2. RELOAD fills a page only where the other copy may have all these pages.
-- 3. Before the first list is sorted, STOP NOSPACE comes only where it may not.
use Rattle.std.specs.Prelude.{◌≤◌, ◌<◌, ◌+◌, ℕ, List, [], ◌∷◌, Option, Some}
use Rattle.rg_base.specs.declared.verdict.StopReason.TheVariants as reasons
use Rattle.rg_laws_utility.specs.Course.Loading.{Loading, loading_after}
use Rattle.rg_image.specs.Rules.{copy_capacity}
use Rattle.rg_model.specs.Packed.{page_count}
use Rattle.rg_outside.specs.Capacities.{Capacities}
use Rattle.rg_stmt.specs.declared.event.Entry.{Entry}
use Rattle.rg_stmt.specs.declared.event.Event.{Event}
use Rattle.rg_stmt.specs.declared.event.Event.TheVariants.{Reload, Stop}
use Rattle.rg_base.specs.Copies.{other_of}

-- how many pages there are once the next one is filled
abbrev pub next_count : Loading → ℕ
next_count l = page_count l.freepage (l.filled + 1)

-- how many the new copy may have
abbrev pub pages_for : Capacities → Loading → ℕ
pages_for capacities l = copy_capacity capacities (other_of l.copy)

-- after entries that tell this of the new copy
abbrev pub IsForSpace : Capacities → Option Loading → Event → Type 0
IsForSpace capacities (Some l) (Reload page rows) = next_count l ≤ pages_for capacities l
IsForSpace capacities (Some l) (Stop reasons.NoSpace) = pages_for capacities l < next_count l
IsForSpace capacities now event = Unit {0}

abbrev pub AreForSpace : Capacities → Option Loading → List Entry → Type 0
AreForSpace capacities now [] = Unit {0}
AreForSpace capacities now (entry ∷ entries) =
    IsForSpace capacities now entry.event
    × AreForSpace capacities (loading_after now entry.event) entries
