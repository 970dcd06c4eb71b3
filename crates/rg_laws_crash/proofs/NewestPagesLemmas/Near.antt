-- Parts on pages that are there, or on the next one.
use Rattle.std.proofs.Common.{◌≡◌, ◌≤◌, ◌<◌, ◌==◌, ℕ, false, List, [], ◌∷◌, Option, length, refl}
use Rattle.std.proofs.Common.{arith, ne_eqb}
use Rattle.std.proofs.lemmas.Bool.{or_from}
use Rattle.std.specs.List.{list_any}
use Rattle.rg_redo.proofs.CurrentCopyLemmas.Covering.{more_there}
use Rattle.rg_base.specs.declared.part.Part.{Part}
use Rattle.rg_base.specs.declared.row.Row.{Row}
use Rattle.rg_home.specs.Pages.{FitsAll, made, place_of, row_or_empty, wrote}
use Rattle.rg_home.specs.Slot.{Slot}
use Rattle.rg_page.specs.Content.{slots_of}
use Rattle.rg_page.specs.Seen.{Seen}
use Rattle.rg_record.specs.Applied.{parts_of}
use Rattle.rg_record.specs.declared.record.Record.{Record}
use Rattle.rg_space.specs.Applied.{AllNext}
use Rattle.rg_space.specs.Carries.{AllThere}
use Rattle.rg_space.specs.Ready.{CanApply}
use Rattle.rg_undo.specs.Wrote.{AllOnPages}
use Rattle.rg_laws_crash.specs.NewestPages.Newest.{AllNear}

pub there_near : (count : ℕ) (parts : List Part) → AllThere count parts → AllNear count parts
there_near count [] there = tt
there_near count (x ∷ parts) there =
    (there.0, omega (arith, there.1), there_near count parts there.2)

next_near : (count owner limit : ℕ) (after : Row) (pages : List (List Slot)) (parts : List Part)
    → AllNext count parts → FitsAll owner after limit pages parts → AllNear count parts
next_near count owner limit after pages [] next fits = tt
next_near count owner limit after pages (x ∷ parts) next fits = (
  fits.0,
  next.0,
  next_near count owner limit after (wrote pages (place_of x) (made owner after x.op)) parts next.1
      fits.3,
)

pub can_near : (s : Seen) (capacity owner : ℕ) (after : Option Row) (parts : List Part)
    → CanApply s capacity owner after parts → AllNear (length s.pages) parts
can_near s capacity owner after parts can = next_near (length s.pages) owner capacity
    (row_or_empty after) (slots_of s.pages) parts can.next can.fits

pub on_pages_more : (a b : ℕ) (rs : List Record) → a ≤ b → AllOnPages a rs → AllOnPages b rs
on_pages_more a b [] le on = tt
on_pages_more a b (entry ∷ rs) le on =
    (more_there a b (parts_of entry.kind) le on.0, on_pages_more a b rs le on.1)

-- none is on a page past them
pub past_there : (count page : ℕ) (parts : List Part) → count < page → AllThere count parts
    → list_any (λ (part : Part). part.page == page) parts ≡ false
past_there count page [] past there = refl
past_there count page (x ∷ parts) past there =
    or_from (x.page == page) (list_any (λ (part : Part). part.page == page) parts)
    (ne_eqb x.page page (λ is. absurd (omega (arith, is, past, there.1))))
    (past_there count page parts past there.2)
