-- A record redone.
--
-- 1. A page whose position is below the record's gets all parts of the record that are on it, in
--    their order. Every other page stays as it is, so a record is redone once.
-- 2. Each of those parts has to fit its page, as it is then.
use Rattle.std.specs.Prelude.{◌≡◌, ◌<◌, ◌-◌, ◌==◌, nat_lt, ℕ, true, List, [], ◌∷◌, Option}
use Rattle.std.specs.Prelude.{if◌then◌else◌, slice_set}
use Rattle.rg_base.specs.declared.part.Part.{Part}
use Rattle.rg_base.specs.declared.row.Row.{Row}
use Rattle.rg_home.specs.Pages.{PartFits}
use Rattle.rg_outside.specs.Faults.{Rose}
use Rattle.rg_page.specs.Changed.{changed}
use Rattle.rg_page.specs.Content.{Content, content_at}
use Rattle.rg_page.specs.Seen.{Seen}
use Rattle.rg_record.specs.Applied.{parts_of, after_of}
use Rattle.rg_record.specs.declared.record.Record.{Record}
use Rattle.rg_space.specs.declared.fault.RedoFault.{RedoFault}
use Rattle.rg_space.specs.declared.fault.RedoFault.TheVariants.{Unfit, Device}

-- the page with a part, if that is on it
abbrev pub with_part : (owner : ℕ) → Option Row → (position : ℕ) → Content → Part → Content
with_part owner after position page x =
    if x.page == page.number then changed page x owner after position else page

-- with the parts that are on it, in their order
abbrev pub with_parts :
    (owner : ℕ) → Option Row → (position : ℕ) → Content → List Part → Content
with_parts owner after position page [] = page
with_parts owner after position page (x ∷ parts) =
    with_parts owner after position (with_part owner after position page x) parts

-- the page once the record is redone
abbrev pub redone : Record → Content → Content
redone entry page =
    if nat_lt page.position entry.position.0
    then with_parts entry.tran.0 (after_of entry.kind) entry.position.0 page (parts_of entry.kind)
    else page

-- the parts that are on the page fit it, each in its turn
abbrev pub AllFit :
    (owner : ℕ) → Option Row → (position : ℕ) → Content → List Part → Type 0
AllFit owner after position page [] = Unit {0}
AllFit owner after position page (x ∷ parts) =
    (x.page ≡ page.number → PartFits page.number page.slots owner after x)
    × AllFit owner after position (with_part owner after position page x) parts

-- the record fits the page, if it is to be redone there
abbrev pub RedoFits : Record → Content → Type 0
RedoFits entry page =
    page.position < entry.position.0
    → AllFit entry.tran.0 (after_of entry.kind) entry.position.0 page (parts_of entry.kind)

-- the pages once the record is redone on page n
abbrev pub redone_on : Record → (n : ℕ) → List Content → List Content
redone_on entry n pages = slice_set pages (n - 1) (redone entry (content_at pages n))

-- why a record was not redone: it does not fit, where what was read is sure; or a page could not be
-- read
abbrev pub HasRedoCause : RedoFault → (fits : Type 0) → Seen → Seen → Type 0
HasRedoCause Unfit fits a b = b.sure ≡ true → fits → ⊥
HasRedoCause Device fits a b = Rose a.faults b.faults
