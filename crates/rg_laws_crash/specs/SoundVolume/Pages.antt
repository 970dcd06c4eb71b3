-- The rules of a sound volume that are on the rows and the slots of its pages.
--
-- 1. Each rule is tested where those before it hold, in the order in which they stand here.
-- 2. *Parts fit.* In redo, from the pages that were read, each part fits its page. The log page of
--    the first record is named that has a part which does not.
-- 3. *Pointers.* After redo slots name each other; in the undo of open units each Change has what
--    it needs; and after undo no key stands twice. The page of the least place in breach is named,
--    or in undo that of the first Change.
-- 4. *Stored rows.* After undo the home rows are the stored rows. The page of the least place is
--    named whose row is not stored; where there is none, the last log page.
use Rattle.std.specs.Prelude.{◌≡◌, ℕ, List, length, take, Option, Some, None}
use Rattle.rg_base.specs.Copies.{set_of}
use Rattle.rg_base.specs.declared.place.Place.{Place}
use Rattle.rg_base.specs.declared.row.Row.{Row as TableRow}
use Rattle.rg_base.specs.declared.set.Set.{Set}
use Rattle.rg_base.specs.declared.set.Set.TheVariants.{Log}
use Rattle.rg_home.specs.Pages.{slot_of}
use Rattle.rg_home.specs.Rows.{row_at}
use Rattle.rg_home.specs.Slot.{Slot}
use Rattle.rg_home.specs.Undo.{undone_all}
use Rattle.rg_image.specs.Meaning.{current_of, stored}
use Rattle.rg_image.specs.Pack.{end_of, start}
use Rattle.rg_laws_log.specs.LogState.Tested.{all_of}
use Rattle.rg_page.specs.Content.{Content, slots_of}
use Rattle.rg_laws_pages.specs.UndoRoom.Needed.{NeededInTurn}
use Rattle.rg_redo.specs.CurrentCopy.Rebuilt.{rebuilt_pages}
use Rattle.rg_record.specs.declared.record.Record.{Record}
use Rattle.rg_redo.specs.Redo.{AllRedoFit, FailsAt, since_switch}
use Rattle.rg_check.specs.PageTests.Keys.{HasHome, IsAlone}
use Rattle.rg_check.specs.PageTests.Places.{IsLeastBreach}
use Rattle.rg_check.specs.PageTests.Ties.{IsTiedAt}
use Rattle.rg_check.specs.OpenUnits.Unended.{open_in}
use Rattle.rg_laws_crash.specs.SoundVolume.Left.{IsLacking, lefts_of, writes_left}

-- the current copy, and how many pages it has
abbrev pub copy_of : List Record → ℕ
copy_of rs = (current_of rs).copy

abbrev pub count_of : List Record → ℕ
count_of rs = (current_of rs).pages

-- the log page that the first so many records end on
abbrev pub page_of : List Record → (count : ℕ) → ℕ
page_of rs count = (end_of start (take count rs)).page

-- the pages after redo, from those that were read
abbrev pub redone_of : (base : List Content) → List Record → List (List Slot)
redone_of base rs = slots_of (rebuilt_pages base rs)

-- these pages once the open units are undone
abbrev pub undone_from : List Record → (pages : List (List Slot)) → List (List Slot)
undone_from rs pages = undone_all pages (all_of (writes_left (open_in rs) rs))

abbrev pub undone_of : (base : List Content) → List Record → List (List Slot)
undone_of base rs = undone_from rs (redone_of base rs)

-- the rows at their homes
abbrev pub homes_of : (pages : List (List Slot)) → Place → Option TableRow
homes_of pages = row_at (slot_of pages)

-- each part fits its page
abbrev pub Fit : (base : List Content) → List Record → Type 0
Fit base rs = AllRedoFit (since_switch rs) base

-- what the slot of a place names names it, after redo
abbrev pub Ties : List Record → (redone : List (List Slot)) → Place → Type 0
Ties rs redone = IsTiedAt (open_in rs) (slot_of redone)

-- each Change of an open unit has what its undo needs, at its turn
abbrev pub CanUndo : List Record → (redone : List (List Slot)) → Type 0
CanUndo rs redone = NeededInTurn redone (all_of (writes_left (open_in rs) rs))

-- no other place has a row of this place's key, after undo
abbrev pub Alone : (undone : List (List Slot)) → Place → Type 0
Alone undone = IsAlone (homes_of undone)

-- the row of a place is the stored row of its key
abbrev pub IsStoredThere : List Record → (undone : List (List Slot)) → Place → Type 0
IsStoredThere rs undone p =
    (row : TableRow) → homes_of undone p ≡ Some row → stored rs row.key ≡ Some row

-- a row is stored under a key that no home has
pub record LacksHome (rs : List Record) (undone : List (List Slot)) : Type 0 where
  pub key : ℕ
  pub row : TableRow
  pub is : stored rs key ≡ Some row
  pub none : HasHome (homes_of undone) key → ⊥

-- each stored row is of its key, and has a home
abbrev pub HaveHomes : List Record → (undone : List (List Slot)) → Type 0
HaveHomes rs undone =
    (k : ℕ) (row : TableRow) → stored rs k ≡ Some row
    → (row.key ≡ k) × (p : Place) × (homes_of undone p ≡ Some row)

-- the rules on the slots that redo leaves
pub record CanClose (rs : List Record) (redone : List (List Slot)) : Type 0 where
  pub tied : IsLeastBreach (Ties rs redone) None
  pub can : CanUndo rs redone

-- the rules on the rows that undo leaves
pub record IsMatched (rs : List Record) (undone : List (List Slot)) : Type 0 where
  pub alone : IsLeastBreach (Alone undone) None
  pub there : IsLeastBreach (IsStoredThere rs undone) None
  pub placed : HaveHomes rs undone

-- all of these rules hold
pub record KeepsRules (base : List Content) (rs : List Record) : Type 0 where
  pub fit : Fit base rs
  pub closes : CanClose rs (redone_of base rs)
  pub matched : IsMatched rs (undone_of base rs)

-- a record does not fit
pub data BreaksFit (base : List Content) (rs : List Record) : Set → ℕ → Type 0 where
  Unfit : (position page : ℕ) → FailsAt position (since_switch rs) base
      → page ≡ page_of rs position → BreaksFit base rs Log page

-- the first rule on the slots that redo leaves that is broken
pub data BreaksSlots (rs : List Record) (redone : List (List Slot)) : Set → ℕ → Type 0 where
  Untied : (p : Place) → IsLeastBreach (Ties rs redone) (Some p)
      → BreaksSlots rs redone (set_of (copy_of rs)) p.page
  Lacking : (p : Place) → IsLeastBreach (Ties rs redone) None
      → IsLacking redone (lefts_of (open_in rs) rs) p
      → BreaksSlots rs redone (set_of (copy_of rs)) p.page

-- the first rule on the rows that undo leaves that is broken
pub data BreaksRows (rs : List Record) (undone : List (List Slot)) : Set → ℕ → Type 0 where
  Twin : (p : Place) → IsLeastBreach (Alone undone) (Some p)
      → BreaksRows rs undone (set_of (copy_of rs)) p.page
  Strange : (p : Place) → IsLeastBreach (Alone undone) None
      → IsLeastBreach (IsStoredThere rs undone) (Some p)
      → BreaksRows rs undone (set_of (copy_of rs)) p.page
  Missing : (page : ℕ) → IsLeastBreach (Alone undone) None
      → IsLeastBreach (IsStoredThere rs undone) None → LacksHome rs undone
      → page ≡ page_of rs (length rs) → BreaksRows rs undone Log page

-- the first rule that is broken, and the page that it names
pub data BreaksRule (base : List Content) (rs : List Record) : Set → ℕ → Type 0 where
  OnParts : (set : Set) (page : ℕ) → BreaksFit base rs set page → BreaksRule base rs set page
  OnSlots : (set : Set) (page : ℕ) → Fit base rs → BreaksSlots rs (redone_of base rs) set page
      → BreaksRule base rs set page
  OnRows : (set : Set) (page : ℕ) → Fit base rs → CanClose rs (redone_of base rs)
      → BreaksRows rs (undone_of base rs) set page → BreaksRule base rs set page
