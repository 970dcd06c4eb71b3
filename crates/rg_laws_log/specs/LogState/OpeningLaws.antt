-- What holds of an opening.
--
-- 1. Every lawful log passes the tests, in any order of its open units (`PrefixesPass`), and is
--    ended by Undos and RollBacks (`OpeningsClose`).
-- 2. Where the tests pass, of whatever image, each unit can be undone at its turn and the invariant
--    holds of what is left (`TestsSuffice`). A crash in the middle leaves what passes again
--    (`RestsPass`).
-- 3. What is appended then keeps the invariant, whatever the log was before (`LogsGoOn`), and the
--    whole log tells the stored rows (`LogsTell`).
-- 4. Redo may go page by page (`PagesPart`).
use Rattle.std.specs.Prelude.{◌≡◌, ◌≤◌, ◌++◌, ◌||◌, not, Bool, true, ℕ, List, [], Option}
use Rattle.rg_base.specs.declared.row.Row.{Row as TableRow}
use Rattle.rg_base.specs.declared.part.Part.{Part}
use Rattle.rg_home.specs.Slot.{Slot}
use Rattle.rg_home.specs.Rows.{row_at}
use Rattle.rg_home.specs.Pages.{page_at, slot_of, applied, FitsAll}
use Rattle.rg_home.specs.Written.{Written}
use Rattle.rg_home.specs.Undo.{undone_all}
use Rattle.rg_home.specs.Table.{IsTable}
use Rattle.rg_laws_log.specs.LogState.Act.{Act, nothing, state}
use Rattle.rg_home.specs.Owners.{AllBelow}
use Rattle.rg_laws_log.specs.LogState.Lawful.{Runs}
use Rattle.rg_laws_log.specs.LogState.Consistent.{base_of, stored_of, IsConsistent, IsClean}
use Rattle.rg_laws_log.specs.LogState.Stored.{has_commit, last_of, stored_at, MayCount}
use Rattle.rg_laws_log.specs.LogState.Write.{at_key, kept_of, gone_back}
use Rattle.rg_laws_log.specs.LogState.Closing.{IsClosing, Closes, all_others, LiveInTurn}
use Rattle.rg_laws_log.specs.LogState.Tested.{all_of, LogBelow, Tested, UnitsCan, opened, units_of}
use Rattle.rg_laws_log.specs.LogState.Tested.{TakeInAll}
use Rattle.rg_laws_log.specs.LogState.ByPage.{page_with, FitsOn}

-- every lawful log passes the tests of an opening, whatever the order of its open units
abbrev pub PrefixesPass : Type 0
PrefixesPass =
    (limit : ℕ) (acts : List Act) → Runs limit nothing acts → (ts : List ℕ)
    → TakeInAll ts (state nothing acts).writes
    → Tested limit (state nothing acts).pages (units_of ts (state nothing acts).writes)
    (stored_at acts) (state nothing acts).top

-- Undos and RollBacks, each lawful, end all units that are live; and then the home rows are the
-- stored rows of the log
pub record OpeningsClose : Type 0 where
  pub ends :
      (limit : ℕ) (acts : List Act) (ts : List ℕ) → Runs limit nothing acts
      → LiveInTurn ts (state nothing acts).live
      → Closes limit acts (λ s. s.live ≡ all_others ts (state nothing acts).live)
  pub rows :
      (limit : ℕ) (acts more : List Act) → IsClosing more → Runs limit nothing (more ++ acts)
      → (state nothing (more ++ acts)).live ≡ []
      → IsTable (row_at (slot_of (state nothing (more ++ acts)).pages)) (stored_at acts)

-- where the tests pass, each unit can be undone at its turn, and the invariant holds of what is
-- left
abbrev pub TestsSuffice : Type 0
TestsSuffice =
    (limit : ℕ) (pages : List (List Slot)) (units : List (List Written))
    (stored : ℕ → Option TableRow) (top : ℕ) → Tested limit pages units stored top
    → UnitsCan pages units × IsConsistent limit (opened pages units stored top)
    × (AllBelow top (slot_of pages) → IsClean (opened pages units stored top))

-- a crash in the middle of an opening leaves what passes the tests again
abbrev pub RestsPass : Type 0
RestsPass =
    (limit : ℕ) (pages : List (List Slot)) (units rest : List (List Written))
    (done : List Written) (stored : ℕ → Option TableRow) (top : ℕ)
    → all_of units ≡ done ++ all_of rest → Tested limit pages units stored top
    → Tested limit (undone_all pages done) rest stored top

-- after an opening of any tested image the invariant holds of all that is appended, the stored rows
-- are those of the whole log, and the tests pass again
abbrev pub LogsGoOn : Type 0
LogsGoOn =
    (limit : ℕ) (pages : List (List Slot)) (units : List (List Written)) (top : ℕ)
    (old : List Act)
    → Tested limit pages units (stored_at old) top → LogBelow top old → (acts : List Act)
    → Runs limit (opened pages units (stored_at old) top) acts
    → IsConsistent limit (state (opened pages units (stored_at old) top) acts)
    × IsTable (base_of (state (opened pages units (stored_at old) top) acts))
    (stored_at (acts ++ old))
    × ((ts : List ℕ)
    → TakeInAll ts (state (opened pages units (stored_at old) top) acts).writes
    → Tested limit (state (opened pages units (stored_at old) top) acts).pages
    (units_of ts (state (opened pages units (stored_at old) top) acts).writes)
    (stored_at (acts ++ old)) (state (opened pages units (stored_at old) top) acts).top)

-- the stored row of a key, by the whole log, is the committed row that the state computes; and if
-- some open units committed then, it would be the one that is there once all others are taken back
pub record LogsTell : Type 0 where
  pub stored :
      (limit : ℕ) (pages : List (List Slot)) (units : List (List Written)) (top : ℕ)
      (old : List Act)
      → Tested limit pages units (stored_at old) top → LogBelow top old → (acts : List Act)
      → Runs limit (opened pages units (stored_at old) top) acts → (k : ℕ)
      → stored_at (acts ++ old) k
      ≡ stored_of (state (opened pages units (stored_at old) top) acts) k
  pub commits :
      (limit : ℕ) (pages : List (List Slot)) (units : List (List Written)) (top : ℕ)
      (old : List Act)
      → Tested limit pages units (stored_at old) top → LogBelow top old → (acts : List Act)
      → Runs limit (opened pages units (stored_at old) top) acts → (f : ℕ → Bool)
      → ((u : ℕ) → f u ≡ true
      → MayCount (state (opened pages units (stored_at old) top) acts) u) → (k : ℕ)
      → last_of (λ u. f u || has_commit u (acts ++ old)) k (acts ++ old)
      ≡ gone_back (at_key k)
      (kept_of (λ u. not (f u)) (state (opened pages units (stored_at old) top) acts).writes)
      ((state (opened pages units (stored_at old) top) acts).now k)

-- redo may go page by page, and a part that fits its pages fits its page
abbrev pub PagesPart : Type 0
PagesPart =
    (t : ℕ) (after : TableRow) (limit : ℕ) (pages : List (List Slot)) (parts : List Part) (n : ℕ)
    → 1 ≤ n → FitsAll t after limit pages parts
    → (page_at (applied t after pages parts) n ≡ page_with t after n (page_at pages n) parts)
    × FitsOn t after n (page_at pages n) parts
