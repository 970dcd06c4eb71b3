-- The invariant of every prefix of a log.
--
-- 1. The pages are proper, no more than the limit, and each live unit can be undone. No unit that
--    is live, or has begun to be undone, has a number above the greatest so far.
-- 2. The rows by place and by key are one table. At each home and at each key the writes that are
--    not yet undone go back from the row that is there, and are of one unit.
-- 3. The committed rows are computed, not kept: by place and by key, they are there once all writes
--    are taken back.
-- 4. Of pages that were tidy at the start more holds: a dead home of a live unit names its own
--    area, and no dead area has a number that no unit has drawn. Nothing else rests on it.
use Rattle.std.specs.Prelude.{◌≡◌, ◌≤◌, ℕ, true, length, Option}
use Rattle.rg_base.specs.declared.place.Place.{Place}
use Rattle.rg_base.specs.declared.row.Row.{Row as TableRow}
use Rattle.rg_home.specs.Rows.{row_at}
use Rattle.rg_home.specs.Pages.{slot_of}
use Rattle.rg_home.specs.Able.{IsLive}
use Rattle.rg_home.specs.Undo.{taken_back}
use Rattle.rg_laws_pages.specs.UndoRoom.Ready.{Ready}
use Rattle.rg_laws_pages.specs.UndoRoom.Dead.{DeadNames}
use Rattle.rg_laws_log.specs.LogState.Write.{at_home, at_key, Back, gone_back, OneOwner, AllOfKey}
use Rattle.rg_laws_log.specs.LogState.Write.{written_of}
use Rattle.rg_home.specs.Table.{IsTable}
use Rattle.rg_laws_log.specs.LogState.Act.{LogState, is_in}
use Rattle.rg_home.specs.Owners.{AllBelow}

-- the committed row of each place
abbrev pub base_of : LogState → Place → Option TableRow
base_of s p = taken_back (written_of s.writes) p (row_at (slot_of s.pages) p)

-- the committed row of each key
abbrev pub stored_of : LogState → ℕ → Option TableRow
stored_of s k = gone_back (at_key k) s.writes (s.now k)

-- the invariant, where pages are at most so many
pub record IsConsistent (limit : ℕ) (s : LogState) : Type 0 where
  pub few : length s.pages ≤ limit
  pub ready : Ready s.live s.pages (written_of s.writes) (base_of s)
  pub fresh : (u : ℕ) → IsLive s.live u → u ≤ s.top
  pub rolled : (u : ℕ) → is_in u s.rolling ≡ true → u ≤ s.top
  pub table : IsTable (row_at (slot_of s.pages)) s.now
  pub homes : (p : Place) → Back (at_home p) s.writes (row_at (slot_of s.pages) p)
  pub keys : (k : ℕ) → Back (at_key k) s.writes (s.now k)
  pub one_home : (p : Place) → OneOwner (at_home p) s.writes
  pub one_key : (k : ℕ) → OneOwner (at_key k) s.writes
  pub of_key : AllOfKey s.writes

-- dead homes of live units name areas, and dead areas have numbers that were drawn
pub record IsClean (s : LogState) : Type 0 where
  pub names : DeadNames s.live (slot_of s.pages)
  pub below : AllBelow s.top (slot_of s.pages)
