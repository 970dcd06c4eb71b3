-- What the records of a log do, one after another.
--
-- 1. The list of acts is held latest first, so a prefix of the log is a tail of the list, and an
--    act more stands before it.
-- 2. Nothing runs: the state is a value, and each act gives the next one (`step`). Pages are those
--    that redo gives, from the first record on.
-- 3. A unit is live from its first Change to its Commit or RollBack. Its writes are kept until they
--    are undone or it ends. An Undo undoes the latest of them.
-- 4. A Switch makes other pages the current ones. It brings them along.
use Rattle.std.specs.Prelude.{◌==◌, nat_le, ℕ, Bool, not, List, [], ◌∷◌, Option, Some, None}
use Rattle.std.specs.Prelude.{if◌then◌else◌}
use Rattle.std.specs.List.{list_any}
use Rattle.rg_base.specs.declared.place.Place.{Place}
use Rattle.rg_base.specs.declared.row.Row.{Row as TableRow}
use Rattle.rg_base.specs.declared.part.Part.{Part}
use Rattle.rg_home.specs.Slot.{Slot}
use Rattle.rg_home.specs.Pages.{applied, row_or_empty}
use Rattle.rg_laws_log.specs.LogState.Write.{Write, latest_of, less_of, kept_of}

-- what one record does
pub data Act : Type 0 where
  Purge : (parts : List Part) → Act
  Change : (w : Write) → Act
  Undo : (unit : ℕ) (home : Place) (after : Option TableRow) (parts : List Part) → Act
  Commit : (unit : ℕ) → Act
  RollBack : (unit : ℕ) → Act
  Switch : (pages : List (List Slot)) → Act

-- what a list of records leaves: the pages; the units without an end record; their writes that are
-- not yet undone, the latest first; the row of each key; the greatest number of a unit so far; and
-- the units that have begun to be undone
pub record LogState : Type 0 where
  pub pages : List (List Slot)
  pub live : List ℕ
  pub writes : List Write
  pub now : ℕ → Option TableRow
  pub top : ℕ
  pub rolling : List ℕ

-- an empty log leaves nothing
abbrev pub nothing : LogState
nothing = record {
  pages = [];
  live = [];
  writes = [];
  now = λ k. None;
  top = 0;
  rolling = [];
}

-- a unit is in a list
abbrev pub is_in : ℕ → List ℕ → Bool
is_in t us = list_any (λ u. u == t) us

-- the units of a list but this one
abbrev pub others : ℕ → List ℕ → List ℕ
others t [] = []
others t (u ∷ us) = if u == t then others t us else u ∷ others t us

-- another unit
abbrev pub not_of : ℕ → ℕ → Bool
not_of t u = not (u == t)

-- rows by key with one of them set
abbrev pub set_at : (ℕ → Option TableRow) → ℕ → Option TableRow → ℕ → Option TableRow
set_at rows k x j = if k == j then x else rows j

-- rows by key with a write taken back, if there is one
abbrev pub now_undone : (ℕ → Option TableRow) → Option Write → ℕ → Option TableRow
now_undone now None = now
now_undone now (Some w) = set_at now w.key w.written.before

-- the state that one act leaves
abbrev pub step : LogState → Act → LogState
step s (Purge parts) = record s { pages = applied 0 (row_or_empty None) s.pages parts }
step s (Change w) = record {
  pages = applied w.written.owner (row_or_empty w.after) s.pages w.written.parts;
  live = w.written.owner ∷ s.live;
  writes = w ∷ s.writes;
  now = set_at s.now w.key w.after;
  top = if nat_le w.written.owner s.top then s.top else w.written.owner;
  rolling = s.rolling;
}
step s (Undo t home after parts) = record s {
  pages = applied t (row_or_empty after) s.pages parts;
  writes = less_of t s.writes;
  now = now_undone s.now (latest_of t s.writes);
  rolling = t ∷ s.rolling;
}
step s (Commit t) = record s { live = others t s.live; writes = kept_of (not_of t) s.writes }
step s (RollBack t) = record s { live = others t s.live; writes = kept_of (not_of t) s.writes }
step s (Switch pages) = record s { pages = pages }

-- the state that a list of acts leaves, the latest first
abbrev pub state : LogState → List Act → LogState
state first [] = first
state first (a ∷ acts) = step (state first acts) a
