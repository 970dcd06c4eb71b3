-- The bounds of a running utility's numbers. No number of a utility that follows the trace is above
-- what its type holds.
-- (1) What is copied, reloaded and filled is never more than what there is: a page has 225 rows at
--     most, and a page that is filled has one row at least.
-- (2) There are three lists and three indexes.
-- (3) Each iteration is begun by an entry of its own.
-- (4) No more tries of the drain fail than RETRY allows.
-- (5) The changes taken are some of those up to the iteration's end, and these some of all.
use Rattle.std.specs.Prelude.{ℕ, ◌≤◌, ◌<◌, ◌+◌, ◌*◌, ◌^◌, Option, IfSome}
use Rattle.rg_feed.specs.declared.fold.item.Stage.{Stage}

-- the bounds after so many changes of the table and entries of the trace since the utility started
pub record Bounded (all entries : ℕ) (s : Stage) : Type 0 where
  pub copied : s.copied ≤ s.pages
  pub unloaded : s.unloaded ≤ 225 * s.copied
  pub reloaded : s.reloaded ≤ s.unloaded
  pub filled_pages : s.filled ≤ s.reloaded
  pub sorted : s.sorted ≤ 3
  pub built : s.built ≤ 3
  pub iteration : s.iteration ≤ entries
  pub failed : s.failed ≤ s.options.retry
  pub done : s.done ≤ s.target
  pub target : s.target ≤ all

-- the bounds after some number of entries that leaves room to count one more
pub record SomeBounded (all : ℕ) (s : Stage) : Type 0 where
  pub entries : ℕ
  pub few : entries + 1 < 2 ^ 64
  pub bounded : Bounded all entries s

-- one entry keeps the bounds
abbrev pub KeepsBounds : (all : ℕ) → Stage → Option Stage → Type 0
KeepsBounds all s next =
    (entries : ℕ) → Bounded all entries s → IfSome next (λ t. Bounded all (entries + 1) t)
