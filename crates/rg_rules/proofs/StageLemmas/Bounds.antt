-- The bounds of a utility's numbers.
use Rattle.std.proofs.Common.{ℕ, ◌*◌, ◌≤◌, sym, subst, arith}
use Rattle.rg_base.specs.declared.options.Options.{Options}
use Rattle.rg_feed.specs.declared.fold.item.Stage.{Stage}
use Rattle.rg_model.specs.State.{Utility}
use Rattle.rg_model.specs.Utility.{new_utility}
use Rattle.rg_rules.specs.Stage.NumbersOf.{numbers_of}
use Rattle.rg_rules.specs.Stage.Bounded.{Bounded}
use Rattle.rg_rules.specs.Stage.Laws.{StartIsBounded, BoundsGrow, NumbersAreBounded}

-- the bounds, of the numbers alone
record Within (all entries : ℕ) (u : Utility) : Type 0 where
  copied : u.copied ≤ u.pages
  unloaded : u.unloaded ≤ 225 * u.copied
  reloaded : u.reloaded ≤ u.unloaded
  filled_pages : u.filled ≤ u.reloaded
  sorted : u.sorted ≤ 3
  built : u.built ≤ 3
  iteration : u.iteration ≤ entries
  failed : u.failed ≤ u.options.retry
  done : u.done ≤ u.target
  target : u.target ≤ all

is_bounded :
    (all entries : ℕ) (s : Stage)
    → Within all entries (numbers_of s) → Bounded all entries s
is_bounded all entries s w = record {
  copied = w.copied;
  unloaded = w.unloaded;
  reloaded = w.reloaded;
  filled_pages = w.filled_pages;
  sorted = w.sorted;
  built = w.built;
  iteration = w.iteration;
  failed = w.failed;
  done = w.done;
  target = w.target;
}

is_within :
    (all entries : ℕ) (s : Stage)
    → Bounded all entries s → Within all entries (numbers_of s)
is_within all entries s b = record {
  copied = b.copied;
  unloaded = b.unloaded;
  reloaded = b.reloaded;
  filled_pages = b.filled_pages;
  sorted = b.sorted;
  built = b.built;
  iteration = b.iteration;
  failed = b.failed;
  done = b.done;
  target = b.target;
}

new_within :
    (all entries : ℕ) (options : Options) (pages : ℕ)
    → Within all entries (new_utility options pages)
new_within all entries options pages = record {
  copied = omega (arith);
  unloaded = omega (arith);
  reloaded = omega (arith);
  filled_pages = omega (arith);
  sorted = omega (arith);
  built = omega (arith);
  iteration = omega (arith);
  failed = omega (arith);
  done = omega (arith);
  target = omega (arith);
}

pub bounded-numbers : NumbersAreBounded
bounded-numbers all entries s t e b =
    is_bounded all entries t (subst (λ u. Within all entries u) e (is_within all entries s b))

pub bounded-start : StartIsBounded
bounded-start all entries options pages s e =
    is_bounded all entries s
    (subst (λ u. Within all entries u) (sym e) (new_within all entries options pages))

pub bounded-grow : BoundsGrow
bounded-grow all more entries later s changes_grow entries_grow b = record {
  copied = b.copied;
  unloaded = b.unloaded;
  reloaded = b.reloaded;
  filled_pages = b.filled_pages;
  sorted = b.sorted;
  built = b.built;
  iteration = omega (arith, b.iteration, entries_grow);
  failed = b.failed;
  done = b.done;
  target = omega (arith, b.target, changes_grow);
}
