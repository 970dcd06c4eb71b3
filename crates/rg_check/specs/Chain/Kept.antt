-- How what is kept stands to the records so far.
use Rattle.std.specs.Prelude.{◌≡◌, ◌≤◌, ◌-◌, ◌*◌, ℕ, false, List, [], ◌∷◌, length, Option, Some}
use Rattle.std.specs.Prelude.{None, slice_index_or, sum_by}
use Rattle.rg_record.specs.declared.record.Kind.{Kind}
use Rattle.rg_record.specs.declared.record.Kind.TheVariants.{Change, Undo, Commit, RolledBack}
use Rattle.rg_record.specs.declared.record.Kind.TheVariants.{Purge, Switch}
use Rattle.rg_record.specs.declared.record.Record.{Record}
use Rattle.rg_image.specs.Meaning.{current_of}
use Rattle.rg_image.specs.Rules.{Done, of_tran, last_position, greatest_tran, is_ended, has_undo}
use Rattle.rg_image.specs.Rules.{not_undone}
use Rattle.rg_check.specs.declared.chain.unit.Unit.{Unit}
use Rattle.rg_check.specs.Chain.Running.{Running, owed_unit}

-- what is to be undone of a record: something, where it is a Change
abbrev pub done_of : ℕ → Kind → Option Done
done_of back (Change home before after parts) =
    Some (record { back = back; home = home; before = before })
done_of back (Undo next home after parts) = None
done_of back Commit = None
done_of back RolledBack = None
done_of back (Purge parts) = None
done_of back (Switch copy pages) = None

-- the record with this position is that Change
abbrev pub IsDoneAt : List Record → ℕ → Done → Type 0
IsDoneAt before top change =
    (other : Record) → let entry = slice_index_or before (top - 1) other in
    done_of entry.back.0 entry.kind ≡ Some change

-- The Changes of a transaction that are not undone, the latest first: it has position `top`, and
-- each names by its back the one before. Position 0 stands for none.
abbrev pub AreDone : List Record → ℕ → List Done → Type 0
AreDone before top [] = top ≡ 0
AreDone before top (change ∷ others) =
    (1 ≤ top) × (top ≤ length before) × IsDoneAt before top change
    × AreDone before change.back others

-- a transaction as its records so far leave it
pub record IsUnit (before : List Record) (tran : ℕ) (unit : Unit) : Type 0 where
  pub last : unit.last ≡ last_position 0 (of_tran tran before)
  pub ended : unit.ended ≡ is_ended tran before
  pub undoing : unit.undoing ≡ has_undo tran before
  pub done : AreDone before unit.top (not_undone tran before)
  pub left : unit.left ≡ length (not_undone tran before)
  pub few : unit.left ≤ length before
  -- until an Undo or an end each record of it is a Change
  pub top : unit.ended ≡ false → unit.undoing ≡ false → unit.top ≡ unit.last

-- each number up to the greatest has records, and its transaction is kept
pub record AreUnits (before : List Record) (units : List Unit) (owed : ℕ) : Type 0 where
  pub greatest : length units ≡ greatest_tran before
  pub some : (tran : ℕ) → 1 ≤ tran → tran ≤ length units → 1 ≤ length (of_tran tran before)
  pub each :
      (tran : ℕ) (other : Unit) → 1 ≤ tran → tran ≤ length units
      → IsUnit before tran (slice_index_or units (tran - 1) other)
  pub sum : owed ≡ sum_by owed_unit units
  pub high : owed ≤ 934 * length before

pub record IsKept (before : List Record) (chain : Running) : Type 0 where
  pub units : AreUnits before chain.units chain.owed
  pub current : chain.current ≡ current_of before
