-- What the values of the types have: a clause that names each record ranges over all numbers and
-- all texts.
use Rattle.std.specs.Prelude.{◌<◌, ◌^◌, Option, Some, None}
use Rattle.std.specs.List.{AllByRecursion}
use Rattle.rg_base.specs.declared.part.Part.{Part}
use Rattle.rg_base.specs.declared.part.SlotOp.{SlotOp}
use Rattle.rg_base.specs.declared.part.SlotOp.TheVariants as slot_op
use Rattle.rg_base.specs.declared.place.Place.{Place}
use Rattle.rg_base.specs.declared.row.Row.{Row}
use Rattle.rg_record.specs.declared.record.Kind.{Kind}
use Rattle.rg_record.specs.declared.record.Kind.TheVariants.{Change, Undo, Commit, RolledBack}
use Rattle.rg_record.specs.declared.record.Kind.TheVariants.{Purge, Switch}
use Rattle.rg_record.specs.declared.record.Record.{Record}
use Rattle.rg_base.specs.Values.{FitsRow}

pub record FitsPlace (place : Place) : Type 0 where
  pub page : place.page < 2 ^ 32
  pub slot : place.slot < 2 ^ 16

abbrev pub FitsOp : SlotOp → Type 0
FitsOp slot_op.Free = Unit {0}
FitsOp (slot_op.Row capacity) = capacity < 2 ^ 16
FitsOp (slot_op.DeadRow capacity) = capacity < 2 ^ 16
FitsOp (slot_op.Pointer capacity other) = (capacity < 2 ^ 16) × FitsPlace other
FitsOp (slot_op.Over capacity other) = (capacity < 2 ^ 16) × FitsPlace other
FitsOp (slot_op.DeadPointer capacity other) = (capacity < 2 ^ 16) × FitsPlace other
FitsOp (slot_op.DeadOver capacity other) = (capacity < 2 ^ 16) × FitsPlace other

pub record FitsPart (part : Part) : Type 0 where
  pub page : part.page < 2 ^ 32
  pub slot : part.slot < 2 ^ 16
  pub op : FitsOp part.op

abbrev pub FitsOption : Option Row → Type 0
FitsOption None = Unit {0}
FitsOption (Some row) = FitsRow row

abbrev pub FitsKind : Kind → Type 0
FitsKind (Change home before after parts) =
    FitsPlace home × FitsOption before × FitsOption after × AllByRecursion FitsPart parts
FitsKind (Undo next home after parts) =
    (next.0 < 2 ^ 64) × FitsPlace home × FitsOption after × AllByRecursion FitsPart parts
FitsKind Commit = Unit {0}
FitsKind RolledBack = Unit {0}
FitsKind (Purge parts) = AllByRecursion FitsPart parts
FitsKind (Switch copy pages) = (copy < 2 ^ 8) × (pages < 2 ^ 32)

-- each number of the record fits its field, and each text is one
pub record Fits (entry : Record) : Type 0 where
  pub position : entry.position.0 < 2 ^ 64
  pub tran : entry.tran.0 < 2 ^ 32
  pub back : entry.back.0 < 2 ^ 64
  pub kind : FitsKind entry.kind
