-- The records that have a spelling.
use Rattle.std.specs.Prelude.{ℕ, ◌≡◌, ◌≤◌, ◌⊎◌, Bool, true, false, ◌&&◌, ◌==◌, IsTrue, List, []}
use Rattle.std.specs.Prelude.{◌∷◌, length}
use Rattle.std.specs.List.{list_all}
use Rattle.rg_base.specs.declared.part.Part.{Part}
use Rattle.rg_base.specs.declared.part.SlotOp.{SlotOp}
use Rattle.rg_base.specs.declared.part.SlotOp.TheVariants as slot_op
use Rattle.rg_record.specs.declared.record.Kind.{Kind}
use Rattle.rg_record.specs.declared.record.Kind.TheVariants.{Change, Undo, Commit, RolledBack}
use Rattle.rg_record.specs.declared.record.Kind.TheVariants.{Purge, Switch}
use Rattle.rg_record.specs.declared.record.Record.{Record}

-- a write changes its home, the area that it takes, and the area that it leaves
abbrev pub IsFew : List Part → Type 0
IsFew parts = (1 ≤ length parts) × (length parts ≤ 3)

abbrev pub is_free : SlotOp → Bool
is_free slot_op.Free = true
is_free (slot_op.Row capacity) = false
is_free (slot_op.Pointer capacity other) = false
is_free (slot_op.Over capacity other) = false
is_free (slot_op.DeadRow capacity) = false
is_free (slot_op.DeadPointer capacity other) = false
is_free (slot_op.DeadOver capacity other) = false

-- whether a part frees a slot of that page
abbrev pub frees_on : ℕ → Part → Bool
frees_on page part = is_free part.op && (part.page == page)

-- parts that free slots of one page
abbrev pub AreFrees : List Part → Type 0
AreFrees [] = ⊥
AreFrees (part ∷ parts) = IsTrue (list_all (frees_on part.page) (part ∷ parts))

-- a record of no transaction
abbrev pub IsOfNone : Record → Type 0
IsOfNone entry = (entry.tran.0 ≡ 0) × (entry.back.0 ≡ 0)

abbrev pub IsKind : Kind → Type 0
IsKind (Change home before after parts) = IsFew parts
IsKind (Undo next home after parts) = IsFew parts
IsKind Commit = Unit {0}
IsKind RolledBack = Unit {0}
IsKind (Purge parts) = (length parts ≤ 225) × AreFrees parts
IsKind (Switch copy pages) = (copy ≡ 1) ⊎ (copy ≡ 2)

-- Purge and Switch are no transaction's
abbrev pub HasTran : Kind → Record → Type 0
HasTran (Change home before after parts) entry = Unit {0}
HasTran (Undo next home after parts) entry = Unit {0}
HasTran Commit entry = Unit {0}
HasTran RolledBack entry = Unit {0}
HasTran (Purge parts) entry = IsOfNone entry
HasTran (Switch copy pages) entry = IsOfNone entry

-- a record that has a spelling
abbrev pub IsRecord : Record → Type 0
IsRecord entry = IsKind entry.kind × HasTran entry.kind entry

-- the most bytes that a record of a kind has
abbrev pub greatest : Kind → ℕ
greatest (Change home before after parts) = 1729
greatest (Undo next home after parts) = 909
greatest Commit = 21
greatest RolledBack = 21
greatest (Purge parts) = 1597
greatest (Switch copy pages) = 26
