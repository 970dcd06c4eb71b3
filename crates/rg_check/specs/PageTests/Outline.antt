-- A slot without the bytes of its row.
use Rattle.rg_home.specs.Slot.{Slot}
use Rattle.rg_home.specs.Slot as Is
use Rattle.rg_check.specs.declared.page_tests.outline.Outline.{Outline}
use Rattle.rg_check.specs.declared.page_tests.outline.Outline.TheVariants.{Free, Row, Pointer, Over}
use Rattle.rg_check.specs.declared.page_tests.outline.Outline.TheVariants.{DeadRow, DeadPointer}
use Rattle.rg_check.specs.declared.page_tests.outline.Outline.TheVariants.{DeadOver}

abbrev pub outline_of : Slot → Outline
outline_of Is.Free = Free
outline_of (Is.Row capacity row) = Row capacity
outline_of (Is.Pointer capacity other) = Pointer capacity other
outline_of (Is.Over capacity row home) = Over capacity home
outline_of (Is.DeadRow capacity owner) = DeadRow capacity
outline_of (Is.DeadPointer capacity other owner) =
    DeadPointer capacity other (record { 0 = owner })
outline_of (Is.DeadOver capacity home owner) = DeadOver capacity home
