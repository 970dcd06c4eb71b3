-- Laws of redo.
--
-- 1. Records that fit leave sound pages sound (`RedoIsSound`).
-- 2. Where the records of a log follow from each other, those after the last Switch name no page
--    but those of the current copy. That copy is 1 or 2, and its set has room for its pages
--    (`CurrentCovers`).
use Rattle.std.specs.Prelude.{◌≡◌, ◌≤◌, ◌⊎◌, List}
use Rattle.rg_image.specs.Kept.{AreEntries}
use Rattle.rg_image.specs.Meaning.{current_of}
use Rattle.rg_image.specs.Rules.{IsChain, copy_capacity}
use Rattle.rg_outside.specs.Capacities.{Capacities}
use Rattle.rg_page.specs.Content.{Content, slots_of}
use Rattle.rg_record.specs.declared.record.Record.{Record}
use Rattle.rg_redo.specs.Redo.{AllRedoFit, redone_all}
use Rattle.rg_redo.specs.CurrentCopy.Rebuilt.{AreSoundPages, CanRebuild}

-- what a redo leaves is sound
abbrev pub RedoIsSound : Type 0
RedoIsSound =
    (rs : List Record) (pages : List Content) → AllRedoFit rs pages → AreSoundPages (slots_of pages)
    → AreSoundPages (slots_of (redone_all rs pages))

-- The records after the last Switch name no page but those of the current copy, which is 1 or 2.
-- Its set has room for them.
pub record CoversAll (capacities : Capacities) (rs : List Record) : Type 0 where
  pub can : CanRebuild (current_of rs).pages rs
  pub within : (current_of rs).pages ≤ copy_capacity capacities (current_of rs).copy
  pub copy : ((current_of rs).copy ≡ 1) ⊎ ((current_of rs).copy ≡ 2)

-- so it is of each log whose records follow from each other
abbrev pub CurrentCovers : Type 0
CurrentCovers =
    (capacities : Capacities) (rs : List Record) → IsChain capacities rs → AreEntries rs
    → CoversAll capacities rs
