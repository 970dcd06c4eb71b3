-- What a new copy keeps that was loaded, and what it is of the table.
--
-- 1. While its indexes are sorted and built it stays as it was packed (`PackedStays`).
-- 2. Where all pages were copied, and nothing has changed since the start, the rows at its homes
--    are the table. Whichever keys are quiet, their rows lie right; and its layout is that of a
--    packed copy of the table (`PackedIsRight`).
use Rattle.std.specs.Prelude.{◌≡◌, ℕ, Bool, true, List, Option, length}
use Rattle.std.specs.List.Sorted.{IsPermutation}
use Rattle.rg_base.specs.declared.options.Options.{Options}
use Rattle.rg_base.specs.declared.place.Place.{Place}
use Rattle.rg_base.specs.declared.row.Row.{Row}
use Rattle.rg_base.specs.declared.which.Which.{Which}
use Rattle.rg_feed.specs.Fold.Fed.{Fed, Progress}
use Rattle.rg_feed.specs.Fold.Fold.{copied_rows, since_begin}
use Rattle.rg_feed.specs.Fold.Lawful.{Lawful}
use Rattle.rg_feed.specs.declared.fold.item.Item.{Item}
use Rattle.rg_layout.specs.Spots.{spots_of}
use Rattle.rg_home.specs.Table.{IsTable}
use Rattle.rg_translate.specs.Load.Loaded.{IsPacked}
use Rattle.rg_model.specs.Right.{are_quiet_right, is_packed}
use Rattle.rg_model.specs.State.{Table, row_of}
use Rattle.rg_reload.specs.Order.{IsInOrder}
use Rattle.rg_shadow.specs.Pieces.{IsMapped}
use Rattle.rg_shadow.specs.Shade.{Shade, home_rows, shade_slots, with_stage}
use Rattle.rg_shadow.specs.declared.drafts.IndexStage.{IndexStage}
use Rattle.rg_stmt.specs.declared.event.Entry.{Entry}
use Rattle.rg_stmt.specs.declared.layout.Side.{Side}

abbrev pub PackedStays : Type 0
PackedStays =
    (options : Options) (rows : List (Place × Row)) (which : Which) (stage : IndexStage)
    (s : Shade) → IsPacked options rows s → IsPacked options rows (with_stage which stage s)

-- `rows` are those of all copies, in the order of a new copy
pub record AreLoadedRows (feed : List Item) (progress : Progress) (rows : List (Place × Row))
    : Type 0 where
  pub lawful : Lawful (since_begin feed)
  pub all : progress.copied ≡ progress.pages
  pub still : progress.changes ≡ 0
  pub moved : IsPermutation (copied_rows (since_begin feed)) rows
  pub order : IsInOrder rows

-- what a new copy is of the table, and its layout
pub record IsRightCopy
    (options : Options) (past : List Entry) (s : Shade) (t : Table) (side : Side) : Type 0 where
  pub table : IsTable (home_rows s) (row_of t)
  pub quiet : are_quiet_right past side.spots ≡ true
  pub packed : is_packed options t side ≡ true

abbrev pub PackedIsRight : Type 0
PackedIsRight =
    (row_at : Place → Option Row) (is_quiet : ℕ → Bool) (progress : Progress) (feed : List Item)
    (options : Options) (rows : List (Place × Row)) (s : Shade) (past : List Entry) (t : Table)
    (side : Side)
    → Fed row_at is_quiet progress feed → AreLoadedRows feed progress rows
    → IsPacked options rows s → IsMapped s.targets (home_rows s) → IsTable row_at (row_of t)
    → side.pages ≡ length s.pages → side.spots ≡ spots_of (shade_slots s)
    → IsRightCopy options past s t side
