-- What is known of the layout of a new copy when a utility switches to it.
use Rattle.std.specs.Prelude.{◌≡◌, List, None}
use Rattle.std.specs.List.{AllByRecursion}
use Rattle.rg_base.specs.declared.options.Options.{Options}
use Rattle.rg_stmt.specs.declared.event.Entry.{Entry}
use Rattle.rg_stmt.specs.declared.layout.Side.{Side}
use Rattle.rg_stmt.specs.declared.layout.Spot.{Spot}
use Rattle.rg_model.specs.Packed.{packed_pages, packed_spots}
use Rattle.rg_model.specs.Right.{quiet_spots}
use Rattle.rg_model.specs.State.{Table}
use Rattle.rg_laws_utility.specs.TraceLocks.Rising.{InTurn, IsBelow}

-- the row lies at home
abbrev pub IsHome : Spot → Type 0
IsHome spot = spot.over ≡ None

-- the quiet rows lie at home, and rise by clus, then by key
pub record QuietRise (past : List Entry) (spots : List Spot) : Type 0 where
  pub rise : InTurn IsBelow (quiet_spots past spots)
  pub homes : AllByRecursion IsHome (quiet_spots past spots)

-- the layout has the pages and the spots of a copy that is packed
pub record IsPackedSide (options : Options) (table : Table) (side : Side) : Type 0 where
  pub pages : side.pages ≡ packed_pages options table
  pub spots : side.spots ≡ packed_spots options table
