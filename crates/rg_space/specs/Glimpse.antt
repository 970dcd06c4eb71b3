-- What a slot says of a row.
use Rattle.std.specs.Prelude.{◌≡◌, option_map}
use Rattle.rg_base.specs.Values.{values_of}
use Rattle.rg_home.specs.Plan.{pointed_to}
use Rattle.rg_home.specs.Rows.{over_row, plain_row}
use Rattle.rg_home.specs.Slot.{Slot}
use Rattle.rg_space.specs.declared.look.Glimpse.{Glimpse}
use Rattle.rg_space.specs.declared.look.ValuesGlimpse.{ValuesGlimpse}

pub record IsGlimpse (seen : Glimpse) (s : Slot) : Type 0 where
  pub other : seen.other ≡ pointed_to s
  pub row : seen.row ≡ plain_row s
  pub moved : seen.moved ≡ over_row s

-- the same without the rows' texts
pub record IsValuesGlimpse (seen : ValuesGlimpse) (s : Slot) : Type 0 where
  pub other : seen.other ≡ pointed_to s
  pub values : seen.values ≡ option_map values_of (plain_row s)
  pub moved : seen.moved ≡ option_map values_of (over_row s)
