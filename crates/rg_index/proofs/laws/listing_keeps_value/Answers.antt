use Rattle.rg_index.proofs.Listing.{same_rows}
use Rattle.rg_index.proofs.laws.listing_keeps_value.Goals as goal

pub returns : goal.returns
returns c = same_rows
