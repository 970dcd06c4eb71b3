use Rattle.rg_index.proofs.Listing.{fewer_rows}
use Rattle.rg_index.proofs.laws.listing_loses_row.Goals as goal

pub returns : goal.returns
returns c = fewer_rows
