use Rattle.rg_index.proofs.Listing.{listing_is}
use Rattle.rg_index.proofs.laws.listing_is_layouts.Goals as goal

pub returns : goal.returns
returns c = listing_is
