use Rattle.rg_index.proofs.Listing.{one_listing}
use Rattle.rg_index.proofs.laws.listing_is_one.Goals as goal

pub returns : goal.returns
returns c = one_listing
