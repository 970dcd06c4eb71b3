use Rattle.std.proofs.Common.{subst}
use Rattle.rg_btree.specs.Indexes.Listings.{AreListings}
use Rattle.rg_shadow.specs.Pieces.{shade_of}
use Rattle.rg_shadow.specs.Shade.{Shade, home_rows}
use Rattle.rg_shadow.proofs.shadow.Shadow.into_parts.Goals as goal

pub returns-clause-listings : goal.returns-clause-listings
returns-clause-listings c =
    subst (λ (s : Shade). AreListings (home_rows s) c.into_indexes.result) c.self.view_is
    (c.into_indexes.ensures (home_rows (shade_of c.self.inside.pieces)) c.self.invariant.kept)
