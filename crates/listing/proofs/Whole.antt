-- What holds of every listing whose reading goes on holds of a phy's.
use Rattle.lines.proofs.Holds.{listing_holds}
use Rattle.listing.specs.Listing.{of_phy}
use Rattle.listing.specs.ReadsOn.{reads_on}
use Rattle.listing.specs.Laws.{PhyListing}

pub phy_listing : PhyListing
phy_listing = listing_holds of_phy reads_on
