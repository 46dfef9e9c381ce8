-- What holds of every listing whose reading goes on holds of a shelf's; and a shelf of fresh bays lists as the port that it holds.
use Rattle.std.proofs.Common.{ℕ, List, subst}
use Rattle.port.specs.State.{fresh_port}
use Rattle.lines.specs.Listing as lines
use Rattle.lines.specs.Laws.{Listing}
use Rattle.lines.proofs.Holds.{listing_holds}
use Rattle.lines.proofs.Alike.{lists_alike}
use Rattle.shelf_listing.specs.Listing.{of_port, Lists}
use Rattle.shelf_listing.specs.Held.{fresh_shelf, of_shelf}
use Rattle.shelf_listing.specs.ReadsOn.{port_reads_on, reads_on}
use Rattle.shelf_listing.specs.Laws.{PortListing, LinesAreListing}
use Rattle.shelf_listing.proofs.Alike.{Holds, alike, holds_fresh}

pub port_listing : PortListing
port_listing = listing_holds of_port port_reads_on

pub shelf_listing : Listing of_shelf
shelf_listing = listing_holds of_shelf reads_on

pub lines_are_listing : LinesAreListing
lines_are_listing n s bytes some few =
    let as-port : (bs : List ℕ) → lines.Lists of_shelf (fresh_shelf n) s bs → Lists n s bs = λ bs l. lists_alike of_shelf of_port Holds alike (fresh_shelf n) (fresh_port n) s bs (holds_fresh n some few) l in
    let own = shelf_listing.exists (fresh_shelf n) s in (
      λ l. as-port bytes ((shelf_listing.lines (fresh_shelf n) s bytes).0 l),
      λ l. (shelf_listing.lines (fresh_shelf n) s bytes).1 (subst (lines.Lists of_shelf (fresh_shelf n) s) (port_listing.once (fresh_port n) s own.bytes bytes (as-port own.bytes own.lists) l) own.lists),
    )
