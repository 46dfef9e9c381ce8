-- What holds of every listing whose reading goes on, gathered: its lines are it, and its last line and its outcome tell the truth.
use Rattle.lines.specs.Listing.{Listable}
use Rattle.lines.specs.Laws.{ListingHolds}
use Rattle.lines.proofs.Ends.{lines_fall, written_advances}
use Rattle.lines.proofs.Whole.{listing_exists, listing_once, lines_are_listing}
use Rattle.lines.proofs.Outcome.{whole_exactly}
use Rattle.lines.proofs.LastLine.{end_tells}

pub listing_holds : {S E : Type 0} (m : Listable S E) → ListingHolds m
listing_holds m on =
    record {
      falls = lines_fall m on;
      advances = written_advances m on;
      exists = listing_exists m on;
      once = listing_once m on;
      lines = lines_are_listing m on;
      whole = whole_exactly m;
      end_tells = end_tells m on;
    }
