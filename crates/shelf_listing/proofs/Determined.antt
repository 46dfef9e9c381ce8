-- What comes next determines shelf, result and buffer.
use Rattle.table.proofs.Results.{by_equation}
use Rattle.lines.specs.Listing.{line_at}
use Rattle.lines.proofs.Determined.{listed_once}
use Rattle.shelf_listing.specs.Held.{fresh_shelf, of_shelf}
use Rattle.shelf_listing.specs.Laws.{Determined}

pub determined : Determined
determined =
    record {
      fresh = λ phys. by_equation (fresh_shelf phys);
      next_line = λ s progress h. listed_once (line_at of_shelf s progress h) h;
    }
