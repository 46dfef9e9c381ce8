-- What comes next determines bay, result and buffer.
use Rattle.lines.specs.Listing.{line_at}
use Rattle.lines.proofs.Determined.{listed_once}
use Rattle.listing.specs.Listing.{of_phy}
use Rattle.listing.specs.Laws.{Determined}

pub determined : Determined
determined = record { next_line = λ s progress b. listed_once (line_at of_phy s progress b) b }
