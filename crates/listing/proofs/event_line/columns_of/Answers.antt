-- `listing::event_line::columns_of` meets its contract: each column is the definition's, the notice as `last_notice` gives it.
use Rattle.listing.proofs.event_line.columns_of.Goals as goal

pub returns : goal.returns
returns c = simp c.last_notice.ensures
