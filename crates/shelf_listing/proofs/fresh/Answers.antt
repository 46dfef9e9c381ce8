-- `shelf_listing::fresh` meets its contract: its row is fresh and its queue has no Open.
use Rattle.shelf_listing.proofs.fresh.Goals as goal

pub returns : goal.returns
returns c = simp c.fresh.ensures
