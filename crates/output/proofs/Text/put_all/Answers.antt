-- `output::Text::put_all` meets its contract: what has room is written at once.
use Rattle.std.proofs.Common.{refl}
use Rattle.output.proofs.Places.{puts_run}
use Rattle.output.proofs.Text.put_all.Goals as goal

pub returns : goal.returns
returns c = record { puts = puts_run _ _ _ _ _ _ c.min-at.ensures c.min-fits.ensures c.copy_from_slice.ensures.after; same_buffer = refl }
