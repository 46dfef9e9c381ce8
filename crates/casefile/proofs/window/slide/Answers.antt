-- `casefile::window::slide` meets its contract: the part ahead is cut to the window, and what is read comes behind it.
use Rattle.std.proofs.Common.{arith}
use Rattle.casefile.proofs.Sliding.{more_ahead}
use Rattle.casefile.proofs.window.slide.Goals as goal

pub returns : goal.returns
returns g c =
    let cut = c.min-to.ensures in
    let read = c.read_full-more in
    rw cut (more_ahead _ _ (omega (arith, cut, c.if-to-from.false)) read.new.buffer (rw cut at c.if-ahead-to.false) (rw cut at c.copy_within.ensures.after) c.copy_within.ensures.len (rw cut at read.auto.buffer) read.ensures)
