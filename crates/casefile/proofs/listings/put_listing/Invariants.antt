-- `put_listing` ends: a line leaves fewer to come.
use Rattle.lines.specs.Laws.{lines_left}
use Rattle.casefile.proofs.listings.put_listing.Given as goal

abbrev pub decreases-loop-next : goal.decreases-loop-next
decreases-loop-next g l = lines_left l.fn.trace l.progress
