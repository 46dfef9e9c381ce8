-- `lister::list` ends: a line leaves fewer to come, and writing leaves less in the buffer.
use Rattle.std.proofs.Common.{◌+◌, ◌*◌, ◌≡◌, ◌≤◌, length}
use Rattle.lines.specs.Laws.{lines_left}
use Rattle.lister.proofs.Leads.{Leads}
use Rattle.lister.proofs.list.Given as goal

abbrev pub invariant-loop-next : goal.invariant-loop-next
invariant-loop-next g l =
    record { room : length l.text.out.now ≡ 65536; held : l.text.n ≤ 65536; leads : Leads g.L.Listing.listable l.fn.from l.fn.trace l.fn.total l.progress l.state }

abbrev pub decreases-loop-next : goal.decreases-loop-next
decreases-loop-next g l = lines_left l.fn.trace l.progress * 65537 + l.text.n
