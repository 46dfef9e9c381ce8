-- `trace::event_length` meets its contract: each turn adds the bytes of one number, ten at most.
use Rattle.trace.proofs.WriteLoop.{Counted}
use Rattle.trace.proofs.event_length.Given as goal

abbrev pub invariant-loop-number : goal.invariant-loop-number
invariant-loop-number l = Counted l.number-items l.length l.number-index
