-- `number::number_length` meets its contract: each turn takes one group off and counts it.
use Rattle.number.proofs.Loops.{Counted}
use Rattle.number.proofs.number_length.Given as goal

abbrev pub invariant-loop-rest : goal.invariant-loop-rest
invariant-loop-rest l = Counted l.value l.rest l.length

abbrev pub decreases-loop-rest : goal.decreases-loop-rest
decreases-loop-rest l = l.rest
