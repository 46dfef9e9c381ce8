-- `number::write_number` meets its contract: the length found is that of the bytes, and each turn of the loop stores one of them.
use Rattle.number.proofs.Loops.{Writing}
use Rattle.number.proofs.write_number.Given as goal

abbrev pub invariant-loop-rest : goal.invariant-loop-rest
invariant-loop-rest l = Writing l.value l.initial.buffer l.place l.buffer l.rest l.at

abbrev pub decreases-loop-rest : goal.decreases-loop-rest
decreases-loop-rest l = l.rest
