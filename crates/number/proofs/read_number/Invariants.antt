-- `number::read_number` meets its contract: each turn takes one group off the definition, and the groups passed stay below their weight.
use Prim.Native.Nat.{◌+◌}
use Rattle.number.proofs.Loops.{Passed}
use Rattle.number.proofs.read_number.Given as goal

abbrev pub invariant-loop-i : goal.invariant-loop-i
invariant-loop-i l = Passed l.s l.place (l.next + l.i) l.value l.weight
