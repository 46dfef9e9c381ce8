-- `trace::write_numbers` meets its contract: each turn stores the bytes of one number, and room for the rest is left.
use Rattle.trace.proofs.WriteLoop.{Filling}
use Rattle.trace.proofs.write_numbers.Given as goal

abbrev pub invariant-loop-number : goal.invariant-loop-number
invariant-loop-number l = Filling l.number-items l.initial.buffer l.place l.buffer l.at l.number-index
