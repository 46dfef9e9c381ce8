-- `trace::read_arguments` meets its contract: each turn takes one argument off the definition, and a fault is the whole answer.
use Rattle.trace.proofs.ReadLoop.{Taken}
use Rattle.trace.proofs.read_arguments.Given as goal

abbrev pub invariant-loop-i : goal.invariant-loop-i
invariant-loop-i l = Taken l.s l.code l.place l.values l.next l.i
