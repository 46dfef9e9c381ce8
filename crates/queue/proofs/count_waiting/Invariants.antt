-- `queue::count_waiting` meets its contract: each turn takes one Open off the definition.
use Rattle.queue.proofs.Loops.{Counted}
use Rattle.queue.proofs.count_waiting.Given as goal

abbrev pub invariant-loop-waiting : goal.invariant-loop-waiting
invariant-loop-waiting l = Counted l.queue l.waiting
