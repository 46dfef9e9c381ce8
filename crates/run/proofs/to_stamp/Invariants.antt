-- `run::to_stamp` meets its contract: each turn takes one event off the definition, and what comes behind is read where it stops.
use Rattle.run.proofs.Loop.{Going}
use Rattle.run.proofs.to_stamp.Given as goal

abbrev pub invariant-loop-n : goal.invariant-loop-n
invariant-loop-n l = Going l.initial.state l.trace l.place l.count l.budget l.initial.buffer l.state l.at l.n l.buffer
