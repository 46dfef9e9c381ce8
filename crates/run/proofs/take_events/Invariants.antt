-- `run::take_events` meets its contract: each turn goes on to a stamp and takes it, and stops where the events before it stop.
use Prim.Native.Nat.{◌-◌}
use Rattle.run.specs.Stages.{Stage}
use Rattle.run.proofs.take_events.Given as goal

abbrev pub invariant-loop-stamp : goal.invariant-loop-stamp
invariant-loop-stamp l = Stage l.initial.state l.trace l.budget l.initial.buffer l.state l.place l.count l.buffer

abbrev pub decreases-loop-stamp : goal.decreases-loop-stamp
decreases-loop-stamp l = l.budget - l.count
