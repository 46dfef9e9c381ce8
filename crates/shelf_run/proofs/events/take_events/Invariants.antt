-- `shelf_run::events::take_events` meets its contract: what is left of the trace, gone through from here, gives the whole.
use Rattle.shelf_run.specs.Stages.{going}
use Rattle.shelf_run.proofs.Loop.{Stage}
use Rattle.shelf_run.proofs.events.take_events.Given as goal

abbrev pub invariant-loop-count : goal.invariant-loop-count
invariant-loop-count l = Stage (going l.budget l.trace 0 l.initial.stands l.initial.table.bays l.initial.queue) l.trace l.budget l.initial.buffer l.stands l.table.bays l.queue l.place l.count l.buffer
