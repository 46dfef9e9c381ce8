-- `trace::event_at` meets its contract: the numbers' answer is told with the place of the first one.
use mathlib.Core.Path.{sym, ap, ◌∙◌}
use Rattle.trace.specs.Reading.{said}
use Rattle.trace.proofs.First.{at_end_lem, within_trace}
use Rattle.trace.proofs.event_at.Goals as goal

pub returns-then-trace-place : goal.returns-then-trace-place
returns-then-trace-place c = sym (at_end_lem _ _ c.if-trace-place.true)

pub returns-in-Ok : goal.returns-in-Ok
returns-in-Ok c = ap (said _) c.in-Ok.ensures ∙ sym (within_trace _ _ c.if-trace-place.false)

pub returns-in-Err : goal.returns-in-Err
returns-in-Err c = ap (said _) c.in-Err.ensures ∙ sym (within_trace _ _ c.if-trace-place.false)
