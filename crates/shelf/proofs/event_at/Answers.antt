-- `shelf::event_at` meets its contract: the number's answer is the definition's, and behind it the event's.
use Rattle.std.proofs.Common.{sym}
use Rattle.shelf.proofs.First.{at_end_lem, number_fault, number_read}
use Rattle.shelf.proofs.event_at.Goals as goal

pub returns-then-trace-place : goal.returns-then-trace-place
returns-then-trace-place c = sym (at_end_lem _ _ c.if-trace-place.true)

pub returns-in-Err : goal.returns-in-Err
returns-in-Err c = sym (number_fault _ _ c.if-trace-place.false (sym c.in-Err.ensures))

pub returns-in-Ok-Some : goal.returns-in-Ok-Some
returns-in-Ok-Some c = sym (number_read _ _ (sym c.in-Ok.ensures) (sym (rw c.in-Ok-Some.field-0-is at c.in-Ok-Some.ensures)))

pub returns-in-Ok-None : goal.returns-in-Ok-None
returns-in-Ok-None c = sym (number_read _ _ (sym c.in-Ok.ensures) (sym (rw c.in-Ok-None.field-0-is at c.in-Ok-None.ensures)))

pub returns-in-Err-event_at : goal.returns-in-Err-event_at
returns-in-Err-event_at c = sym (number_read _ _ (sym c.in-Ok.ensures) (sym c.in-Err-event_at.ensures))
