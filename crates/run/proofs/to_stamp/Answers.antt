-- `run::to_stamp` meets its contract: each turn takes one event off the definition, and what comes behind is read where it stops.
use mathlib.Core.Path.{sym}
use native.Mathlib.Omega.{arith}
use Rattle.trace.proofs.Refusals.{end_exactly}
use Rattle.run.proofs.Loop.{going_start, going_room, going_on, going_spent, goes_to_stamp, goes_to_budget, goes_to_fault, goes_to_end}
use Rattle.run.proofs.to_stamp.Goals as goal

pub loop-n-init : goal.loop-n-init
loop-n-init c = going_start c.requires

pub returns-then-event-eq-TIME_STAMP : goal.returns-then-event-eq-TIME_STAMP
returns-then-event-eq-TIME_STAMP c = goes_to_stamp c.loop-n.invariant c.went.result c.loop-n-test.true (sym (rw c.in-Ok-Some.field-0-is at c.in-Ok-Some.ensures)) c.if-event-eq-TIME_STAMP.true c.went.ensures

pub bounds-buffer-n : goal.bounds-buffer-n
bounds-buffer-n c = going_room c.loop-n.invariant c.requires.room c.loop-n-test.true

pub loop-n-preserved : goal.loop-n-preserved
loop-n-preserved c = going_on c.loop-n.invariant c.loop-n-test.true (sym (rw c.in-Ok-Some.field-0-is at c.in-Ok-Some.ensures)) c.if-event-eq-TIME_STAMP.false c.moved-r.ensures c.byte_for.ensures

pub returns-in-Ok-None : goal.returns-in-Ok-None
returns-in-Ok-None c = goes_to_end c.loop-n.invariant c.went-in-Ok-None.result ((end_exactly _ _).0 (sym (rw c.in-Ok-None.field-0-is at c.in-Ok-None.ensures))) c.went-in-Ok-None.ensures

pub returns-in-Err : goal.returns-in-Err
returns-in-Err c = goes_to_fault c.loop-n.invariant c.went-in-Err.result c.loop-n-test.true (sym c.in-Err.ensures) c.went-in-Err.ensures

pub returns-then-at-trace : goal.returns-then-at-trace
returns-then-at-trace c = goes_to_budget (going_spent c.loop-n.invariant c.loop-n-test.false) c.went-then-at-trace.result c.if-at-trace.true (omega arith) c.went-then-at-trace.ensures

pub returns : goal.returns
returns c = goes_to_end (going_spent c.loop-n.invariant c.loop-n-test.false) c.went-2.result c.if-at-trace.false c.went-2.ensures
