-- `run::take_events` meets its contract: each turn goes on to a stamp and takes it, and stops where the events before it stop.
use native.Mathlib.Omega.{arith}
use Rattle.run.proofs.Loop.{stage_start, stage_ready, stamp_left, stamp_room, stamp_on, no_more}
use Rattle.run.proofs.take_events.Goals as goal

pub loop-stamp-init : goal.loop-stamp-init
loop-stamp-init c = stage_start _ _ _ _ c.requires.valid c.requires.room

pub to_stamp-gone-requires : goal.to_stamp-gone-requires
to_stamp-gone-requires c = stage_ready c.loop-stamp.invariant

pub bounds-buffer-gone : goal.bounds-buffer-gone
bounds-buffer-gone c = stamp_room c.loop-stamp.invariant c.to_stamp-gone.ensures c.in-Ok.is

pub overflow_add-count : goal.overflow_add-count
overflow_add-count c = omega (arith, stamp_left c.loop-stamp.invariant c.to_stamp-gone.ensures c.in-Ok.is, c.ranges.budget.fits)

pub loop-stamp-smaller : goal.loop-stamp-smaller
loop-stamp-smaller c = omega (arith, stamp_left c.loop-stamp.invariant c.to_stamp-gone.ensures c.in-Ok.is, c.to_stamp-gone.ensures.far)

pub loop-stamp-preserved : goal.loop-stamp-preserved
loop-stamp-preserved c = stamp_on c.loop-stamp.invariant c.to_stamp-gone.ensures c.in-Ok.is c.stamped-r.ensures c.byte_for.ensures

pub returns-in-Err : goal.returns-in-Err
returns-in-Err c = no_more c.loop-stamp.invariant c.to_stamp-gone.ensures c.stopped.result c.in-Err.is c.stopped.ensures
