-- `number::write_number` meets its contract: the length found is that of the bytes, and each turn of the loop stores one of them.
use native.Mathlib.Omega.{arith}
use Rattle.number.proofs.Loops.{writing_start, writing_on, writing_done, no_room_lem, with_room}
use Rattle.number.proofs.write_number.Goals as goal
use Rattle.number.proofs.write_number.Goals.{then-buffer-place-via-then-buffer-place, then-buffer-place-via-else-buffer-place+then-buffer-place-2}

pub returns-then-buffer-place : goal.returns-then-buffer-place
returns-then-buffer-place c =
    let long = c.number_length-length.ensures in
    no_room_lem _ _ _
    (elim c.then-buffer-place.branch [ then-buffer-place-via-then-buffer-place w ↦ omega (arith, w.if-buffer-place.true) | then-buffer-place-via-else-buffer-place+then-buffer-place-2 w ↦ omega (arith, w.if-buffer-place-2.true, long) ])

pub loop-rest-init : goal.loop-rest-init
loop-rest-init c =
    writing_start c.args.value c.args.buffer.now c.args.place c.ranges.value.fits
    (omega (arith, c.number_length-length.ensures))

pub bounds-buffer-at : goal.bounds-buffer-at
bounds-buffer-at c = (writing_on c.loop-rest.invariant c.loop-rest-test.true).0

pub loop-rest-preserved : goal.loop-rest-preserved
loop-rest-preserved c = (writing_on c.loop-rest.invariant c.loop-rest-test.true).1

pub bounds-buffer-at-2 : goal.bounds-buffer-at-2
bounds-buffer-at-2 c = (writing_done c.loop-rest.invariant c.loop-rest-test.false).0

pub returns : goal.returns
returns c =
    with_room _ _ _ _ _ (omega (arith, c.number_length-length.ensures)) c.number_length-length.ensures
    (writing_done c.loop-rest.invariant c.loop-rest-test.false).1
