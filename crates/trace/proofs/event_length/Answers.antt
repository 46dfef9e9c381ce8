-- `trace::event_length` meets its contract: each turn adds the bytes of one number, ten at most.
use mathlib.Core.Path.{sym, ap, ◌∙◌}
use native.Mathlib.Omega.{arith}
use lib.ListN.{length}
use lib.Seq.{length-take-le}
use Rattle.trace.proofs.WriteLoop.{within_seven, sound, event_bytes_lem, counted_start, counted_on, counted_done}
use Rattle.trace.proofs.event_length.Goals as goal

pub overflow_add-numbers : goal.overflow_add-numbers
overflow_add-numbers c = omega (arith, within_seven {e = c.args.e} c.argument_count-count.ensures c.all_numbers-numbers.ensures)

pub slice_bounds-numbers-end : goal.slice_bounds-numbers-end
slice_bounds-numbers-end c = (within_seven {e = c.args.e} c.argument_count-count.ensures c.all_numbers-numbers.ensures).0

pub slice_bounds-number-items-end : goal.slice_bounds-number-items-end
slice_bounds-number-items-end c = sym (length-take-le _ _ (within_seven {e = c.args.e} c.argument_count-count.ensures c.all_numbers-numbers.ensures).0)

pub loop-number-init : goal.loop-number-init
loop-number-init c = counted_start (sound c.requires c.argument_count-count.ensures c.all_numbers-numbers.ensures)

pub overflow_add-length : goal.overflow_add-length
overflow_add-length c = omega (arith, c.number_length-length.ensures, c.loop-number-test.true, (counted_on c.loop-number.invariant c.loop-number-test.true).most, c.loop-number.invariant.fine.few)

pub loop-number-preserved : goal.loop-number-preserved
loop-number-preserved c = rw c.number_length-length.ensures (counted_on c.loop-number.invariant c.loop-number-test.true)

pub returns : goal.returns
returns c =
    counted_done c.loop-number.invariant c.loop-number-test.false
    ∙ ap length (event_bytes_lem c.argument_count-count.ensures c.all_numbers-numbers.ensures)
