-- `trace::write_numbers` meets its contract: each turn stores the bytes of one number, and room for the rest is left.
use Rattle.std.proofs.Common.{sym, ap, ◌∙◌, arith}
use Rattle.std.proofs.lemmas.List.Edits.{sets}
use lib.Seq.{length-take-le}
use Rattle.trace.proofs.WriteLoop.{within_seven, event_bytes_lem, filling_start, filling_room, filling_on, filling_done}
use Rattle.trace.proofs.write_numbers.Goals as goal

pub overflow_add-numbers : goal.overflow_add-numbers
overflow_add-numbers c = omega (arith, within_seven {e = c.args.e} c.argument_count-count.ensures c.all_numbers-numbers.ensures)

pub slice_bounds-numbers-end : goal.slice_bounds-numbers-end
slice_bounds-numbers-end c = (within_seven {e = c.args.e} c.argument_count-count.ensures c.all_numbers-numbers.ensures).0

pub slice_bounds-number-items-end : goal.slice_bounds-number-items-end
slice_bounds-number-items-end c = sym (length-take-le _ _ (within_seven {e = c.args.e} c.argument_count-count.ensures c.all_numbers-numbers.ensures).0)

pub loop-number-init : goal.loop-number-init
loop-number-init c =
    filling_start c.args.buffer.now c.args.place
    (rw (event_bytes_lem {e = c.args.e} c.argument_count-count.ensures c.all_numbers-numbers.ensures) c.requires.room)

pub unwrap-at-requires : goal.unwrap-at-requires
unwrap-at-requires c = filling_room c.loop-number.invariant c.loop-number-test.true _ c.write_number.ensures

pub loop-number-preserved : goal.loop-number-preserved
loop-number-preserved c = filling_on c.loop-number.invariant c.loop-number-test.true (rw c.unwrap-at.ensures at c.write_number.ensures)

pub returns : goal.returns
returns c =
    filling_done c.loop-number.invariant c.loop-number-test.false
    ∙ ap (sets _ _) (event_bytes_lem c.argument_count-count.ensures c.all_numbers-numbers.ensures)
