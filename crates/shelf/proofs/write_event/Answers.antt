-- `shelf::write_event` meets its contract: without room for the number the event is judged alone, else `trace::write_event` judges it.
use Rattle.std.proofs.Common.{sym, arith}
use Rattle.std.proofs.lemmas.Result.{err_from_is_err_and}
use Rattle.shelf.proofs.WriteOrder.{long, no_room_lem, event_refused, number_written, both_written}
use Rattle.shelf.proofs.write_event.Goals as goal

pub returns-then-known_in_trace : goal.returns-then-known_in_trace
returns-then-known_in_trace c =
    no_room_lem _ _ _ (sym c.if-known_in_trace.ensures)
    (omega (arith, c.saturating_sub.ensures, long c.args.e, c.number_length-ahead.ensures))

pub returns-in_err-length : goal.returns-in_err-length
returns-in_err-length c =
    let p = err_from_is_err_and c.from_residual.result c.from_residual.ensures.1 in
    rw (p.1, p.2) (event_refused c.args.e c.args.buffer.now c.args.place c.number_length-ahead.ensures _ c.in_err-length.ensures)

pub returns-in_err-write_number : goal.returns-in_err-write_number
returns-in_err-write_number c =
    absurd (number_written c.args.e c.args.buffer.now c.args.place c.number_length-ahead.ensures c.in_ok-length.ensures _ c.in_err-write_number.ensures)

pub returns : goal.returns
returns c =
    both_written c.args.e c.args.buffer.now c.args.place c.number_length-ahead.ensures c.in_ok-length.ensures c.write_number.ensures.leaves
