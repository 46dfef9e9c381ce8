-- An event is read exactly where the phy's number stands and the event behind it. So it is known and lies within the trace, by the laws of both.
use mathlib.Core.Bool.{true≢false}
use mathlib.Core.Path.{sym, ◌∙◌}
use native.Mathlib.Omega.{arith}
use Rattle.number.proofs.Refusals as number
use Rattle.trace.proofs.Accepted as trace
use Rattle.shelf.specs.Laws.{EventExactly, ReadKnown, ReadWritten, ReadMovesOn}
use Rattle.shelf.proofs.First.{number_read}
use Rattle.shelf.proofs.Why.{because}
use Rattle.shelf.proofs.Written.{writer_bad_event_exactly}

pub event_exactly : EventExactly
event_exactly s place e next = (
  λ h.
      let r = because s place h in
      record { behind = r.behind; reads = r.reads; stands = (trace.event_exactly s r.behind e.event next).0 r.event },
  λ r. number_read s place r.reads ((trace.event_exactly s r.behind e.event next).1 r.stands),
)

pub read_known : ReadKnown
read_known s place e next h = let r = because s place h in trace.read_known s r.behind e.event next r.event

pub read_written : ReadWritten
read_written s place e next h buffer at b = true≢false (sym (read_known s place e next h) ∙ (writer_bad_event_exactly e buffer at).0 b)

pub read_moves_on : ReadMovesOn
read_moves_on s place e next h =
    let r = because s place h in
    let m = number.read_moves_on s place e.number r.behind r.reads in
    let n = trace.read_moves_on s r.behind e.event next r.event in
    record { forward = omega arith; within = n.within }
