-- An event is read exactly where it stands. So it is known, and lies within the trace: each number on the way was in its range, and moved the place on.
use Prim.Native.Nat.{ℕ, zero, suc, ◌≤◌}
use mathlib.Core.Bool.{true≢false}
use mathlib.Core.List.{List}
use mathlib.Core.Path.{◌≡◌, refl, sym, ◌∙◌}
use native.Mathlib.Omega.{arith}
use lib.ListN.{length}
use Rattle.number.proofs.Refusals as number
use Rattle.event.specs.declared.Range.{Range}
use Rattle.trace.specs.Reading.{got, arguments}
use Rattle.trace.specs.Laws.{ArgumentsStand, none, one, EventExactly, ReadKnown, ReadWritten, ReadMovesOn}
use Rattle.trace.proofs.First.{code_good}
use Rattle.trace.proofs.Known.{AllWithin, known_is}
use Rattle.trace.proofs.Refusals.{writer_bad_event_exactly}
use Rattle.trace.proofs.Why.{because}

-- ---- exactly where it stands

arguments_read : {s : List ℕ} {ranges : List Range} {place : ℕ} {vs : List ℕ} {next : ℕ} → ArgumentsStand s ranges place vs next → arguments ranges s place ≡ got vs next
unfolding arguments
arguments_read none = refl
arguments_read (one e w a) = rw (e, w, arguments_read a) refl

pub event_exactly : EventExactly
event_exactly s place e next = (
  because s place,
  λ r. code_good s place r.inside r.reads r.coded ∙ rw (arguments_read r.rest, r.made) refl,
)

-- ---- so it is known, and lies within the trace

within_all : {s : List ℕ} {ranges : List Range} {place : ℕ} {vs : List ℕ} {next : ℕ} → ArgumentsStand s ranges place vs next → AllWithin ranges vs
within_all none k = refl
within_all (one e w a) zero = w
within_all (one e w a) (suc k) = within_all a k

pub read_known : ReadKnown
read_known s place e next h =
    let r = because s place h in
    rw r.made (known_is {vs = r.vs} (record { coded = r.coded; ranged = within_all r.rest }))

pub read_written : ReadWritten
read_written s place e next h buffer at b = true≢false (sym (read_known s place e next h) ∙ (writer_bad_event_exactly e buffer at).0 b)

moves : {s : List ℕ} {ranges : List Range} {place : ℕ} {vs : List ℕ} {next : ℕ} → ArgumentsStand s ranges place vs next → place ≤ length s → (place ≤ next) × (next ≤ length s)
moves none h = (omega arith, h)
moves (one {place = place} {v = v} {after = after} e w a) h =
    let m = number.read_moves_on _ place v after e in
    let n = moves a m.within in
    (omega arith, n.1)

pub read_moves_on : ReadMovesOn
read_moves_on s place e next h =
    let r = because s place h in
    let m = number.read_moves_on s place r.code r.after r.reads in
    let n = moves r.rest m.within in
    record { forward = omega arith; within = n.1 }
