-- A run is refused by the two tests before the first event; a course itself refuses nothing.
use Prim.Native.Nat.{ℕ, zero, suc}
use mathlib.Core.Bool.{true, false}
use mathlib.Core.List.{List}
use mathlib.Core.Path.{◌≡◌, refl, ap}
use native.Mathlib.Omega.{arith}
use borrow.Author.Tests.{leb-false, lt-leb}
use lib.Dec.{leb}
use lib.ListN.{length}
use Rattle.table.proofs.Laws.{by_test, by_pick}
use Rattle.trace.specs.Reading as reading
use Rattle.trace.specs.Reading.{read_event}
use Rattle.trace.proofs.Refusals.{writer_bad_event_exactly}
use Rattle.phy.specs.State.{valid_of}
use Rattle.phy.specs.declared.Phy.{Phy}
use Rattle.bay_laws.proofs.Refusals.{bad_event_exactly}
use Rattle.run.specs.Running.{Halt, at_end, at_budget, at_fault, refused, Course, onwards, taking}
use Rattle.run.specs.Laws.{BadStateExactly, NoRoomExactly, AsTheWriter, RefusedKeeps}

-- ---- which number a halt tells

-- one more than the number of a refusal before the first event, and 0 for every other halt
number_of : Halt → ℕ
number_of at_end = 0
number_of at_budget = 0
number_of (at_fault n place) = 0
number_of (refused n) = suc n

on_refuses_none : (t : reading.Told) (rest : ℕ → Course) → ((next : ℕ) → number_of (rest next).halt ≡ 0) → number_of (onwards t rest).halt ≡ 0
unfolding number_of
on_refuses_none (reading.event e next) rest h = h next
on_refuses_none reading.end rest h = refl
on_refuses_none (reading.refused n at) rest h = refl

refuses_none : (budget : ℕ) (s : List ℕ) (place : ℕ) → number_of (taking budget s place).halt ≡ 0
unfolding taking number_of
refuses_none zero s place = by_pick (λ h. number_of h ≡ 0) (leb (length s) place) (λ _. refl) (λ _. refl)
refuses_none (suc budget) s place = on_refuses_none (read_event s place) (taking budget s) (refuses_none budget s)

-- ---- by the two tests

pub by_tests : {A : Type 0} (p : Phy) (budget : ℕ) (buffer : List ℕ)
    → (valid_of p ≡ false → A)
    → (valid_of p ≡ true → leb budget (length buffer) ≡ false → A)
    → (valid_of p ≡ true → leb budget (length buffer) ≡ true → A)
    → A
by_tests p budget buffer a b c = by_test (valid_of p) (λ v. by_test (leb budget (length buffer)) (λ r. c v r) (λ r. b v r)) a

pub bad_state_exactly : BadStateExactly
unfolding number_of
bad_state_exactly p s budget buffer = (
  λ h. by_tests p budget buffer
      (λ v. v)
      (λ v r. absurd (let z = ap number_of (rw (v, r) at h) in omega arith))
      (λ v r. absurd (let z = ap number_of (rw (v, r) at h) in omega (arith, refuses_none budget s 0))),
  λ v. rw v refl,
)

pub no_room_exactly : NoRoomExactly
unfolding number_of
no_room_exactly p s budget buffer = (
  λ h. by_tests p budget buffer
      (λ v. absurd (let z = ap number_of (rw v at h) in omega arith))
      (λ v r. (v, leb-false budget (length buffer) r))
      (λ v r. absurd (let z = ap number_of (rw (v, r) at h) in omega (arith, refuses_none budget s 0))),
  λ t. rw (t.0, lt-leb budget (length buffer) t.1) refl,
)

pub refused_keeps : RefusedKeeps
unfolding number_of
refused_keeps p s budget buffer n h =
    by_tests p budget buffer
    (λ v. record { none_taken = rw v refl; same_state = rw v refl; same_bytes = rw v refl })
    (λ v r. record { none_taken = rw (v, r) refl; same_state = rw (v, r) refl; same_bytes = rw (v, r) refl })
    (λ v r. absurd (let z = ap number_of (rw (v, r) at h) in omega (arith, refuses_none budget s 0)))

-- ---- a bad event: the bay and the writer read the same table of arguments

pub as_the_writer : AsTheWriter
as_the_writer b e buffer place v =
    let steps = bad_event_exactly b e in
    let writes = writer_bad_event_exactly e buffer place in
    (λ q. writes.1 (steps.0 q).1, λ q. steps.1 (v, writes.0 q))
