-- A run is refused by the two tests before the first event; a course itself refuses nothing.
use Prim.Native.Nat.{ℕ, zero, suc}
use mathlib.Core.Bool.{true, false}
use mathlib.Core.List.{List}
use mathlib.Core.Path.{◌≡◌, refl}
use native.Mathlib.Omega.{arith}
use borrow.Author.Tests.{leb-true, leb-false, le-leb, lt-leb}
use lib.Dec.{leb}
use lib.ListN.{length}
use Rattle.table.proofs.Laws.{by_test, by_pick}
use Rattle.bay.specs.declared.Bay.{Bay}
use Rattle.shelf.specs.Reading.{ToldShelf, shelf_event, shelf_end, shelf_refused, read_shelf}
use Rattle.run.specs.Running.{Halt}
use Rattle.replies.specs.Replies.{stop_reply}
use Rattle.shelf_run.specs.Running.{Course, onwards, taking, sound_lent}
use Rattle.shelf_run.specs.Laws.{BadStateExactly, NoRoomExactly, NotRefusedExactly, RefusedKeeps}

-- ---- a course

abbrev RefusesNone : Halt → Type 0
RefusesNone halt = (stop_reply halt).refusal ≡ 0

on_refuses_none : (t : ToldShelf) (rest : ℕ → Course) → ((next : ℕ) → RefusesNone (rest next).halt) → RefusesNone (onwards t rest).halt
on_refuses_none (shelf_event e next) rest h = h next
on_refuses_none shelf_end rest h = refl
on_refuses_none (shelf_refused n at) rest h = refl

refuses_none : (budget : ℕ) (s : List ℕ) (place : ℕ) → RefusesNone (taking budget s place).halt
unfolding taking
refuses_none zero s place = by_pick RefusesNone (leb (length s) place) (λ _. refl) (λ _. refl)
refuses_none (suc budget) s place = on_refuses_none (read_shelf s place) (taking budget s) (refuses_none budget s)

-- ---- by the two tests

pub by_tests : {A : Type 0} (row : List Bay) (numbers : List ℕ) (budget : ℕ) (buffer : List ℕ)
    → (sound_lent row numbers ≡ false → A)
    → (sound_lent row numbers ≡ true → leb budget (length buffer) ≡ false → A)
    → (sound_lent row numbers ≡ true → leb budget (length buffer) ≡ true → A)
    → A
by_tests row numbers budget buffer a b c = by_test (sound_lent row numbers) (λ v. by_test (leb budget (length buffer)) (λ r. c v r) (λ r. b v r)) a

pub bad_state_exactly : BadStateExactly
bad_state_exactly row numbers s budget buffer = (
  λ h. by_tests row numbers budget buffer
      (λ v. v)
      (λ v r. absurd (let z = rw (v, r) at h in omega arith))
      (λ v r. absurd (let z = rw (v, r, refuses_none budget s 0) at h in omega arith)),
  λ v. rw v refl,
)

pub no_room_exactly : NoRoomExactly
no_room_exactly row numbers s budget buffer = (
  λ h. by_tests row numbers budget buffer
      (λ v. absurd (let z = rw v at h in omega arith))
      (λ v r. (v, leb-false budget (length buffer) r))
      (λ v r. absurd (let z = rw (v, r, refuses_none budget s 0) at h in omega arith)),
  λ t. rw (t.0, lt-leb budget (length buffer) t.1) refl,
)

pub not_refused_exactly : NotRefusedExactly
not_refused_exactly row numbers s budget buffer = (
  λ h. by_tests row numbers budget buffer
      (λ v. absurd (let z = rw v at h in omega arith))
      (λ v r. absurd (let z = rw (v, r) at h in omega arith))
      (λ v r. (v, leb-true budget (length buffer) r)),
  λ t. rw (t.0, le-leb budget (length buffer) t.1) (refuses_none budget s 0),
)

pub refused_keeps : RefusedKeeps
refused_keeps row numbers s budget buffer h =
    by_tests row numbers budget buffer
    (λ v. record { says = rw v refl; same_row = rw v refl; same_numbers = rw v refl; same_bytes = rw v refl })
    (λ v r. record { says = rw (v, r) refl; same_row = rw (v, r) refl; same_numbers = rw (v, r) refl; same_bytes = rw (v, r) refl })
    (λ v r. absurd (h (rw (v, r) (refuses_none budget s 0))))
