-- The phy number, which stands first: what reading says by what stands there, and behind it by what is read of the event.
use Prim.Native.Nat.{ℕ, ◌≤◌, ◌<◌}
use mathlib.Core.List.{List}
use mathlib.Core.Path.{◌≡◌, refl}
use borrow.Author.Tests.{le-leb, lt-leb}
use lib.ListN.{length}
use Rattle.table.specs.Refusals.{cut}
use Rattle.table.proofs.Laws.{by_order}
use Rattle.number.specs.Reading.{value, read_number}
use Rattle.number.specs.Reading as number
use Rattle.number.proofs.Loops.{first_cut}
use Rattle.event.specs.declared.Event.{Event}
use Rattle.trace.specs.Reading.{Told, event, end, refused, Got, got, fault, onwards, said, read_numbers, read_event}
use Rattle.trace.proofs.First as event-first
use Rattle.trace.proofs.Padded.{inside}
use Rattle.shelf.specs.Reading.{ToldShelf, shelf_event, shelf_end, shelf_refused, read_shelf_numbers, said_shelf, read_shelf}

pub at_end_lem : (s : List ℕ) (place : ℕ) → length s ≤ place → read_shelf s place ≡ shelf_end
unfolding read_shelf
at_end_lem s place h = rw (le-leb (length s) place h) refl

within_trace : (s : List ℕ) (place : ℕ) → place < length s → read_shelf s place ≡ said_shelf place (read_shelf_numbers s place)
unfolding read_shelf
within_trace s place h = rw (lt-leb (length s) place h) refl

pub number_fault : (s : List ℕ) (place : ℕ) → place < length s → {n : ℕ} → read_number s place ≡ number.refused n → read_shelf s place ≡ shelf_refused n place
number_fault s place h e = rw (within_trace s place h, e) refl

-- what is said of the event behind the phy number v, told at the number's place; an end there is Cut
abbrev pub behind_number : (place v : ℕ) → Told → ToldShelf
behind_number place v (event e next) = shelf_event (record { number = v; event = e }) next
behind_number place v end = shelf_refused cut place
behind_number place v (refused n at) = shelf_refused n place

told_behind : (place v behind : ℕ) (g : Got Event) → said_shelf place (onwards g λ e next. got (record { number = v; event = e }) next) ≡ behind_number place v (said behind g)
told_behind place v behind (got e next) = refl
told_behind place v behind (fault n) = refl

event_within : (s : List ℕ) (place : ℕ) → place < length s → read_event s place ≡ said place (read_numbers s place)
unfolding read_event
event_within s place h = rw (lt-leb (length s) place h) refl

pub number_read : (s : List ℕ) (place : ℕ) {v behind : ℕ} {t : Told} → read_number s place ≡ value v behind → read_event s behind ≡ t → read_shelf s place ≡ behind_number place v t
number_read s place {v} {behind} e f =
    by_order behind (length s)
    (λ h. rw (within_trace s place (inside s place e), e, ← f, event_within s behind h) (told_behind place v behind (read_numbers s behind)))
    (λ g. rw (within_trace s place (inside s place e), e, ← f, event-first.at_end_lem s behind g, first_cut s behind g) refl)
