-- Why the reader says what it says: by what is read of the phy's number, and behind it of the event. One case analysis, from which the laws follow.
use Prim.Native.Nat.{ℕ, ◌≤◌, ◌<◌}
use mathlib.Core.List.{List}
use mathlib.Core.Path.{◌≡◌, refl, subst}
use lib.ListN.{length}
use Rattle.table.specs.Refusals.{cut}
use Rattle.table.proofs.Laws.{by_order}
use Rattle.number.specs.Reading.{value, read_number}
use Rattle.number.specs.Reading as number
use Rattle.event.specs.declared.ShelfEvent.{ShelfEvent}
use Rattle.trace.specs.Reading.{Told, event, end, refused, read_event}
use Rattle.trace.proofs.Refusals.{end_exactly, fault_at_first}
use Rattle.shelf.specs.Reading.{ToldShelf, shelf_event, shelf_end, shelf_refused, read_shelf}
use Rattle.shelf.proofs.First.{at_end_lem, number_fault, behind_number, number_read}

-- the number of an event that was read, and behind it the event
pub record ReadBehind (s : List ℕ) (place : ℕ) (e : ShelfEvent) (next : ℕ) : Type 0 where
  pub behind : ℕ
  pub reads : read_number s place ≡ value e.number behind
  pub event : read_event s behind ≡ event e.event next

-- what stops the reader at a place inside the trace: the phy's number, the trace's end behind it, or the event there
pub data StopsAt (s : List ℕ) (place : ℕ) : ℕ → Type 0 where
  unread : {n : ℕ} → place < length s → read_number s place ≡ number.refused n → StopsAt s place n
  ends : {v behind : ℕ} → read_number s place ≡ value v behind → length s ≤ behind → StopsAt s place cut
  faulty : {n v behind : ℕ} → read_number s place ≡ value v behind → read_event s behind ≡ refused n behind → StopsAt s place n

abbrev WhyShelf : List ℕ → ℕ → ToldShelf → Type 0
WhyShelf s place (shelf_event e next) = ReadBehind s place e next
WhyShelf s place shelf_end = length s ≤ place
WhyShelf s place (shelf_refused n first) = (first ≡ place) × StopsAt s place n

why_behind : (s : List ℕ) (place : ℕ) {v behind : ℕ} → read_number s place ≡ value v behind → (t : Told) → read_event s behind ≡ t → WhyShelf s place (behind_number place v t)
why_behind s place {v} {behind} e (event f next) r = record { behind = behind; reads = e; event = r }
why_behind s place {v} {behind} e end r = (refl, ends e ((end_exactly s behind).0 r))
why_behind s place {v} {behind} e (refused n at) r =
    (refl, faulty e (subst (λ (first : ℕ). read_event s behind ≡ refused n first) (fault_at_first s behind n at r).first r))

why_number : (s : List ℕ) (place : ℕ) → place < length s → (t : number.Told) → read_number s place ≡ t → WhyShelf s place (read_shelf s place)
why_number s place h (value v behind) e = rw (number_read s place e refl) (why_behind s place e (read_event s behind) refl)
why_number s place h (number.refused n) e = rw (number_fault s place h e) (refl, unread h e)

pub because : (s : List ℕ) (place : ℕ) {t : ToldShelf} → read_shelf s place ≡ t → WhyShelf s place t
because s place e =
    subst (WhyShelf s place) e
    (by_order place (length s) (λ h. why_number s place h (read_number s place) refl) (λ g. rw (at_end_lem s place g) g))
