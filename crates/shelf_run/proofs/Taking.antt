-- What is taken from a place on, by what stands there: one equation for the end, the spent budget, an event and a fault.
use Prim.Native.Nat.{ℕ, zero, suc, ◌≤◌, ◌<◌}
use mathlib.Core.List.{List}
use mathlib.Core.Path.{◌≡◌, refl}
use borrow.Author.Tests.{le-leb, lt-leb}
use lib.ListN.{length}
use Rattle.event.specs.declared.ShelfEvent.{ShelfEvent}
use Rattle.shelf.specs.Reading.{shelf_event, shelf_refused, read_shelf}
use Rattle.shelf.proofs.First.{at_end_lem}
use Rattle.run.specs.Running.{at_end, at_budget, at_fault}
use Rattle.shelf_run.specs.Running.{stops, first, taking}

module _ (s : List ℕ) (place : ℕ) where
  pub taking_ended : (n : ℕ) → length s ≤ place → taking n s place ≡ stops at_end
  unfolding taking
  taking_ended zero h = rw (le-leb (length s) place h) refl
  taking_ended (suc n) h = rw (at_end_lem s place h) refl

  pub taking_spent : place < length s → taking zero s place ≡ stops at_budget
  unfolding taking
  taking_spent h = rw (lt-leb (length s) place h) refl

  pub taking_event : (n : ℕ) {e : ShelfEvent} {next : ℕ} → read_shelf s place ≡ shelf_event e next → taking (suc n) s place ≡ first e (taking n s next)
  unfolding taking
  taking_event n h = rw h refl

  pub taking_fault : (n : ℕ) {k at : ℕ} → read_shelf s place ≡ shelf_refused k at → taking (suc n) s place ≡ stops (at_fault k at)
  unfolding taking
  taking_fault n h = rw h refl
