-- The event's first number, its code: what reading says by what stands there.
use Prim.Native.Nat.{ℕ, ◌≤◌, ◌<◌}
use mathlib.Core.Bool.{true, false}
use mathlib.Core.List.{List}
use mathlib.Core.Path.{◌≡◌, refl}
use borrow.Author.Tests.{le-leb, lt-leb}
use lib.ListN.{length}
use Rattle.table.specs.Refusals.{bad_event}
use Rattle.number.specs.Reading.{value, read_number}
use Rattle.number.specs.Reading as number
use Rattle.event.specs.Table.{code_in_trace}
use Rattle.trace.specs.Reading.{end, refused, said, after_code, read_numbers, read_event}

pub at_end_lem : (s : List ℕ) (place : ℕ) → length s ≤ place → read_event s place ≡ end
unfolding read_event
at_end_lem s place h = rw (le-leb (length s) place h) refl

module _ (s : List ℕ) (place : ℕ) (h : place < length s) where
  pub within_trace : read_event s place ≡ said place (read_numbers s place)
  unfolding read_event
  within_trace = rw (lt-leb (length s) place h) refl

  pub code_fault : {n : ℕ} → read_number s place ≡ number.refused n → read_event s place ≡ refused n place
  code_fault e = rw (within_trace, e) refl

  module _ {code next : ℕ} (e : read_number s place ≡ value code next) where
    pub code_bad : code_in_trace code ≡ false → read_event s place ≡ refused bad_event place
    code_bad w = rw (within_trace, e, w) refl

    pub code_good : code_in_trace code ≡ true → read_event s place ≡ said place (after_code code s next)
    code_good w = rw (within_trace, e, w) refl
