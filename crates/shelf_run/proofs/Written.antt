-- What a run leaves in the buffer: the bytes of the events taken at its start, one for each, and what stood there after them.
use Prim.Native.Nat.{ℕ, ◌+◌, ◌≤◌}
use mathlib.Core.Bool.{true}
use mathlib.Core.List.{List, ◌++◌, append_assoc}
use mathlib.Core.Path.{◌≡◌, refl, sym, ap, subst, ◌∙◌}
use native.Mathlib.Nat.{zero-add}
use native.Mathlib.Omega.{arith}
use borrow.Author.Tests.{leb-true, le-leb}
use lib.Dec.{leb}
use lib.ListN.{length, take, drop, length-append}
use lib.Seq.{sets, length-sets, drop-append-le}
use Rattle.table.proofs.Laws.{by_test}
use Rattle.table.proofs.Stores.{stored_to, stored_from}
use Rattle.trace.proofs.RoundTrip.{later_kept}
use Rattle.port.specs.State.{Port}
use Rattle.port.specs.Lent.{port_in}
use Rattle.run.proofs.Written.{start_longer}
use Rattle.shelf_run.specs.Running.{bytes_of, started, sound_lent, taken}
use Rattle.shelf_run.specs.Laws.{WritesOnlyTaken, WritesTaken, LongerBuffer}
use Rattle.shelf_run.proofs.InPlace.{counted}
use Rattle.shelf_run.proofs.Refusals.{by_tests}
use Rattle.shelf_run.proofs.Stopping.{stops_well_always}

-- ---- the bytes of a run

module _ (p : Port) (s : List ℕ) (budget : ℕ) where
  abbrev bytes : List ℕ
  bytes = bytes_of p (taken s budget)

  bytes_few : length bytes ≤ budget
  bytes_few = omega (arith, counted p (taken s budget), (stops_well_always s budget).few)

  module _ (buffer : List ℕ) (h : budget ≤ length buffer) where
    abbrev left : List ℕ
    left = sets buffer 0 bytes

    room : 0 + length bytes ≤ length buffer
    room = omega (arith, bytes_few)

    long : 0 + length bytes ≡ length (taken s budget)
    long = zero-add (length bytes) ∙ counted p (taken s budget)

    in_front : take (length (taken s budget)) left ≡ bytes
    in_front = subst (λ (n : ℕ). take n left ≡ bytes) long (stored_to buffer bytes 0 room)

    kept : drop (length (taken s budget)) left ≡ drop (length (taken s budget)) buffer
    kept = subst (λ (n : ℕ). drop n left ≡ drop n buffer) long (later_kept buffer bytes 0 room)

pub writes_only_taken : WritesOnlyTaken
writes_only_taken row numbers s budget buffer =
    let p : Port = started (port_in row numbers) in
    by_tests row numbers budget buffer
    (λ v. record { few = rw v (omega arith); long = rw v refl; kept = rw v refl })
    (λ v r. record { few = rw (v, r) (omega arith); long = rw (v, r) refl; kept = rw (v, r) refl })
    (λ v r. record {
      few = rw (v, r) (stops_well_always s budget).few;
      long = rw (v, r) (length-sets buffer 0 (bytes p s budget));
      kept = rw (v, r) (kept p s budget buffer (leb-true budget (length buffer) r));
    })

pub writes_taken : WritesTaken
writes_taken row numbers s budget buffer v h =
    rw (v, le-leb budget (length buffer) h) (in_front (started (port_in row numbers)) s budget buffer h)

pub longer_buffer : LongerBuffer
longer_buffer row numbers s budget buffer more h =
    let p : Port = started (port_in row numbers) in
    let r : leb budget (length buffer) ≡ true = le-leb budget (length buffer) h in
    let q : leb budget (length (buffer ++ more)) ≡ true = le-leb budget (length (buffer ++ more)) (omega (arith, length-append buffer more)) in
    by_test (sound_lent row numbers)
    (λ v. record {
      says = rw (v, r, q) refl;
      row_same = rw (v, r, q) refl;
      numbers_same = rw (v, r, q) refl;
      bytes = rw (v, r, q) (start_longer buffer more (bytes p s budget) (omega (arith, bytes_few p s budget)));
    })
    (λ v. record { says = rw v refl; row_same = rw v refl; numbers_same = rw v refl; bytes = rw v refl })
