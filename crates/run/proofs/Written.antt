-- What a run leaves in the buffer: the bytes of the events taken at its start, one for each, and what stood there after them.
use Prim.Native.Nat.{ℕ, suc, ◌≤◌}
use mathlib.Core.Bool.{true}
use mathlib.Core.List.{List, [], ◌∷◌, ◌++◌, append_assoc}
use mathlib.Core.Path.{◌≡◌, refl, sym, ap, subst, ◌∙◌}
use native.Mathlib.Nat.{zero-add}
use native.Mathlib.Omega.{arith}
use borrow.Author.Tests.{leb-true, le-leb}
use lib.Dec.{leb}
use lib.ListN.{length, take, drop, length-append}
use lib.Seq.{sets, sets-eq, length-sets, take_at, drop_at, drop-append-le}
use Rattle.table.proofs.Laws.{by_test}
use Rattle.event.specs.declared.Event.{Event}
use Rattle.phy.specs.State.{valid_of}
use Rattle.bay.specs.State.{unstamped}
use Rattle.bay.specs.Step.{step_of}
use Rattle.bay.specs.declared.Bay.{Bay}
use Rattle.run.specs.Running.{taking, bytes_of}
use Rattle.run.specs.Laws.{WritesOnlyTaken, WritesTaken, LongerBuffer}
use Rattle.run.proofs.Refusals.{by_tests}
use Rattle.run.proofs.Stopping.{stops_well_always}

-- one byte for each event
counted : (b : Bay) (es : List Event) → length (bytes_of b es) ≡ length es
counted b [] = refl
counted b (e ∷ es) = ap suc (counted (step_of b e).next es)

-- ---- bytes at the start of a buffer that has room for them

module _ (buffer bytes : List ℕ) (h : length bytes ≤ length buffer) where
  at_start : sets buffer 0 bytes ≡ bytes ++ drop (length bytes) buffer
  at_start = sets-eq bytes buffer 0 (omega arith) ∙ ap (λ (n : ℕ). bytes ++ drop n buffer) (zero-add (length bytes))

  start_taken : take (length bytes) (sets buffer 0 bytes) ≡ bytes
  start_taken = ap (take (length bytes)) at_start ∙ take_at bytes (drop (length bytes) buffer) (length bytes) refl

  start_kept : drop (length bytes) (sets buffer 0 bytes) ≡ drop (length bytes) buffer
  start_kept = ap (drop (length bytes)) at_start ∙ drop_at bytes (drop (length bytes) buffer) (length bytes) refl

-- bytes at the start of a longer buffer
pub start_longer : (buffer more bytes : List ℕ) → length bytes ≤ length buffer → sets (buffer ++ more) 0 bytes ≡ sets buffer 0 bytes ++ more
start_longer buffer more bytes h =
    at_start (buffer ++ more) bytes (omega (arith, length-append buffer more))
    ∙ ap (λ (l : List ℕ). bytes ++ l) (drop-append-le (length bytes) buffer more h)
    ∙ sym (append_assoc bytes (drop (length bytes) buffer) more)
    ∙ ap (λ (l : List ℕ). l ++ more) (sym (at_start buffer bytes h))

-- ---- the bytes of a run

module _ (b : Bay) (s : List ℕ) (budget : ℕ) where
  abbrev events : List Event
  events = (taking budget s 0).events

  few : length events ≤ budget
  few = (stops_well_always s budget).few

  bytes_few : length (bytes_of b events) ≤ budget
  bytes_few = omega (arith, counted b events, few)

  module _ (buffer : List ℕ) (h : budget ≤ length buffer) where
    taken : take (length events) (sets buffer 0 (bytes_of b events)) ≡ bytes_of b events
    taken = ap (λ (n : ℕ). take n (sets buffer 0 (bytes_of b events))) (sym (counted b events)) ∙ start_taken buffer (bytes_of b events) (omega (arith, bytes_few))

    kept : drop (length events) (sets buffer 0 (bytes_of b events)) ≡ drop (length events) buffer
    kept = subst (λ (n : ℕ). drop n (sets buffer 0 (bytes_of b events)) ≡ drop n buffer) (counted b events) (start_kept buffer (bytes_of b events) (omega (arith, bytes_few)))

pub writes_only_taken : WritesOnlyTaken
writes_only_taken p s budget buffer =
    by_tests p budget buffer
    (λ v. record { few = rw v (omega arith); long = rw v refl; kept = rw v refl })
    (λ v r. record { few = rw (v, r) (omega arith); long = rw (v, r) refl; kept = rw (v, r) refl })
    (λ v r. record {
      few = rw (v, r) (few (unstamped p) s budget);
      long = rw (v, r) (length-sets buffer 0 (bytes_of (unstamped p) (taking budget s 0).events));
      kept = rw (v, r) (kept (unstamped p) s budget buffer (leb-true budget (length buffer) r));
    })

pub writes_taken : WritesTaken
writes_taken p s budget buffer v h = rw (v, le-leb budget (length buffer) h) (taken (unstamped p) s budget buffer h)

pub longer_buffer : LongerBuffer
longer_buffer p s budget buffer more h =
    let r : leb budget (length buffer) ≡ true = le-leb budget (length buffer) h in
    let q : leb budget (length (buffer ++ more)) ≡ true = le-leb budget (length (buffer ++ more)) (omega (arith, length-append buffer more)) in
    by_test (valid_of p)
    (λ v. record { says = rw (v, r, q) refl; bytes = rw (v, r, q) (start_longer buffer more (bytes_of (unstamped p) (taking budget s 0).events) (omega (arith, bytes_few (unstamped p) s budget))) })
    (λ v. record { says = rw v refl; bytes = rw v refl })
