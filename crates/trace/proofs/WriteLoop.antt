-- The invariants of the writer's loops: the numbers that are left, from here on, give the whole length and the whole buffer.
use Prim.Native.Nat.{ℕ, zero, suc, ◌+◌, ◌*◌, ◌^◌, ◌≤◌, ◌<◌}
use mathlib.Core.Bool.{true}
use mathlib.Core.List.{List, [], ◌∷◌, ◌++◌}
use mathlib.Core.Path.{◌≡◌, refl, sym, ap, ◌∙◌}
use native.Mathlib.Numerals.{add-one}
use native.Mathlib.Omega.{arith}
use borrow.Author.Tests.{le-leb}
use lib.ListN.{length, take, drop, get_or, length-append, drop_of_length-le}
use lib.Seq.{drop-cons, sets, length-sets, length-take-le}
use Rattle.table.proofs.Stores.{sets_on}
use Rattle.number.specs.Writing.{number_bytes}
use Rattle.number.specs.Writing as number
use Rattle.number.specs.Promises.{WritesNumber}
use Rattle.std.specs.Prelude.{Result, Ok, Err, IsOk}
use Rattle.table.specs.declared.Refusal.{Refusal}
use Rattle.number.proofs.RoundTrip.{refused_not_wrote, sized}
use Rattle.event.specs.Table.{argument_count, known_in_trace}
use Rattle.event.specs.declared.Event.{Event}
use Rattle.trace.specs.Writing.{wrote, bytes_of, all_numbers, event_bytes, fits}
use Rattle.trace.specs.Promises.{WritesEvent}
use Rattle.trace.proofs.Known.{six_arguments, numbers_small}

-- ---- the numbers that the writer goes through: seven at most, each of at most 64 bits

pub record Sound (numbers : List ℕ) : Type 0 where
  pub few : length numbers ≤ 7
  pub small : (k : ℕ) → get_or numbers k 0 < 2 ^ 64

small_of : (n : ℕ) (numbers : List ℕ) → ((k : ℕ) → get_or numbers k 0 < 2 ^ 64) → (k : ℕ) → get_or (take n numbers) k 0 < 2 ^ 64
small_of zero numbers h k = omega arith
small_of (suc n) [] h k = omega arith
small_of (suc n) (v ∷ vs) h zero = h 0
small_of (suc n) (v ∷ vs) h (suc k) = small_of n vs (λ j. h (suc j)) k

-- as many of an event's numbers as its code says: so many, and they lie within its seven
pub within_seven : {e : Event} {count : ℕ} {numbers : List ℕ} → count ≡ argument_count e.code → numbers ≡ all_numbers e → (count + 1 ≤ length numbers) × (count < 7)
within_seven {e} p q = rw (p, q) (omega (arith, six_arguments e.code), omega (arith, six_arguments e.code))

pub sound : {e : Event} {count : ℕ} {numbers : List ℕ} → known_in_trace e ≡ true → count ≡ argument_count e.code → numbers ≡ all_numbers e → Sound (take (count + 1) numbers)
sound {e} k p q =
    rw (p, q, add-one)
    (record { few = omega (arith, length-take-le (suc (argument_count e.code)) (all_numbers e) (omega (arith, six_arguments e.code)), six_arguments e.code); small = small_of (suc (argument_count e.code)) (all_numbers e) (numbers_small e k) })

pub event_bytes_lem : {e : Event} {count : ℕ} {numbers : List ℕ} → count ≡ argument_count e.code → numbers ≡ all_numbers e → bytes_of (take (count + 1) numbers) ≡ event_bytes e
unfolding event_bytes
event_bytes_lem p q = rw (p, q, add-one) refl

module _ (numbers : List ℕ) (i : ℕ) where
  next_number : i < length numbers → bytes_of (drop i numbers) ≡ number_bytes (get_or numbers i 0) ++ bytes_of (drop (i + 1) numbers)
  unfolding bytes_of
  next_number h = rw (drop-cons numbers i 0 h, add-one) refl

  no_number : length numbers ≤ i → bytes_of (drop i numbers) ≡ []
  unfolding bytes_of
  no_number h = rw (drop_of_length-le numbers {i = i} h) refl

-- ---- counting the bytes: n are those of the first i numbers

pub record Counted (numbers : List ℕ) (n i : ℕ) : Type 0 where
  pub fine : Sound numbers
  pub most : n ≤ 10 * i
  pub whole : n + length (bytes_of (drop i numbers)) ≡ length (bytes_of numbers)

pub counted_start : {numbers : List ℕ} → Sound numbers → Counted numbers 0 0
counted_start f = record { fine = f; most = omega arith; whole = omega arith }

module _ {numbers : List ℕ} {n i : ℕ} (c : Counted numbers n i) where
  pub counted_on : i < length numbers → Counted numbers (n + length (number_bytes (get_or numbers i 0))) (i + 1)
  counted_on h =
      record {
        fine = c.fine;
        most = omega (arith, c.most, sized (get_or numbers i 0) (c.fine.small i));
        whole = omega (arith, c.whole, simp length-append at (ap length (next_number numbers i h)));
      }

  pub counted_done : length numbers ≤ i → n ≡ length (bytes_of numbers)
  counted_done h = omega (arith, c.whole, ap length (no_number numbers i h))

-- ---- filling the buffer: those of the numbers left, at `at`, make it what it shall be

pub record Filling (numbers before : List ℕ) (place : ℕ) (buffer : List ℕ) (at i : ℕ) : Type 0 where
  pub room : at + length (bytes_of (drop i numbers)) ≤ length buffer
  pub whole : sets buffer at (bytes_of (drop i numbers)) ≡ sets before place (bytes_of numbers)

pub filling_start : {numbers : List ℕ} (before : List ℕ) (place : ℕ) → place + length (bytes_of numbers) ≤ length before → Filling numbers before place before place 0
filling_start before place h = record { room = h; whole = refl }

module _ {numbers before : List ℕ} {place : ℕ} {buffer : List ℕ} {at i : ℕ} (w : Filling numbers before place buffer at i) where
  module _ (h : i < length numbers) where
    left : at + (length (number_bytes (get_or numbers i 0)) + length (bytes_of (drop (i + 1) numbers))) ≤ length buffer
    left = omega (arith, w.room, simp length-append at (ap length (next_number numbers i h)))

    fit : number.fits (get_or numbers i 0) buffer at ≡ true
    fit = le-leb (at + length (number_bytes (get_or numbers i 0))) (length buffer) (omega (arith, left))

    -- there is room for the number
    pub filling_room : (r : Result ℕ Refusal) {after : List ℕ} → WritesNumber (get_or numbers i 0) buffer at r after → IsOk r
    filling_room (Ok n) w = refl
    filling_room (Err refusal) w = absurd (refused_not_wrote (rw fit at w.says))

    module _ {n : ℕ} {after : List ℕ} (c : WritesNumber (get_or numbers i 0) buffer at (Ok n) after) where
      written : number.wrote n ≡ number.wrote (length (number_bytes (get_or numbers i 0)))
      written = rw fit at c.says

      filling_length : n ≡ length (number_bytes (get_or numbers i 0))
      filling_length = let e = written in cc

      stored : after ≡ sets buffer at (number_bytes (get_or numbers i 0))
      stored = rw fit at c.leaves

      longer : length after ≡ length buffer
      longer = ap length stored ∙ length-sets buffer at (number_bytes (get_or numbers i 0))

      pub filling_on : Filling numbers before place after (at + n) (i + 1)
      filling_on =
          record {
            room = omega (arith, left, filling_length, longer);
            whole =
                rw (stored, filling_length)
                (sym (sets_on buffer (number_bytes (get_or numbers i 0)) (bytes_of (drop (i + 1) numbers)) at) ∙ rw (next_number numbers i h) at w.whole);
          }

  pub filling_done : length numbers ≤ i → buffer ≡ sets before place (bytes_of numbers)
  filling_done h = sym (ap (sets buffer at) (no_number numbers i h)) ∙ w.whole

-- ---- the contract of `write_event`, where the event is known and its bytes fit

pub with_room :
    (e : Event) (before : List ℕ) (place : ℕ) → known_in_trace e ≡ true → {n : ℕ} {after : List ℕ}
    → place + length (event_bytes e) ≤ length before → n ≡ length (event_bytes e) → after ≡ sets before place (event_bytes e)
    → WritesEvent e before place (Ok n) after
with_room e before place k h l b =
    let f : fits e before place ≡ true = le-leb (place + length (event_bytes e)) (length before) h in
    record { says = rw (k, f) (ap wrote l); leaves = rw (k, f) b }
