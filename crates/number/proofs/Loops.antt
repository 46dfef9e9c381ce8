-- The invariants of the loops: what is left to do, started from here, gives the whole answer.
use Prim.Native.Nat.{ℕ, zero, suc, ◌+◌, ◌-◌, ◌*◌, ◌/◌, ◌%◌, ◌^◌, ◌≤◌, ◌<◌}
use mathlib.Core.Path.{◌≡◌, refl, sym, subst, ap, ◌∙◌}
use mathlib.Core.List.{List, [], ◌∷◌}
use native.Mathlib.Omega.{arith}
use mathlib.Core.Bool.{true, false}
use Rattle.table.specs.Refusals.{cut, too_large}
use native.Mathlib.Nat.{add-mul, mul_assoc, mul_comm, mul_left_comm}
use native.Mathlib.Numerals.{add-one}
use lib.ListN.{length, drop, get_or, set, length-set, drop_of_length-le}
use lib.Arith.{digits_lt}
use lib.Seq.{sets, drop-cons}
use Rattle.number.specs.Reading.{Told, value, refused, high, most_later, tenth_byte, below, groups, read_number}
use Rattle.number.specs.Writing.{bytes_of, number_bytes, fits, wrote}
use Rattle.number.specs.Promises.{WritesNumber}
use Rattle.std.specs.Prelude.{Ok, Err}
use Rattle.table.specs.declared.Refusal.TheVariants.{NoRoom}
use borrow.Author.Tests.{le-leb, lt-leb, lt-ltb, le-ltb}
use Rattle.number.proofs.Groups.{cap, cap_two, More, more, last}

-- ---- counting the bytes of v: n are counted, with one still to come for `rest`
pub record Counted (v rest n : ℕ) : Type 0 where
  pub later : ℕ
  pub small : rest < cap later
  pub few : n + later ≡ suc most_later
  pub whole : n + length (bytes_of later rest) ≡ suc (length (number_bytes v))

pub counted_start : (v : ℕ) → v < 2 ^ 64 → Counted v v 1
unfolding number_bytes
counted_start v h = record { later = most_later; small = h; few = refl; whole = omega arith }

pub counted_on : {v rest n : ℕ} → Counted v rest n → high ≤ rest → Counted v (rest / high) (n + 1)
counted_on {v} {rest} {n} c k =
    let m : More c.later rest = more c.later rest c.small k in
    record {
      later = m.left;
      small = m.small;
      few = omega arith;
      whole = omega (arith, ap length m.bytes);
    }

pub counted_done : {v rest n : ℕ} → Counted v rest n → rest < high → n ≡ length (number_bytes v)
counted_done {v} {rest} c k = omega (arith, ap length (last c.later rest k))

-- ---- writing the bytes of v: those of `rest` at `at` make the buffer what it shall be
pub record Writing (v : ℕ) (before : List ℕ) (place : ℕ) (buffer : List ℕ) (rest at : ℕ) : Type 0 where
  pub later : ℕ
  pub small : rest < cap later
  pub room : at + length (bytes_of later rest) ≤ length buffer
  pub whole : sets buffer at (bytes_of later rest) ≡ sets before place (number_bytes v)
  pub long : length buffer ≡ length before

pub writing_start : (v : ℕ) (before : List ℕ) (place : ℕ) → v < 2 ^ 64 → place + length (number_bytes v) ≤ length before → Writing v before place before v place
unfolding number_bytes
writing_start v before place h k = record { later = most_later; small = h; room = k; whole = refl; long = refl }

pub writing_on : {v : ℕ} {before : List ℕ} {place : ℕ} {buffer : List ℕ} {rest at : ℕ} → Writing v before place buffer rest at → high ≤ rest
    → (at < length buffer) × Writing v before place (set buffer at (high + rest % high)) (rest / high) (at + 1)
writing_on {v} {before} {place} {buffer} {rest} {at} w k =
    let m : More w.later rest = more w.later rest w.small k in (
      omega (arith, ap length m.bytes),
      record {
        later = m.left;
        small = m.small;
        room = simp length-set (omega (arith, ap length m.bytes));
        whole = rw add-one (ap (sets buffer at) (sym m.bytes) ∙ w.whole);
        long = length-set buffer at (high + rest % high) ∙ w.long;
      },
    )

pub writing_done : {v : ℕ} {before : List ℕ} {place : ℕ} {buffer : List ℕ} {rest at : ℕ} → Writing v before place buffer rest at → rest < high
    → (at < length buffer) × (set buffer at rest ≡ sets before place (number_bytes v))
writing_done {buffer = buffer} {rest} {at} w k =
    let l : bytes_of w.later rest ≡ rest ∷ [] = last w.later rest k in
    (omega (arith, ap length l), ap (sets buffer at) (sym l) ∙ w.whole)

-- the contract where there is no room, and where there is
pub no_room_lem : (v : ℕ) (before : List ℕ) (place : ℕ) → length before < place + length (number_bytes v) → WritesNumber v before place (Err NoRoom) before
no_room_lem v before place h =
    let t : fits v before place ≡ false = lt-leb (place + length (number_bytes v)) (length before) h in
    record { says = rw t; leaves = rw t }

pub with_room : (v : ℕ) (before : List ℕ) (place n : ℕ) (after : List ℕ) → place + length (number_bytes v) ≤ length before
    → n ≡ length (number_bytes v) → after ≡ sets before place (number_bytes v) → WritesNumber v before place (Ok n) after
with_room v before place n after h e b =
    let t : fits v before place ≡ true = le-leb (place + length (number_bytes v)) (length before) h in
    record { says = rw t (ap wrote e); leaves = rw t b }

-- ---- reading: the value of the groups passed, their weight, and what the others say above them
abbrev pub onto : (passed weight : ℕ) → Told → Told
onto passed weight (value v next) = value (v * weight + passed) next
onto passed weight (refused n) = refused n

pub record Passed (s : List ℕ) (place next passed weight : ℕ) : Type 0 where
  pub later : ℕ
  pub few : next + later ≡ place + most_later
  pub small : passed < weight
  pub room : cap later * weight ≡ 2 ^ 64
  pub whole : read_number s place ≡ onto passed weight (groups later next (drop next s))

-- the groups above a first one, and above those passed
below_onto : (g : ℕ) (t : Told) → below g t ≡ onto g high t
below_onto g (value v next) = ap (λ (n : ℕ). value n next) (omega arith)
below_onto g (refused n) = refl

shifted : (passed weight g v : ℕ) → (g + high * v) * weight + passed ≡ v * (weight * high) + (g * weight + passed)
shifted passed weight g v = simp (add-mul, mul_assoc, mul_left_comm, mul_comm) (omega arith)

onto_below : (passed weight g : ℕ) (t : Told) → onto passed weight (below g t) ≡ onto (g * weight + passed) (weight * high) t
onto_below passed weight g (value v next) = ap (λ (n : ℕ). value n next) (shifted passed weight g v)
onto_below passed weight g (refused n) = refl

-- the reader's definition, one byte at a time
pub at_end_lem : (later : ℕ) (s : List ℕ) (place : ℕ) → length s ≤ place → groups later place (drop place s) ≡ refused cut
unfolding groups
at_end_lem later s place h = rw (drop_of_length-le s h)

pub at_more : (later : ℕ) (s : List ℕ) (place : ℕ) → place < length s → high ≤ get_or s place 0
    → groups (suc later) place (drop place s) ≡ below (get_or s place 0 - high) (groups later (place + 1) (drop (place + 1) s))
unfolding groups
at_more later s place h k = rw (drop-cons s place 0 h, le-ltb (get_or s place 0) high k, add-one)

pub at_last : (later : ℕ) (s : List ℕ) (place : ℕ) → place < length s → get_or s place 0 < high
    → groups (suc later) place (drop place s) ≡ value (get_or s place 0) (place + 1)
unfolding groups
at_last later s place h k = rw (drop-cons s place 0 h, lt-ltb (get_or s place 0) high k, add-one)

pub at_tenth : (s : List ℕ) (place : ℕ) → place < length s → groups zero place (drop place s) ≡ tenth_byte (get_or s place 0) (place + 1)
unfolding groups
at_tenth s place h = rw (drop-cons s place 0 h, add-one)

-- the first byte: none, or the whole number
pub first_cut : (s : List ℕ) (place : ℕ) → length s ≤ place → read_number s place ≡ refused cut
unfolding read_number
first_cut s place h = at_end_lem most_later s place h

pub first_last : (s : List ℕ) (place : ℕ) → place < length s → get_or s place 0 < high → read_number s place ≡ value (get_or s place 0) (place + 1)
unfolding read_number
first_last s place h k = at_last 8 s place h k

pub passed_start : (s : List ℕ) (place : ℕ) → place < length s → high ≤ get_or s place 0 → get_or s place 0 < 256
    → Passed s place (place + 1) (get_or s place 0 - high) high
unfolding read_number
passed_start s place h k u =
    record {
      later = 8;
      few = omega arith;
      small = omega arith;
      room = refl;
      whole = at_more 8 s place h k ∙ below_onto (get_or s place 0 - high) (groups 8 (place + 1) (drop (place + 1) s));
    }

-- where the loop ends
pub passed_end : {s : List ℕ} {place at end passed weight : ℕ} → Passed s place at passed weight → at ≡ end → Passed s place end passed weight
passed_end {s} {place} {passed = passed} {weight} p e = subst (λ (n : ℕ). Passed s place n passed weight) e p

module _ {s : List ℕ} {place next passed weight : ℕ} (p : Passed s place next passed weight) where
  pub passed_cut : length s ≤ next → read_number s place ≡ refused cut
  passed_cut h = p.whole ∙ ap (onto passed weight) (at_end_lem p.later s next h)

  -- a value below the cap, at its weight, fits with those passed
  under_cap : (v : ℕ) → v < cap p.later → v * weight + passed < 2 ^ 64
  under_cap v h = subst (λ (n : ℕ). v * weight + passed < n) p.room (digits_lt h p.small)

  -- ---- before the tenth
  module _ (h : next < place + most_later) where
    left : ℕ
    left = p.later - 1

    one : p.later ≡ suc left
    unfolding left
    one = omega (arith, p.few)

    group_fits : (v : ℕ) → v ≤ high → v * weight + passed < 2 ^ 64
    group_fits v k = under_cap v (rw one (omega (arith, cap_two left)))

    pub last_fits : get_or s next 0 < high → get_or s next 0 * weight + passed < 2 ^ 64
    last_fits k = group_fits (get_or s next 0) (omega arith)

    pub more_fits : get_or s next 0 < 256 → (get_or s next 0 - high) * weight + passed < 2 ^ 64
    more_fits k = group_fits (get_or s next 0 - high) (omega arith)

    pub weight_fits : weight * high < 2 ^ 64
    weight_fits = omega (arith, group_fits high (omega arith))

    whole_left : read_number s place ≡ onto passed weight (groups (suc left) next (drop next s))
    whole_left = p.whole ∙ ap (λ (n : ℕ). onto passed weight (groups n next (drop next s))) one

    room_left : cap left * (weight * high) ≡ 2 ^ 64
    room_left = simp (mul_left_comm, mul_comm) (simp (mul_assoc, mul_comm) at (rw one at p.room))

    pub passed_on : next < length s → high ≤ get_or s next 0 → get_or s next 0 < 256 → Passed s place (next + 1) ((get_or s next 0 - high) * weight + passed) (weight * high)
    passed_on n k u =
        record {
          later = left;
          few = omega (arith, p.few, one);
          small = rw (mul_comm weight high) (digits_lt (omega arith) p.small);
          room = room_left;
          whole =
              whole_left ∙ ap (onto passed weight) (at_more left s next n k)
              ∙ onto_below passed weight (get_or s next 0 - high) (groups left (next + 1) (drop (next + 1) s));
        }

    pub passed_last : next < length s → get_or s next 0 < high → read_number s place ≡ value (get_or s next 0 * weight + passed) (next + 1)
    passed_last n k = whole_left ∙ ap (onto passed weight) (at_last left s next n k)

  -- ---- the tenth
  module _ (h : place + most_later ≤ next) (n : next < length s) where
    none : p.later ≡ 0
    none = omega (arith, p.few)

    tenth : read_number s place ≡ onto passed weight (tenth_byte (get_or s next 0) (next + 1))
    tenth = p.whole ∙ ap (λ (l : ℕ). onto passed weight (groups l next (drop next s))) none ∙ ap (onto passed weight) (at_tenth s next n)

    pub tenth_fits : get_or s next 0 ≤ 1 → get_or s next 0 * weight + passed < 2 ^ 64
    tenth_fits k = under_cap (get_or s next 0) (rw none (omega arith))

    pub tenth_large : 1 < get_or s next 0 → read_number s place ≡ refused too_large
    unfolding tenth_byte
    tenth_large k = rw (lt-ltb 1 (get_or s next 0) k) at tenth

    pub tenth_last : get_or s next 0 ≤ 1 → read_number s place ≡ value (get_or s next 0 * weight + passed) (next + 1)
    unfolding tenth_byte
    tenth_last k = rw (le-ltb 1 (get_or s next 0) k) at tenth
