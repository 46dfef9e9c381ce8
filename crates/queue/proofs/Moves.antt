-- The moves on Opens as they are lent: a store falls into the zeros, just behind the Opens; what moves up are the others, and zeros
-- come behind them.
use Prim.Native.Nat.{ℕ, suc, ◌+◌, ◌-◌, ◌*◌, ◌<◌}
use mathlib.Core.List.{List, [], ◌∷◌, ◌++◌, append_assoc}
use mathlib.Core.Path.{◌≡◌, refl, ◌∙◌}
use native.Mathlib.Omega.{arith}
use borrow.Author.Tests.{lt-ltb, le-leb, eq-eqb}
use lib.ListN.{length, replicate, length-append, replicate-append-replicate}
use lib.Seq.{take_at, drop_at, drop-drop}
use Rattle.std.proofs.lemmas.Grind.{flat_map-append}
use Rattle.event.specs.declared.Open.{Open}
use Rattle.queue.specs.Lent.{most_waiting, numbers_each, lent_length, numbers_of, in_numbers, lent_as, open_from, joined, advanced}
use Rattle.queue.specs.Laws.{JoinsLast, OldestFirst, MovesUp}
use Rattle.queue.proofs.Places.{stored_over}
use Rattle.queue.proofs.Lending.{numbers_long, lent_long}

-- as many zeros as make the numbers whole
with_zeros : (os : List Open) (n : ℕ) → length (in_numbers os) + n ≡ lent_length → lent_as os ≡ in_numbers os ++ replicate n 0
unfolding lent_as
with_zeros os n h =
    let left : lent_length - length (in_numbers os) ≡ n = omega arith in
    rw left

-- the zeros that one Open more than these stands on, and those behind it
abbrev room : List ℕ
room = replicate numbers_each 0

abbrev left : List Open → ℕ
left os = lent_length - numbers_each * suc (length os)

abbrev zeros : List Open → List ℕ
zeros os = replicate (left os) 0

with_room : (os : List Open) → length os < most_waiting → lent_as os ≡ in_numbers os ++ (room ++ zeros os)
with_room os h =
    with_zeros os (numbers_each + left os) (omega (arith, numbers_long os))
    ∙ rw (← replicate-append-replicate numbers_each)

with_last : (os : List Open) (o : Open) → length os < most_waiting → lent_as (os ++ (o ∷ [])) ≡ in_numbers os ++ numbers_of o ++ zeros os
with_last os o h =
    let same : in_numbers (os ++ (o ∷ [])) ≡ in_numbers os ++ numbers_of o = flat_map-append numbers_of os (o ∷ []) in
    with_zeros (os ++ (o ∷ [])) (left os) (rw (same, length-append) (omega (arith, numbers_long os))) ∙ rw same

pub joins_last : JoinsLast
unfolding joined
joins_last os o h =
    rw (lt-ltb (length os) most_waiting h, eq-eqb (length (lent_as os)) lent_length (lent_long os (omega arith)), with_room os h, with_last os o h)
    (stored_over (in_numbers os) (numbers_of o) room (zeros os) (numbers_each * length os) (numbers_long os) refl)

pub oldest_first : OldestFirst
unfolding open_from lent_as
oldest_first o os = refl

pub moves_up : MovesUp
unfolding advanced
moves_up o os h =
    let count : ℕ = numbers_each * length os in
    let kept : numbers_each * (suc (length os) - 1) ≡ count = omega arith in
    let next : numbers_each * suc (length os) ≡ numbers_each + count = omega arith in
    let lent : lent_as (o ∷ os) ≡ numbers_of o ++ (in_numbers os ++ zeros os) = with_zeros (o ∷ os) (left os) (omega (arith, numbers_long os)) in
    rw (le-leb 1 (suc (length os)) (omega arith), le-leb (suc (length os)) most_waiting h, eq-eqb (length (lent_as (o ∷ os))) lent_length (lent_long (o ∷ os) h))
    (rw (kept, next, ← drop-drop count numbers_each (lent_as (o ∷ os)), lent, with_room os h)
    (rw (take_at (in_numbers os) (zeros os) count (numbers_long os), drop_at (in_numbers os) (zeros os) count (numbers_long os)) (append_assoc (in_numbers os) room (zeros os))))
