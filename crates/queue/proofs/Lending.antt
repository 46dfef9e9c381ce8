-- Opens and their numbers: an Open that is known stands in front of those behind it, and zeros are none, since no rate is zero. So
-- reading takes the Opens back one by one, up to the zeros; and where zeros follow, what is read is all there is.
use Prim.Native.Nat.{ℕ, zero, suc, ◌+◌, ◌-◌, ◌*◌, ◌≤◌}
use mathlib.Core.Bool.{true, false}
use mathlib.Core.List.{List, [], ◌∷◌, ◌++◌}
use mathlib.Core.Path.{◌≡◌, refl, sym, ap, subst, ◌∙◌}
use native.Mathlib.Omega.{arith}
use borrow.Author.Tests.{eq-eqb, eqb-true}
use lib.Dec.{eqb}
use lib.ListN.{length, drop, get_or, replicate, length-append, length-drop, length-replicate}
use lib.Seq.{drop-cons, drop_at, drop-drop}
use Rattle.table.proofs.Laws.{parts, by_pick}
use Rattle.event.specs.Table.{argument_range, arguments_known, open_known}
use Rattle.event.specs.declared.Open.{Open}
use Rattle.queue.specs.Lent.{most_waiting, numbers_each, lent_length, numbers_of, in_numbers, lent_as, open_from, held_in, queue_in, all_zero, good_lent}
use Rattle.queue.specs.Laws.{AllKnown, LentLong, LentBack, GoodIsLent, GoodExactly}
use Rattle.queue.proofs.Held.{held_known}

pub numbers_long : (os : List Open) → length (in_numbers os) ≡ numbers_each * length os
numbers_long [] = refl
numbers_long (o ∷ os) = omega (arith, numbers_long os)

pub lent_long : LentLong
unfolding lent_as
lent_long os h = rw (length-append, length-replicate) (omega (arith, numbers_long os))

-- ---- zeros

zero_at : (n i : ℕ) → ◌≡◌ {A = ℕ} (get_or (replicate n 0) i 0) 0
zero_at zero i = refl
zero_at (suc n) zero = refl
zero_at (suc n) (suc i) = zero_at n i

-- zeros are no Open that is known: their rate is too low
zeros_unknown : (n : ℕ) → open_known (open_from (replicate n 0)) ≡ false
unfolding open_known arguments_known argument_range open_from
zeros_unknown n = simp zero_at

zeros_all : (n : ℕ) → all_zero (replicate n 0) ≡ true
zeros_all zero = refl
zeros_all (suc n) = zeros_all n

all_zeros : (ns : List ℕ) → all_zero ns ≡ true → ns ≡ replicate (length ns) 0
all_zeros [] e = refl
all_zeros (n ∷ ns) e =
    let p = parts (eqb n 0) (all_zero ns) e in
    λ i. eqb-true n 0 p.0 i ∷ all_zeros ns p.1 i

-- ---- what is lent is read back

back_from : (most : ℕ) (os : List Open) (n : ℕ) → length os ≤ most → AllKnown os → held_in most (in_numbers os ++ replicate n 0) ≡ os
unfolding held_in open_from
back_from zero [] n h k = refl
back_from zero (o ∷ os) n h k = absurd (omega arith)
back_from (suc most) [] n h k = rw (zeros_unknown n)
back_from (suc most) (o ∷ os) n h k = rw k.0 (ap (λ (l : List Open). o ∷ l) (back_from most os n (omega arith) k.1))

pub lent_back : LentBack
unfolding lent_as queue_in good_lent
lent_back os w =
    let zeros : ℕ = lent_length - length (in_numbers os) in
    let back = back_from most_waiting os zeros w.few w.known in
    let behind = drop_at (in_numbers os) (replicate zeros 0) (numbers_each * length os) (numbers_long os) in
    record {
      good = rw (back, behind, zeros_all zeros, eq-eqb (length (lent_as os)) lent_length (lent_long os w.few));
      same = back;
    }

-- ---- what is read is what stands there

-- the numbers in front are those of their Open
front : (ns : List ℕ) → numbers_each ≤ length ns → ns ≡ numbers_of (open_from ns) ++ drop numbers_each ns
unfolding open_from
front ns h =
    rw (← drop-cons ns 5 0 (omega arith), ← drop-cons ns 4 0 (omega arith), ← drop-cons ns 3 0 (omega arith), ← drop-cons ns 2 0 (omega arith), ← drop-cons ns 1 0 (omega arith), ← drop-cons ns 0 0 (omega arith))

-- and all that is read stands before what is behind it
stands : (most : ℕ) (ns : List ℕ) → numbers_each * most ≤ length ns
    → ns ≡ in_numbers (held_in most ns) ++ drop (numbers_each * length (held_in most ns)) ns
unfolding held_in
stands zero ns h = refl
stands (suc most) ns h =
    let others : List ℕ = drop numbers_each ns in
    let count : ℕ = numbers_each * length (held_in most others) in
    let next : numbers_each * suc (length (held_in most others)) ≡ numbers_each + count = omega arith in
    by_pick (λ (os : List Open). ns ≡ in_numbers os ++ drop (numbers_each * length os) ns) (open_known (open_from ns))
    (λ _. front ns (omega arith)
    ∙ ap (λ (l : List ℕ). numbers_of (open_from ns) ++ l) (stands most others (rw length-drop (omega arith)) ∙ rw (drop-drop count numbers_each ns, next)))
    (λ _. refl)

pub good_is_lent : GoodIsLent
unfolding lent_as queue_in good_lent
good_is_lent ns e =
    let p = parts (eqb (length ns) lent_length) (all_zero (drop (numbers_each * length (queue_in ns)) ns)) e in
    let long : length ns ≡ lent_length = eqb-true (length ns) lent_length p.0 in
    let left : length (drop (numbers_each * length (queue_in ns)) ns) ≡ lent_length - length (in_numbers (queue_in ns)) =
    rw (length-drop, long, numbers_long (queue_in ns)) in
    stands most_waiting ns (omega arith)
    ∙ ap (λ (l : List ℕ). in_numbers (queue_in ns) ++ l) (all_zeros _ p.1 ∙ ap (λ (n : ℕ). replicate n 0) left)

pub good_exactly : GoodExactly
good_exactly ns = (
  λ e. record { opens = queue_in ns; wait = held_known ns; whole = good_is_lent ns e },
  λ l. subst (λ (n : List ℕ). good_lent n ≡ true) (sym l.whole) (lent_back l.opens l.wait).good,
)
