-- The definition takes one digit after the other off the end of a number, as the library's does, and stops at one that is left;
-- it may take off more digits than the number has, and it is all the same how many more.
use Prim.Native.Nat.{ℕ, zero, suc, ◌*◌, ◌/◌, ◌%◌, ◌^◌, ◌≤◌, ◌<◌}
use mathlib.Core.List.{List, [], ◌∷◌, ◌++◌}
use mathlib.Core.Path.{◌≡◌, refl, sym, ap, ◌∙◌}
use native.Mathlib.Nat.{le_refl, pow-succ'}
use native.Mathlib.Omega.{arith}
use borrow.Author.Tests.{lt-ltb, le-ltb}
use lib.Dec.{ltb}
use lib.ListN.{length, length-append}
use Rattle.std.specs.Fmt.{decimal as written}
use Rattle.std.proofs.lemmas.Fmt.{decimal_by_steps}
use Rattle.table.proofs.Laws.{by_order, by_pick}
use Rattle.output.specs.Decimal.{digit, digits_of, decimal}
use Rattle.output.specs.Writing.{more_of, more, line}

one_digit : (more n : ℕ) → n < 10 → digits_of more n ≡ digit n ∷ []
unfolding digits_of
one_digit zero n h = refl
one_digit (suc more) n h = rw (lt-ltb n 10 h)

same_digits : (j k n : ℕ) → n ≤ j → n ≤ k → digits_of j n ≡ digits_of k n
unfolding digits_of
same_digits zero k n h l = sym (one_digit k n (omega arith))
same_digits (suc j) zero n h l = one_digit (suc j) n (omega arith)
same_digits (suc j) (suc k) n h l =
    by_order n 10
    (λ small. one_digit (suc j) n small ∙ sym (one_digit (suc k) n small))
    (λ large. rw (le-ltb n 10 large) (ap (λ (ds : List ℕ). ds ++ (digit (n % 10) ∷ [])) (same_digits j k (n / 10) (omega arith) (omega arith))))

pub decimal_small : (n : ℕ) → n < 10 → decimal n ≡ digit n ∷ []
unfolding decimal
decimal_small n h = one_digit n n h

-- the last digit of a number with more comes behind the others
decimal_large : (n : ℕ) → 10 ≤ n → decimal n ≡ decimal (n / 10) ++ (digit (n % 10) ∷ [])
unfolding decimal digits_of
decimal_large zero h = absurd (omega arith)
decimal_large (suc k) h =
    rw (le-ltb (suc k) 10 h)
    (ap (λ (ds : List ℕ). ds ++ (digit (suc k % 10) ∷ [])) (same_digits k (suc k / 10) (suc k / 10) (omega arith) (le_refl (suc k / 10))))

-- two digits, where there are no more
pub decimal_pair : (n : ℕ) → 10 ≤ n → n < 100 → decimal n ≡ digit (n / 10) ∷ digit (n % 10) ∷ []
decimal_pair n large small = rw (decimal_large n large, decimal_small (n / 10) (omega arith)) refl

-- what the library writes of a number of 64 bits
pub decimal_written : (n : ℕ) → n < 2 ^ 64 → written n ≡ decimal n
decimal_written =
    decimal_by_steps (λ n ds. ds ≡ decimal n)
    (λ n small. sym (decimal_small n small))
    (λ n ds large e. ap (λ (l : List ℕ). l ++ (digit (n % 10) ∷ [])) e ∙ sym (decimal_large n large))

-- ---- how many they are

-- one digit for each power of ten that is taken
digits_short : (k more n : ℕ) → n < 10 ^ suc k → length (digits_of more n) ≤ suc k
unfolding digits_of
digits_short zero more n h = rw (one_digit more n h) (omega arith)
digits_short (suc k) zero n h = omega arith
digits_short (suc k) (suc more) n h =
    by_pick (λ (ds : List ℕ). length ds ≤ suc (suc k)) (ltb n 10)
    (λ _. omega arith)
    (λ _. rw length-append (omega (arith, digits_short k more (n / 10) (omega (arith, pow-succ' 10 (suc k))))))

-- a number of 64 bits has twenty digits at most
decimal_short : (n : ℕ) → n < 2 ^ 64 → length (decimal n) ≤ 20
unfolding decimal
decimal_short n h = digits_short 19 n n (omega arith)

-- all these are numbers of 64 bits
abbrev pub Small : List ℕ → Type 0
Small [] = Unit
Small (v ∷ vs) = (v < 2 ^ 64) × Small vs

pub more_short : (numbers : List ℕ) → Small numbers → length (more numbers) ≤ 21 * length numbers
unfolding more_of
more_short [] h = omega arith
more_short (v ∷ vs) h = rw length-append (omega (arith, decimal_short v h.0, more_short vs h.1))

pub line_short : (first : ℕ) (others : List ℕ) → Small (first ∷ others) → length (line first others) ≤ 21 * suc (length others)
line_short first others h = simp length-append (omega (arith, decimal_short first h.0, more_short others h.1))
