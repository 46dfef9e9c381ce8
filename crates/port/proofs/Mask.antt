-- The mask of a row of flags: its ones are as many as are set, its trailing zeros the number of the lowest, at any width; and one flag changed over is one bit changed over.
use Prim.Native.Nat.{ℕ, zero, suc, ◌+◌, ◌*◌, ◌/◌, ◌%◌, ◌^◌, ◌<◌}
use mathlib.Core.Bool.{Bool, true, false, not}
use mathlib.Core.List.{List, [], ◌∷◌}
use mathlib.Core.Path.{◌≡◌, refl, sym, ap, ◌∙◌}
use native.Mathlib.Nat.{le_of_suc-le-suc, not-suc-le-zero, pow-suc}
use native.Mathlib.Omega.{arith}
use borrow.Author.Tests.{ltb-true}
use lib.Bits.{bit_xor, differ, xor_step, xor_zero_r}
use lib.Count.{count_trailing_zeros, ones, ones_in, under, ones_step}
use lib.Dec.{ltb}
use lib.ListN.{length, get_or, set}
use lib.Seq.{set-get_or}
use Rattle.table.specs.Flags.{flag_of}
use Rattle.port.specs.Flags.{mask_of}
use Rattle.port.specs.Stages.{free_after}
use Rattle.port.specs.Laws.{OnesAreMany, ZerosAreLowest}

half : (n : ℕ) (b : Bool) → (n * 2 + flag_of b) / 2 ≡ n
half n true = omega arith
half n false = omega arith

odd : (n : ℕ) (b : Bool) → (n * 2 + flag_of b) % 2 ≡ flag_of b
odd n true = omega arith
odd n false = omega arith

-- ---- ones and trailing zeros

-- the ones are as many as are set
pub ones_are_many : OnesAreMany
unfolding mask_of ones
ones_are_many [] = refl
ones_are_many (b ∷ bs) =
    ones_step (mask_of bs * 2 + flag_of b)
    ∙ ap (λ (d : ℕ). d + ones ((mask_of bs * 2 + flag_of b) / 2)) (odd (mask_of bs) b)
    ∙ ap (λ (n : ℕ). flag_of b + ones n) (half (mask_of bs) b)
    ∙ ap (λ (n : ℕ). flag_of b + n) (ones_are_many bs)

-- where one is set, the trailing zeros are the number of the lowest, in any width that holds them all
pub zeros_are_lowest : ZerosAreLowest
unfolding mask_of count_trailing_zeros
zeros_are_lowest width [] l h = absurd (not-suc-le-zero h)
zeros_are_lowest zero (b ∷ bs) l h = absurd (not-suc-le-zero l)
zeros_are_lowest (suc width) (true ∷ bs) l h = ap (λ (d : ℕ). under d (count_trailing_zeros width ((mask_of bs * 2 + 1) / 2))) (odd (mask_of bs) true)
zeros_are_lowest (suc width) (false ∷ bs) l h =
    ap (λ (d : ℕ). under d (count_trailing_zeros width ((mask_of bs * 2 + 0) / 2))) (odd (mask_of bs) false)
    ∙ ap (λ (n : ℕ). suc (count_trailing_zeros width n)) (half (mask_of bs) false)
    ∙ ap suc (zeros_are_lowest width bs (le_of_suc-le-suc l) (omega (arith, h)))

-- a number with a one in it is not zero
none_in_zero : ones 0 ≡ 0
unfolding ones ones_in
none_in_zero = refl

-- and then its lowest one lies within the width
under_small : (d n k : ℕ) → (d ≡ 0 → n < k) → under d n < suc k
under_small zero n k h = omega (arith, h refl)
under_small (suc d) n k h = omega arith

trailing_small : (width n : ℕ) → 0 < n → n < 2 ^ width → count_trailing_zeros width n < width
unfolding count_trailing_zeros
trailing_small zero n h l = absurd (omega arith)
trailing_small (suc width) n h l =
    under_small (n % 2) (count_trailing_zeros width (n / 2)) width
    (λ z. trailing_small width (n / 2) (omega arith) (omega (arith, pow-suc 2 width)))

pub lowest_small : (n : ℕ) → n < 2 ^ 64 → ltb 0 (ones n) ≡ true → count_trailing_zeros 64 n < 64
lowest_small zero l h = absurd (omega (arith, ltb-true 0 (ones 0) h, none_in_zero))
lowest_small (suc n) l h = trailing_small 64 (suc n) (omega arith) l

-- ---- one bit

-- a bit changed over in the mask is a flag changed over in the row
toggled : (bs : List Bool) (i : ℕ) → i < length bs → bit_xor (mask_of bs) (2 ^ i) ≡ mask_of (set bs i (not (get_or bs i false)))
unfolding mask_of
toggled [] i l = absurd (not-suc-le-zero l)
toggled (b ∷ bs) zero l =
    xor_step (mask_of bs * 2 + flag_of b) 1
    ∙ (λ i. bit_xor (half (mask_of bs) b i) 0 * 2 + differ (odd (mask_of bs) b i) 1)
    ∙ (λ i. xor_zero_r (mask_of bs) i * 2 + differs b i)
  where
    differs : (x : Bool) → differ (flag_of x) 1 ≡ flag_of (not x)
    differs true = refl
    differs false = refl
toggled (b ∷ bs) (suc i) l =
    xor_step (mask_of bs * 2 + flag_of b) (2 ^ suc i)
    ∙ (λ j. bit_xor (half (mask_of bs) b j) (halved j) * 2 + differ (odd (mask_of bs) b j) (even j))
    ∙ (λ j. toggled bs i (le_of_suc-le-suc l) j * 2 + same b j)
  where
    halved : 2 ^ suc i / 2 ≡ 2 ^ i
    halved = omega (arith, pow-suc 2 i)

    even : 2 ^ suc i % 2 ≡ 0
    even = omega (arith, pow-suc 2 i)

    same : (x : Bool) → differ (flag_of x) 0 ≡ flag_of x
    same true = refl
    same false = refl

-- so the mask follows the row
pub mask_set : (bs : List Bool) (i : ℕ) (was is : Bool) → i < length bs → get_or bs i false ≡ was → free_after (mask_of bs) i was is ≡ mask_of (set bs i is)
unfolding free_after
mask_set bs i true true l e = ap mask_of (sym (set-get_or bs i false) ∙ ap (set bs i) e)
mask_set bs i true false l e = toggled bs i l ∙ ap (λ (b : Bool). mask_of (set bs i (not b))) e
mask_set bs i false true l e = toggled bs i l ∙ ap (λ (b : Bool). mask_of (set bs i (not b))) e
mask_set bs i false false l e = ap mask_of (sym (set-get_or bs i false) ∙ ap (set bs i) e)
