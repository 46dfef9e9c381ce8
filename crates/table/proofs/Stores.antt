-- Laws of a run of stores into a buffer: one after another, and what stands up to its end and from its place on.
use Prim.Native.Nat.{ℕ, suc, ◌+◌, ◌≤◌}
use mathlib.Core.List.{List, [], ◌∷◌, ◌++◌, append_assoc}
use mathlib.Core.Path.{◌≡◌, refl, sym, ap, ◌∙◌}
use native.Mathlib.Nat.{add-suc, suc-add, add-zero}
use native.Mathlib.Omega.{arith}
use lib.ListN.{length, take, drop, set, length-append}
use lib.Seq.{sets, sets-eq, length-take-le, take_at, drop_at}

-- two runs end to end are one after the other
pub sets_on : (buffer xs ys : List ℕ) (at : ℕ) → sets buffer at (xs ++ ys) ≡ sets (sets buffer at xs) (at + length xs) ys
sets_on buffer [] ys at = ap (λ (n : ℕ). sets buffer n ys) (sym (add-zero at))
sets_on buffer (x ∷ xs) ys at =
    sets_on (set buffer at x) xs ys (suc at) ∙ ap (λ (n : ℕ). sets (sets (set buffer at x) (suc at) xs) n ys) (suc-add at (length xs) ∙ sym (add-suc at (length xs)))

module _ (buffer xs : List ℕ) (at : ℕ) (h : at + length xs ≤ length buffer) where
  -- up to its end: what stood before it, and then the run
  pub stored_to : take (at + length xs) (sets buffer at xs) ≡ take at buffer ++ xs
  stored_to =
      ap (take (at + length xs)) (sets-eq xs buffer at h)
      ∙ take_at (take at buffer ++ xs) (drop (at + length xs) buffer) (at + length xs) (rw (length-append, length-take-le at buffer (omega arith)) refl)

  -- from its place on: the run, and then what stood behind it
  pub stored_from : drop at (sets buffer at xs) ≡ xs ++ drop (at + length xs) buffer
  stored_from =
      ap (drop at) (sets-eq xs buffer at h ∙ append_assoc (take at buffer) xs (drop (at + length xs) buffer))
      ∙ drop_at (take at buffer) (xs ++ drop (at + length xs) buffer) at (length-take-le at buffer (omega arith))
