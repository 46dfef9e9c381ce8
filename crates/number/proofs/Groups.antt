-- The number rule over the count of groups that may still follow: one group off the reader's or the writer's definition.
use Prim.Native.Nat.{ℕ, zero, suc, ◌+◌, ◌*◌, ◌/◌, ◌%◌, ◌≤◌, ◌<◌}
use mathlib.Core.List.{[], ◌∷◌}
use mathlib.Core.Path.{◌≡◌, refl}
use native.Mathlib.Omega.{arith}
use borrow.Author.Tests.{lt-ltb, le-ltb}
use Rattle.number.specs.Reading.{high}
use Rattle.number.specs.Writing.{bytes_of}

-- all values below it fit into a group and `later` more, the last of which is below 2
abbrev pub cap : ℕ → ℕ
cap zero = 2
cap (suc later) = high * cap later

pub cap_two : (later : ℕ) → 2 ≤ cap later
cap_two zero = omega arith
cap_two (suc later) = omega (arith, cap_two later)

-- a value of more than one group: its first byte, and what is left of it
pub record More (later v : ℕ) : Type 0 where
  pub left : ℕ
  pub one : later ≡ suc left
  pub small : v / high < cap left
  pub bytes : bytes_of later v ≡ (high + v % high) ∷ bytes_of left (v / high)

-- at `zero` no value of more than one group fits
pub more : (later v : ℕ) → v < cap later → high ≤ v → More later v
unfolding bytes_of
more zero v h k = absurd (omega arith)
more (suc later) v h k =
    record {
      left = later;
      one = refl;
      small = omega arith;
      bytes = rw (le-ltb v high k);
    }

-- a value below 128 is its one byte
pub last : (later v : ℕ) → v < high → bytes_of later v ≡ v ∷ []
unfolding bytes_of
last zero v h = refl
last (suc later) v h = rw (lt-ltb v high h)
