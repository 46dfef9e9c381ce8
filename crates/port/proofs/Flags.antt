-- One flag of a row changed: how many are set then, and where the lowest is.
use Prim.Native.Nat.{ℕ, zero, suc, ◌+◌, ◌<◌}
use mathlib.Core.Bool.{Bool, true, false}
use mathlib.Core.List.{List, [], ◌∷◌}
use mathlib.Core.Path.{◌≡◌, refl, ap}
use native.Mathlib.Nat.{le_of_suc-le-suc, not-suc-le-zero}
use native.Mathlib.Omega.{arith}
use lib.ListN.{length, set, get_or}
use Rattle.table.specs.Flags.{flag_of}
use Rattle.port.specs.Flags.{how_many, lowest}
use Rattle.port.specs.Laws.{Least, LowestIsLeast}

-- how many are set, once one is changed
pub many_set : (bs : List Bool) (i : ℕ) (b : Bool) → i < length bs → how_many (set bs i b) + flag_of (get_or bs i false) ≡ how_many bs + flag_of b
many_set [] i b l = absurd (not-suc-le-zero l)
many_set (x ∷ bs) zero b l = omega arith
many_set (x ∷ bs) (suc i) b l = omega (arith, many_set bs i b (le_of_suc-le-suc l))

-- none of a row is set where how many is 0
pub none_set : (bs : List Bool) (i : ℕ) → how_many bs ≡ 0 → get_or bs i false ≡ false
none_set [] i h = refl
none_set (true ∷ bs) i h = absurd (omega arith)
none_set (false ∷ bs) zero h = refl
none_set (false ∷ bs) (suc i) h = none_set bs i (omega arith)

-- the only one that is set is the lowest
pub lowest_only : (bs : List Bool) (i : ℕ) → i < length bs → how_many bs ≡ 0 → lowest (set bs i true) ≡ i
lowest_only [] i l h = absurd (not-suc-le-zero l)
lowest_only (x ∷ bs) zero l h = refl
lowest_only (true ∷ bs) (suc i) l h = absurd (omega arith)
lowest_only (false ∷ bs) (suc i) l h = ap suc (lowest_only bs i (le_of_suc-le-suc l) (omega arith))

-- where one is set, the lowest is, lies in the row, and none before it is
pub lowest_is_least : LowestIsLeast
lowest_is_least [] h = absurd (not-suc-le-zero h)
lowest_is_least (true ∷ flags) h = record { there = omega arith; set = refl; none_before = λ i l. absurd (not-suc-le-zero l) }
lowest_is_least (false ∷ flags) h =
    let r = lowest_is_least flags (omega (arith, h)) in
    record { there = omega (arith, r.there); set = r.set; none_before = before r }
  where
    before : Least flags → (i : ℕ) → i < suc (lowest flags) → get_or (false ∷ flags) i false ≡ false
    before r zero l = refl
    before r (suc i) l = r.none_before i (le_of_suc-le-suc l)
