-- Small facts on tests: what a disjunction and a field's rule say.
use Prim.Native.Nat.{ℕ}
use mathlib.Core.Bool.{Bool, true, false, ◌||◌, false≢true}
use mathlib.Core.Path.{◌≡◌, refl, sym, subst}
use borrow.Author.Tests.{eqb-true}
use lib.Dec.{eqb}
use Rattle.table.specs.Choice.{split}

-- by the part of a test that holds
pub either : {A : Type 0} (a b : Bool) → a || b ≡ true → (a ≡ true → A) → (b ≡ true → A) → A
either true b e f g = f refl
either false b e f g = g e

-- a number that a test names
pub at_number : (P : ℕ → Type 0) (n k : ℕ) → eqb n k ≡ true → P k → P n
at_number P n k e p = subst P (sym (eqb-true n k e)) p

-- a field in use is in its range
pub in_range_lem : (range zero : Bool) → split true range zero ≡ true → range ≡ true
in_range_lem true zero e = refl
in_range_lem false zero e = absurd (false≢true e)

pub in_use_lem : (range zero : Bool) → range ≡ true → split true range zero ≡ true
in_use_lem range zero e = rw e
