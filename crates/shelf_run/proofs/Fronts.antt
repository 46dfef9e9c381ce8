-- As many records as fit, of a row and of a table. Assumes nothing.
use mathlib.Core.Path.{◌≡◌}
use Prim.Native.Nat.{ℕ, ◌≤◌, min}
use native.Mathlib.Omega.{arith}
use borrow.Author.Tests.{lt-ltb, le-ltb}
use Rattle.table.proofs.Laws.{by_order}
use Rattle.port.specs.Names.{most_phys}
use Rattle.shelf_run.specs.Rows.{fitting}

-- the code's words for it
pub as_fitting : (n : ℕ) → min n most_phys ≡ fitting n
unfolding fitting
as_fitting n = by_order n most_phys (λ l. rw (lt-ltb n most_phys l) (omega (arith, l))) (λ g. rw (le-ltb n most_phys g) (omega (arith, g)))

-- as many as fit are within the row, and within a table
pub fits : (n : ℕ) → (fitting n ≤ n) × (fitting n ≤ most_phys)
fits n = rw (← as_fitting n) (omega arith, omega arith)
