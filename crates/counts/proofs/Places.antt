-- Where a counter is: a bay that has a row and a column that is one lie within the rows.
use Prim.Native.Nat.{ℕ, ◌<◌}
use mathlib.Core.Bool.{true, false}
use mathlib.Core.List.{List, []}
use mathlib.Core.Path.{◌≡◌, refl, ap, ◌∙◌}
use borrow.Author.Tests.{ltb-true, lt-ltb}
use lib.Dec.{ltb}
use lib.ListN.{set, get_or}
use lib.Seq.{set-get_or}
use Rattle.table.proofs.Laws.{parts}
use Rattle.counts.specs.Names.{row_count, column_count, ceiling}
use Rattle.counts.specs.Counters.{Counters, counter_at, is_counter, refusal_at, raised_at}
use Rattle.counts.specs.Lent.{lent_raised_at}

pub record There (bay column : ℕ) : Type 0 where
  pub row : bay < row_count
  pub within : column < column_count

pub there : (bay column : ℕ) → is_counter bay column ≡ true → There bay column
there bay column h =
    let row = ltb-true bay row_count (parts (ltb bay row_count) (ltb column column_count) h).0 in
    let col = ltb-true column column_count (parts (ltb bay row_count) (ltb column column_count) h).1 in
    record { row = row; within = col }

-- a counter at its ceiling stays, and so do all
module _ (t : Counters) (bay column : ℕ) where
  pub raised_full : ltb (counter_at t bay column) ceiling ≡ false → raised_at t bay column ≡ t
  raised_full h = rw h (ap (set t bay) (set-get_or (get_or t bay []) column 0) ∙ set-get_or t bay [])

pub lent_full : (ns : List ℕ) (place : ℕ) → ltb (get_or ns place 0) ceiling ≡ false → lent_raised_at ns place ≡ ns
lent_full ns place h = rw h (set-get_or ns place 0)

-- what is there is not refused
pub not_refused : (bay column : ℕ) → is_counter bay column ≡ true → refusal_at bay column ≡ 0
not_refused bay column h = rw (lt-ltb bay row_count (there bay column h).row, lt-ltb column column_count (there bay column h).within) refl
