-- What is held: each Open is known, since the definition asks it, and takes one from the most that may be held.
use Prim.Native.Nat.{ℕ, zero, suc, ◌≤◌}
use mathlib.Core.List.{List}
use native.Mathlib.Omega.{arith}
use lib.ListN.{length, drop}
use Rattle.table.proofs.Laws.{by_pick}
use Rattle.event.specs.Table.{open_known}
use Rattle.event.specs.declared.Open.{Open}
use Rattle.queue.specs.Lent.{most_waiting, numbers_each, open_from, held_in, queue_in}
use Rattle.queue.specs.Laws.{AllKnown, HeldKnown}

few_from : (most : ℕ) (ns : List ℕ) → length (held_in most ns) ≤ most
unfolding held_in
few_from zero ns = omega arith
few_from (suc most) ns =
    by_pick (λ (os : List Open). length os ≤ suc most) (open_known (open_from ns))
    (λ _. omega (arith, few_from most (drop numbers_each ns)))
    (λ _. omega arith)

known_from : (most : ℕ) (ns : List ℕ) → AllKnown (held_in most ns)
unfolding held_in
known_from zero ns = tt
known_from (suc most) ns =
    by_pick AllKnown (open_known (open_from ns)) (λ known. (known, known_from most (drop numbers_each ns))) (λ _. tt)

pub held_known : HeldKnown
unfolding queue_in
held_known ns = record { known = known_from most_waiting ns; few = few_from most_waiting ns }
