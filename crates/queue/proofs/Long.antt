-- A queue stays as long as it was lent, whatever joins it or goes: each number is put in the place of another.
use Prim.Native.Nat.{ℕ, ◌-◌, ◌*◌, ◌≤◌}
use mathlib.Core.Bool.{◌&&◌}
use mathlib.Core.List.{List, [], ◌∷◌, ◌++◌}
use mathlib.Core.Path.{◌≡◌, refl}
use native.Mathlib.Omega.{arith}
use borrow.Author.Tests.{leb-true, eqb-true}
use lib.Dec.{eqb, leb, ltb}
use lib.ListN.{length, take, drop, replicate, length-append, length-drop}
use lib.Seq.{length-sets, length-take-le}
use Rattle.table.proofs.Laws.{by_pick, all_hold}
use Rattle.event.specs.declared.Open.{Open}
use Rattle.queue.specs.Lent.{most_waiting, numbers_each, lent_length, numbers_of, joined, advanced}
use Rattle.queue.specs.Laws.{StayLong}

joined_long : (ns : List ℕ) (waiting : ℕ) (o : Open) → length (joined ns waiting o) ≡ length ns
unfolding joined
joined_long ns waiting o =
    by_pick (λ (l : List ℕ). length l ≡ length ns) (ltb waiting most_waiting && eqb (length ns) lent_length)
    (λ _. length-sets ns (numbers_each * waiting) (numbers_of o))
    (λ _. refl)

shifted : (ns : List ℕ) (waiting : ℕ) → 1 ≤ waiting → waiting ≤ most_waiting → length ns ≡ lent_length
    → length (take (numbers_each * (waiting - 1)) (drop numbers_each ns) ++ replicate numbers_each 0 ++ drop (numbers_each * waiting) ns) ≡ length ns
shifted ns waiting some few long =
    let others : List ℕ = drop numbers_each ns in
    let l : length others ≡ length ns - numbers_each = length-drop numbers_each ns in
    let m : length (take (numbers_each * (waiting - 1)) others) ≡ numbers_each * (waiting - 1) = length-take-le (numbers_each * (waiting - 1)) others (omega (arith, l, long)) in
    omega (arith, length-append (take (numbers_each * (waiting - 1)) others ++ replicate numbers_each 0) (drop (numbers_each * waiting) ns), length-append (take (numbers_each * (waiting - 1)) others) (replicate numbers_each 0), length-drop (numbers_each * waiting) ns, m, long)

advanced_long : (ns : List ℕ) (waiting : ℕ) → length (advanced ns waiting) ≡ length ns
unfolding advanced
advanced_long ns waiting =
    by_pick (λ (l : List ℕ). length l ≡ length ns) (leb 1 waiting && leb waiting most_waiting && eqb (length ns) lent_length)
    (λ t. let q = all_hold (leb 1 waiting) (leb waiting most_waiting ∷ eqb (length ns) lent_length ∷ []) t in shifted ns waiting (leb-true 1 waiting (q 0)) (leb-true waiting most_waiting (q 1)) (eqb-true (length ns) lent_length (q 2)))
    (λ _. refl)

pub stay_long : StayLong
stay_long ns waiting = record { joined = λ o. joined_long ns waiting o; advanced = advanced_long ns waiting }
