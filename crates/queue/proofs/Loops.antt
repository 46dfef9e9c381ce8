-- The Opens that wait, counted one by one: those behind the ones that are counted are still to come.
use Prim.Native.Nat.{ℕ, suc, ◌+◌, ◌-◌, ◌*◌, ◌≤◌, ◌<◌}
use mathlib.Core.Bool.{true, false}
use mathlib.Core.List.{List}
use mathlib.Core.Path.{◌≡◌, ap, ◌∙◌}
use native.Mathlib.Omega.{arith}
use lib.ListN.{length, drop}
use lib.Seq.{drop-drop}
use Rattle.event.specs.Table.{open_known}
use Rattle.queue.specs.Lent.{most_waiting, numbers_each, open_from, held_in, queue_in}

-- what is still to come behind so many
abbrev behind : (ns : List ℕ) (waiting left : ℕ) → ℕ
behind ns waiting left = length (held_in left (drop (numbers_each * waiting) ns))

pub record Counted (ns : List ℕ) (waiting : ℕ) : Type 0 where
  pub whole : length (queue_in ns) ≡ waiting + behind ns waiting (most_waiting - waiting)

pub counted_start : (ns : List ℕ) → Counted ns 0
unfolding queue_in
counted_start ns = record { whole = omega arith }

module _ {ns : List ℕ} {waiting : ℕ} (c : Counted ns waiting) where
  module _ (h : waiting < most_waiting) where
    one : most_waiting - waiting ≡ suc (most_waiting - (waiting + 1))
    one = omega arith

    whole_less : length (queue_in ns) ≡ waiting + behind ns waiting (suc (most_waiting - (waiting + 1)))
    whole_less = c.whole ∙ ap (λ (n : ℕ). waiting + behind ns waiting n) one

    pub counted_more : open_known (open_from (drop (numbers_each * waiting) ns)) ≡ true → Counted ns (waiting + 1)
    unfolding held_in
    counted_more k =
        let next : numbers_each * waiting + numbers_each ≡ numbers_each * (waiting + 1) = omega arith in
        record { whole = omega (arith, rw (k, drop-drop numbers_each (numbers_each * waiting) ns, next) at whole_less) }

    pub counted_none : open_known (open_from (drop (numbers_each * waiting) ns)) ≡ false → waiting ≡ length (queue_in ns)
    unfolding held_in
    counted_none k = omega (arith, rw k at whole_less)

  pub counted_all : most_waiting ≤ waiting → waiting ≤ most_waiting → most_waiting ≡ length (queue_in ns)
  unfolding held_in
  counted_all h few =
      let none : most_waiting - waiting ≡ 0 = omega arith in
      omega (arith, rw none at c.whole)

-- one for each goal of the loop
pub ruleset counting = (counted_start, counted_more, counted_none, counted_all)
