-- Each argument of an event that is known, also one that it lacks, lies in its range.
use Prim.Native.Nat.{ℕ}
use mathlib.Core.Bool.{Bool, true}
use mathlib.Core.List.{[], ◌∷◌}
use mathlib.Core.Path.{◌≡◌}
use Rattle.table.proofs.Laws.{one, all_hold}
use Rattle.event.specs.Table.{argument_range, within, arguments_known}

-- v lies in the range of an event's argument
abbrev pub fit : (code i v : ℕ) → Bool
fit code i v = within (argument_range code i) v

pub in_ranges : (code a b c d g h : ℕ) → arguments_known code a b c d g h ≡ true → (i : ℕ)
    → one (fit code 0 a ∷ fit code 1 b ∷ fit code 2 c ∷ fit code 3 d ∷ fit code 4 g ∷ fit code 5 h ∷ []) i ≡ true
unfolding arguments_known
in_ranges code a b c d g h = all_hold (fit code 0 a) (fit code 1 b ∷ fit code 2 c ∷ fit code 3 d ∷ fit code 4 g ∷ fit code 5 h ∷ [])
