-- What the table says of an event whose code has no arm in the code's choices: of the time stamp one argument, of any other none.
use Prim.Native.Nat.{ℕ, zero, suc}
use mathlib.Core.Bool.{Bool, true, false, ◌&&◌}
use mathlib.Core.List.{List, [], ◌∷◌}
use mathlib.Core.Path.{◌≡◌, refl, sym, ap, ◌∙◌}
use borrow.Author.Tests.{ne_eqb}
use mir.Val.{bool_byte}
use lib.Dec.{eqb, leb, leb-zero}
use lib.ListN.{length}
use Rattle.table.specs.Choice.{pick}
use Rattle.event.specs.Names.{tx_open, open_received, open_reject_received, time_stamp, most_counter}
use Rattle.event.specs.Table.{◌to◌, stamp_arguments, arguments_of, argument_count, range_at, argument_range, arguments_known}
use Rattle.event.specs.declared.Range.{Range}

-- its arguments, and the most of the only one
abbrev few : (stamp : Bool) → List Range
few stamp = pick stamp stamp_arguments []

abbrev most : (stamp : Bool) → ℕ
most stamp = pick stamp most_counter 0

counted : (stamp : Bool) → bool_byte stamp ≡ length (few stamp)
counted true = refl
counted false = refl

-- an argument that is zero is as good as none
ranged : (stamp : Bool) (i : ℕ) → range_at ((0 to most stamp) ∷ []) i ≡ range_at (few stamp) i
ranged true i = refl
ranged false zero = refl
ranged false (suc i) = refl

-- the code has no arm
abbrev Armless : ℕ → Type 0
Armless code = ((Unit × (code ≡ tx_open → ⊥)) × (code ≡ open_received → ⊥)) × (code ≡ open_reject_received → ⊥)

module _ (code : ℕ) (o : Armless code) where
  arguments : arguments_of code ≡ few (eqb code time_stamp)
  arguments = rw (ne_eqb code tx_open o.0.0.1, ne_eqb code open_received o.0.1, ne_eqb code open_reject_received o.1) refl

  pub other_count : bool_byte (eqb code time_stamp) ≡ argument_count code
  unfolding argument_count
  other_count = counted (eqb code time_stamp) ∙ ap length (sym arguments)

  pub other_range : (i : ℕ) → range_at ((0 to most (eqb code time_stamp)) ∷ []) i ≡ argument_range code i
  unfolding argument_range
  other_range i = ranged (eqb code time_stamp) i ∙ ap (λ (l : List Range). range_at l i) (sym arguments)

  pub other_known : (a b c d e f : ℕ)
      → leb a (most (eqb code time_stamp)) && leb b 0 && leb c 0 && leb d 0 && leb e 0 && leb f 0 ≡ arguments_known code a b c d e f
  unfolding arguments_known
  other_known a b c d e f = rw (← other_range 0, ← other_range 1, ← other_range 2, ← other_range 3, ← other_range 4, ← other_range 5) (simp leb-zero)
