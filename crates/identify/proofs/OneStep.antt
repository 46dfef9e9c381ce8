-- The one case analysis of a step, of any record by any numbers: a state without an outcome goes as its event says, one with an outcome
-- stands still but for Enable. Validity is kept since each case leads to a shape.
use Prim.Native.Nat.{ℕ}
use mathlib.Core.Bool.{true, false}
use mathlib.Core.Path.{◌≡◌, refl}
use borrow.Author.Tests.{eqb-true}
use lib.Dec.{eqb}
use Rattle.table.specs.Choice.{rows}
use Rattle.table.specs.Refusals.{bad_state, bad_event}
use Rattle.table.proofs.Laws.{by_test}
use Rattle.identify.specs.Names.{enable, none}
use Rattle.identify.specs.State.{valid_of}
use Rattle.identify.specs.Step.{fresh, quiet, refused, known_of, moves, move_of, step_of}
use Rattle.identify.specs.Laws.{FreshValid, StaysValid}
use Rattle.identify.specs.declared.Identification.{Identification}
use Rattle.identify.specs.declared.Stepped.{Stepped}
use Rattle.identify.proofs.Shapes.{Going, awaits, holds, Ended, joined, late, was_reset, Shape, going, ended, shape, shape_valid}
use Rattle.identify.proofs.Moves.{Lands, stays, finishes, fresh_going, table_lands}

pub data Stepping (i : Identification) (event argument : ℕ) : Stepped → Type 0 where
  bad_state_lem : valid_of i ≡ false → Stepping i event argument (refused i bad_state)
  bad_event_lem : valid_of i ≡ true → known_of event argument ≡ false → Stepping i event argument (refused i bad_event)
  lands : {s : Stepped} → valid_of i ≡ true → known_of event argument ≡ true → Going i → Lands s → Stepping i event argument s
  stands : valid_of i ≡ true → known_of event argument ≡ true → Ended i → eqb event enable ≡ false → Stepping i event argument (quiet i)
  anew : valid_of i ≡ true → known_of event argument ≡ true → Ended i → eqb event enable ≡ true → Stepping i event argument (quiet fresh)

pub going_none : {i : Identification} → Going i → i.outcome ≡ none
going_none (awaits p k) = refl
going_none holds = refl

pub ended_some : {i : Identification} → Ended i → eqb i.outcome none ≡ false
ended_some joined = refl
ended_some (late p) = refl
ended_some (was_reset p e k) = refl

going_moves : {i : Identification} (event argument : ℕ) → Going i → move_of i event argument ≡ rows event (moves i argument) (quiet i)
unfolding move_of
going_moves event argument g = rw (going_none g)

ended_stands : {i : Identification} (event argument : ℕ) → Ended i → eqb event enable ≡ false → move_of i event argument ≡ quiet i
unfolding move_of
ended_stands event argument d f = rw (ended_some d, f)

ended_anew : {i : Identification} (event argument : ℕ) → Ended i → eqb event enable ≡ true → move_of i event argument ≡ quiet fresh
unfolding move_of
ended_anew event argument d t = rw (eqb-true event enable t, ended_some d)

moving : {i : Identification} (event argument : ℕ) → valid_of i ≡ true → known_of event argument ≡ true → Shape i → Stepping i event argument (move_of i event argument)
moving event argument v k (going g) = rw (going_moves event argument g) (lands v k g (table_lands event argument g))
moving event argument v k (ended d) =
    by_test (eqb event enable)
    (λ t. rw (ended_anew event argument d t) (anew v k d t))
    (λ f. rw (ended_stands event argument d f) (stands v k d f))

pub stepping : (i : Identification) (event argument : ℕ) → Stepping i event argument (step_of i event argument)
unfolding step_of
stepping i event argument =
    by_test (valid_of i)
    (λ v. by_test (known_of event argument)
    (λ k. rw (v, k) (moving event argument v k (shape i v)))
    (λ k. rw (v, k) (bad_event_lem v k)))
    (λ v. rw v (bad_state_lem v))

-- ---- validity

pub fresh_valid : FreshValid
fresh_valid = shape_valid (going fresh_going)

kept : {i : Identification} {event argument : ℕ} {s : Stepped} → valid_of i ≡ true → Stepping i event argument s → valid_of s.next ≡ true
kept v (bad_state_lem f) = v
kept v (bad_event_lem w k) = v
kept v (lands w k g (stays h r)) = shape_valid (going h)
kept v (lands w k g (finishes d)) = shape_valid (ended d)
kept v (stands w k d f) = v
kept v (anew w k d t) = fresh_valid

pub stays_valid : StaysValid
stays_valid i event argument v = kept v (stepping i event argument)
