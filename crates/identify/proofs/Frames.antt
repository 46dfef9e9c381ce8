-- The rows of HARD_RESET and SOAF in a frame, carried to the step of a valid state.
use mathlib.Core.Bool.{true, or-true}
use mathlib.Core.Path.{◌≡◌, refl}
use Rattle.table.proofs.Laws.{by_test}
use Rattle.identify.specs.Names.{hard_reset}
use Rattle.identify.specs.State.{valid_of}
use Rattle.identify.specs.Step.{quiet, on_soaf, on_hard_reset, most_of, known_of, over, move_of, step_of}
use Rattle.identify.specs.Laws.{IgnoresReset, NoResetInsideFrame, SecondSoafBeginsAnew}
use Rattle.identify.specs.declared.Identification.{Identification}

-- a HARD_RESET whose row changes nothing does nothing, with an outcome or without
ignored : (i : Identification) → valid_of i ≡ true → on_hard_reset i ≡ quiet i → IgnoresReset i
unfolding step_of known_of most_of move_of
ignored i v e =
    by_test (over i hard_reset)
    (λ t. rw (v, t) (record { same = refl; silent = refl }))
    (λ f. rw (v, f, e) (record { same = refl; silent = refl }))

pub no_reset_inside_frame : NoResetInsideFrame
unfolding on_hard_reset
no_reset_inside_frame i v =
    record {
      in_receiving = λ e. ignored i v (rw e);
      in_spoiled = λ e. ignored i v (rw e);
      after_got = λ e. ignored i v (rw (e, or-true));
    }

pub second_soaf_begins_anew : SecondSoafBeginsAnew
unfolding step_of known_of most_of move_of on_soaf
second_soaf_begins_anew i v r o = rw (v, o, r) (record { fails = refl; framed = refl; empty = refl; untyped = refl })
