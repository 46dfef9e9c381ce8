-- After an outcome every step but Enable leaves the state and reports nothing, so a run reports at most the outcome that ends its going.
use Prim.Native.Nat.{ℕ, ◌+◌, ◌≤◌}
use mathlib.Core.Bool.{false, ◌&&◌, false≢true}
use mathlib.Core.List.{List, [], ◌∷◌}
use mathlib.Core.Path.{◌≡◌, refl, sym}
use native.Mathlib.Omega.{arith}
use borrow.Author.Tests.{eqb-false, ne_eqb, leb-true, lt-leb}
use lib.Dec.{eqb, leb}
use Rattle.table.specs.Choice.{pick}
use Rattle.table.proofs.Laws.{by_pick}
use Rattle.identify.specs.Names.{enable, none, failed, complete}
use Rattle.identify.specs.Step.{fresh, known_of, move_of, step_of}
use Rattle.identify.specs.Run.{Event, results, outcomes_in, NoEnable}
use Rattle.identify.specs.Laws.{Untouched, OnlyEnable, AtMostOneOutcome}
use Rattle.identify.specs.declared.Identification.{Identification}
use Rattle.identify.specs.declared.Stepped.{Stepped}
use Rattle.identify.proofs.Shapes.{Going, Ended, Shape, going, ended, shape}
use Rattle.identify.proofs.Moves.{stays, finishes, fresh_going}
use Rattle.identify.proofs.OneStep.{Stepping, bad_state_lem, bad_event_lem, lands, stands, anew, going_none, ended_some, stepping}

pub only_enable : OnlyEnable
unfolding step_of move_of
only_enable i event argument v o k n = rw (v, k, ne_eqb i.outcome none o, ne_eqb event enable n)

-- ---- runs

-- an outcome stays, and nothing more is reported
untouched : {i : Identification} {event argument : ℕ} {s : Stepped} → Stepping i event argument s → (i.outcome ≡ none → ⊥)
    → eqb event enable && known_of event argument ≡ false → Untouched i s
untouched (bad_state_lem v) o n = record { same = refl; silent = refl }
untouched (bad_event_lem v k) o n = record { same = refl; silent = refl }
untouched (lands v k g l) o n = absurd (o (going_none g))
untouched (stands v k d f) o n = record { same = refl; silent = refl }
untouched (anew v k d t) o n = absurd (false≢true (rw (t, k) at (sym n)))

silent : (es : List Event) → NoEnable es → (i : Identification) → (i.outcome ≡ none → ⊥) → outcomes_in (results i es) ≡ 0
unfolding results
silent [] n i o = refl
silent (e ∷ es) n i o =
    let u : Untouched i (step_of i e.code e.argument) = untouched (stepping i e.code e.argument) o n.0 in
    rw (u.same, u.silent) (omega (arith, silent es n.1 i o))

after_end : (es : List Event) → NoEnable es → {i : Identification} → Ended i → outcomes_in (results i es) ≡ 0
after_end es n {i} d = silent es n i (eqb-false i.outcome none (ended_some d))

-- the outcomes of a step and of the run after it
abbrev since : List Event → Stepped → ℕ
since es s = pick (leb complete s.report) 1 0 + outcomes_in (results s.next es)

-- what is left to report where the run goes on from here, given what is left from any state without an outcome
one_more : (es : List Event) → NoEnable es → ((i : Identification) → Going i → outcomes_in (results i es) ≤ 1)
    → {i : Identification} {event argument : ℕ} {s : Stepped} → Going i → Stepping i event argument s → since es s ≤ 1
one_more es n rest {i} g (bad_state_lem v) = omega (arith, rest i g)
one_more es n rest {i} g (bad_event_lem v k) = omega (arith, rest i g)
one_more es n rest g (lands v k h (stays {i = j} {report = report} a r)) =
    rw (lt-leb complete report (omega (arith, leb-true report failed r))) (omega (arith, rest j a))
one_more es n rest g (lands v k h (finishes {i = j} d)) =
    omega (arith, by_pick (λ n. n ≤ 1) (leb complete j.outcome) {a = 1} {b = 0} (λ _. omega arith) (λ _. omega arith), after_end es n d)
one_more es n rest {i} g (stands v k d f) = omega (arith, rest i g)
one_more es n rest g (anew v k d t) = omega (arith, rest fresh fresh_going)

going_once : (es : List Event) → NoEnable es → (i : Identification) → Going i → outcomes_in (results i es) ≤ 1
unfolding results
going_once [] n i g = omega arith
going_once (e ∷ es) n i g = one_more es n.1 (going_once es n.1) g (stepping i e.code e.argument)

at_most : (es : List Event) → NoEnable es → {i : Identification} → Shape i → outcomes_in (results i es) ≤ 1
at_most es n {i} (going g) = going_once es n i g
at_most es n (ended d) = omega (arith, after_end es n d)

pub at_most_one_outcome : AtMostOneOutcome
at_most_one_outcome i v es n = at_most es n (shape i v)
