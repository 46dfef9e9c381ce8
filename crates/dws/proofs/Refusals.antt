-- Each refusal exactly when: the tests of the step are those of the statements.
use Prim.Native.Nat.{ℕ, ◌≤◌, ◌<◌}
use mathlib.Core.Path.{◌≡◌, refl}
use native.Mathlib.Omega.{arith}
use borrow.Author.Tests.{le-leb, lt-leb}
use Rattle.table.specs.Refusals.{bad_state, bad_event}
use Rattle.table.proofs.Laws.{by_order, Each, each}
use Rattle.dws.specs.Names.{lost3_recovered, restart}
use Rattle.dws.specs.Step.{refused, moved, step_of, next_state, after_invalid, after_valid, after_primitive, report_of}
use Rattle.dws.specs.Laws.{BadStateExactly, BadEventExactly, NotRefusedExactly, RefusedKeeps, StaysValid, RestartQuiet}
use Rattle.dws.specs.declared.Stepped.{Stepped}

-- ---- the three ways of a step

pub bad_state_lem : (s event : ℕ) → lost3_recovered < s → step_of s event ≡ refused s bad_state
unfolding step_of
bad_state_lem s event h = rw (lt-leb s lost3_recovered h)

pub bad_event_lem : (s event : ℕ) → s ≤ lost3_recovered → restart < event → step_of s event ≡ refused s bad_event
unfolding step_of
bad_event_lem s event h k = rw (le-leb s lost3_recovered h, lt-leb event restart k)

pub taken : (s event : ℕ) → s ≤ lost3_recovered → event ≤ restart → step_of s event ≡ moved s event
unfolding step_of
taken s event h k = rw (le-leb s lost3_recovered h, le-leb event restart k)

-- what holds of a refusal holds of a step, by which way it goes
pub by_way :
    (P : Stepped → Type 0) (s event : ℕ)
    → (lost3_recovered < s → P (refused s bad_state))
    → (s ≤ lost3_recovered → restart < event → P (refused s bad_event))
    → (s ≤ lost3_recovered → event ≤ restart → P (moved s event))
    → P (step_of s event)
by_way P s event a b c =
    by_order lost3_recovered s
    (λ h. rw (bad_state_lem s event h) (a h))
    (λ h. by_order restart event
    (λ k. rw (bad_event_lem s event h k) (b h k))
    (λ k. rw (taken s event h k) (c h k)))

pub bad_state_exactly : BadStateExactly
bad_state_exactly s event = (
  by_way (λ r. r.refusal ≡ bad_state → lost3_recovered < s) s event (λ h e. h) (λ h k e. absurd (omega arith)) (λ h k e. absurd (omega arith)),
  λ h. rw (bad_state_lem s event h),
)

pub bad_event_exactly : BadEventExactly
bad_event_exactly s event = (
  by_way (λ r. r.refusal ≡ bad_event → (s ≤ lost3_recovered) × (restart < event)) s event (λ h e. absurd (omega arith)) (λ h k e. (h, k)) (λ h k e. absurd (omega arith)),
  λ h. rw (bad_event_lem s event h.0 h.1),
)

pub not_refused_exactly : NotRefusedExactly
not_refused_exactly s event = (
  by_way (λ r. r.refusal ≡ 0 → (s ≤ lost3_recovered) × (event ≤ restart)) s event (λ h e. absurd (omega arith)) (λ h k e. absurd (omega arith)) (λ h k e. (h, k)),
  λ h. rw (taken s event h.0 h.1),
)

pub refused_keeps : RefusedKeeps
refused_keeps s event =
    by_way (λ r. (r.refusal ≡ 0 → ⊥) → r ≡ refused s r.refusal) s event (λ h n. refl) (λ h k n. refl) (λ h k n. absurd (n refl))

-- ---- at each state and event, by computing

at_each_state : (f : ℕ → ℕ) → Each (λ n. f n ≤ lost3_recovered) 10 → (s : ℕ) → s ≤ lost3_recovered → f s ≤ lost3_recovered
at_each_state f e s h = each (λ n. f n ≤ lost3_recovered) 10 e s (omega arith)

next_valid : (s event : ℕ) → s ≤ lost3_recovered → event ≤ restart → next_state s event ≤ lost3_recovered
unfolding next_state after_invalid after_valid after_primitive
next_valid s event h k =
    each (λ e. next_state s e ≤ lost3_recovered) 4 (
      (((tt, at_each_state after_invalid (omega arith) s h), at_each_state after_valid (omega arith) s h), at_each_state after_primitive (omega arith) s h),
      omega arith,
    )
    event (omega arith)

pub stays_valid : StaysValid
stays_valid s event v = by_way (λ r. r.state ≤ lost3_recovered) s event (λ h. absurd (omega arith)) (λ h k. h) (λ h k. next_valid s event h k)

pub restart_quiet : RestartQuiet
unfolding report_of next_state
restart_quiet s = by_way (λ r. r.report ≡ 0) s restart (λ h. refl) (λ h k. refl) (λ h k. each (λ n. report_of n restart (next_state n restart) ≡ 0) 10 (omega arith) s (omega arith))
