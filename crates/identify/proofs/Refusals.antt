-- The cases of a step give each refusal its own condition, and the conditions exclude each other.
use Prim.Native.Nat.{ℕ}
use mathlib.Core.Bool.{true, false}
use mathlib.Core.Logic.{◌↔◌}
use mathlib.Core.Path.{◌≡◌, refl}
use borrow.Author.Tests.{eqb-false}
use Rattle.table.specs.Refusals.{bad_state, bad_event}
use Rattle.identify.specs.State.{valid_of}
use Rattle.identify.specs.Step.{known_of}
use Rattle.identify.specs.Laws.{BadStateExactly, BadEventExactly, NotRefusedExactly, Untouched, RefusedKeeps}
use Rattle.identify.specs.declared.Identification.{Identification}
use Rattle.identify.specs.declared.Stepped.{Stepped}
use Rattle.identify.proofs.Basics.{clash, neither, together}
use Rattle.identify.proofs.Moves.{stays, finishes}
use Rattle.identify.proofs.OneStep.{Stepping, bad_state_lem, bad_event_lem, lands, stands, anew, stepping}

-- the three ways of a step, by its refusal
data Judged (i : Identification) (event argument : ℕ) : ℕ → Type 0 where
  state_wrong : valid_of i ≡ false → Judged i event argument bad_state
  event_wrong : valid_of i ≡ true → known_of event argument ≡ false → Judged i event argument bad_event
  right : valid_of i ≡ true → known_of event argument ≡ true → Judged i event argument 0

judged : {i : Identification} {event argument : ℕ} {s : Stepped} → Stepping i event argument s → Judged i event argument s.refusal
judged (bad_state_lem v) = state_wrong v
judged (bad_event_lem v k) = event_wrong v k
judged (lands v k g (stays h r)) = right v k
judged (lands v k g (finishes d)) = right v k
judged (stands v k d f) = right v k
judged (anew v k d t) = right v k

one : {i : Identification} {event argument n : ℕ} → Judged i event argument n → n ≡ bad_state ↔ (valid_of i ≡ false)
one (state_wrong v) = together refl v
one (event_wrong v k) = neither (eqb-false bad_event bad_state refl) (clash v)
one (right v k) = neither (eqb-false 0 bad_state refl) (clash v)

two : {i : Identification} {event argument n : ℕ} → Judged i event argument n → n ≡ bad_event ↔ (valid_of i ≡ true) × (known_of event argument ≡ false)
two (state_wrong v) = neither (eqb-false bad_state bad_event refl) (λ h. clash h.0 v)
two (event_wrong v k) = together refl (v, k)
two (right v k) = neither (eqb-false 0 bad_event refl) (λ h. clash k h.1)

nought : {i : Identification} {event argument n : ℕ} → Judged i event argument n → n ≡ 0 ↔ (valid_of i ≡ true) × (known_of event argument ≡ true)
nought (state_wrong v) = neither (eqb-false bad_state 0 refl) (λ h. clash h.0 v)
nought (event_wrong v k) = neither (eqb-false bad_event 0 refl) (λ h. clash h.1 k)
nought (right v k) = together refl (v, k)

pub bad_state_exactly : BadStateExactly
bad_state_exactly i event argument = one (judged (stepping i event argument))

pub bad_event_exactly : BadEventExactly
bad_event_exactly i event argument = two (judged (stepping i event argument))

pub not_refused_exactly : NotRefusedExactly
not_refused_exactly i event argument = nought (judged (stepping i event argument))

keeps : {i : Identification} {event argument : ℕ} {s : Stepped} → Stepping i event argument s → (s.refusal ≡ 0 → ⊥) → Untouched i s
keeps (bad_state_lem v) h = record { same = refl; silent = refl }
keeps (bad_event_lem v k) h = record { same = refl; silent = refl }
keeps (lands v k g (stays j r)) h = absurd (h refl)
keeps (lands v k g (finishes d)) h = absurd (h refl)
keeps (stands v k d f) h = absurd (h refl)
keeps (anew v k d t) h = absurd (h refl)

pub refused_keeps : RefusedKeeps
refused_keeps i event argument h = keeps (stepping i event argument) h
