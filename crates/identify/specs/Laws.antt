-- What is promised of identification beyond the contracts. A heading names the file of proofs/.
use Rattle.std.specs.Prelude.{ℕ, suc, ◌-◌, ◌≤◌, ◌<◌, true, false, List, ◌↔◌, ◌≡◌}
use Rattle.table.specs.Flags.{off, on}
use Rattle.table.specs.Refusals.{bad_state, bad_event}
use Rattle.table.specs.Results.{Determines}
use Rattle.identify.specs.Names.{receiving, spoiled, soaf, hard_reset, tick, enable, none, failed, complete}
use Rattle.identify.specs.Names.{time_out, full_timer}
use Rattle.identify.specs.State.{both, valid_of}
use Rattle.identify.specs.Step.{fresh, with_timer, quiet, known_of, step_of}
use Rattle.identify.specs.Run.{Event, results, outcomes_in, NoEnable, after_sent, after_ticks}
use Rattle.identify.specs.Promises.{StartsFresh, TellsValid, Steps}
use Rattle.identify.specs.declared.Identification.{Identification}
use Rattle.identify.specs.declared.Stepped.{Stepped}

-- ---- results are determined (proofs/Determined)

-- two results that a function may give coincide
pub record Determined : Type 0 where
  pub fresh : Determines StartsFresh
  pub valid : (i : Identification) → Determines (TellsValid i)
  pub step : (i : Identification) (event argument : ℕ) → Determines (Steps i event argument)

-- ---- each refusal exactly when (proofs/Refusals)

-- 1: the state is not valid
abbrev pub BadStateExactly : Type 0
BadStateExactly =
    (i : Identification) (event argument : ℕ) → (step_of i event argument).refusal ≡ bad_state ↔ (valid_of i ≡ false)

-- 2: the state is valid, and the event is not known
abbrev pub BadEventExactly : Type 0
BadEventExactly =
    (i : Identification) (event argument : ℕ)
    → (step_of i event argument).refusal ≡ bad_event ↔ (valid_of i ≡ true) × (known_of event argument ≡ false)

-- 0: neither
abbrev pub NotRefusedExactly : Type 0
NotRefusedExactly =
    (i : Identification) (event argument : ℕ)
    → (step_of i event argument).refusal ≡ 0 ↔ (valid_of i ≡ true) × (known_of event argument ≡ true)

-- a step that gives the state as it was, and reports nothing
pub record Untouched (i : Identification) (s : Stepped) : Type 0 where
  pub same : s.next ≡ i
  pub silent : s.report ≡ none

-- every refused step is one
abbrev pub RefusedKeeps : Type 0
RefusedKeeps =
    (i : Identification) (event argument : ℕ) → ((step_of i event argument).refusal ≡ 0 → ⊥)
    → Untouched i (step_of i event argument)

-- ---- validity (proofs/OneStep)

-- the fresh state is valid
abbrev pub FreshValid : Type 0
FreshValid = valid_of fresh ≡ true

-- a valid state stays valid, whatever comes
abbrev pub StaysValid : Type 0
StaysValid =
    (i : Identification) (event argument : ℕ) → valid_of i ≡ true → valid_of (step_of i event argument).next ≡ true

-- ---- frames (proofs/Frames)

-- a HARD_RESET changes nothing and reports nothing
abbrev pub IgnoresReset : Identification → Type 0
IgnoresReset i = Untouched i (step_of i hard_reset 0)

-- where a HARD_RESET is ignored
pub record ResetIgnored (i : Identification) : Type 0 where
  pub in_receiving : i.receiver ≡ receiving → IgnoresReset i
  pub in_spoiled : i.receiver ≡ spoiled → IgnoresReset i
  pub after_got : i.got ≡ on → IgnoresReset i

-- version one took a HARD_RESET inside a frame; no valid state does
abbrev pub NoResetInsideFrame : Type 0
NoResetInsideFrame = (i : Identification) → valid_of i ≡ true → ResetIgnored i

-- the frame that was under way has failed, and another has begun
pub record BeganAnew (s : Stepped) : Type 0 where
  pub fails : s.report ≡ failed
  pub framed : s.next.receiver ≡ receiving
  pub empty : s.next.count ≡ 0
  pub untyped : s.next.typed ≡ off

-- a second SOAF in a frame starts the count anew
abbrev pub SecondSoafBeginsAnew : Type 0
SecondSoafBeginsAnew =
    (i : Identification) → valid_of i ≡ true → i.receiver ≡ receiving → i.outcome ≡ none → BeganAnew (step_of i soaf 0)

-- ---- Complete (proofs/Complete)

-- the outcome is Complete exactly when the identify is got and our own frame sent
abbrev pub CompleteExactly : Type 0
CompleteExactly = (i : Identification) → valid_of i ≡ true → i.outcome ≡ complete ↔ (i.got ≡ on) × (i.sent ≡ on)

-- a step reports Complete exactly when it brings the two together, whichever came first
abbrev pub CompleteReported : Type 0
CompleteReported =
    (i : Identification) (event argument : ℕ) → valid_of i ≡ true
    → (step_of i event argument).report ≡ complete ↔ (both i ≡ false) × (both (step_of i event argument).next ≡ true)

-- ---- the timer (proofs/Timer)

-- the other side's frame is awaited
pub record Awaited (i : Identification) : Type 0 where
  pub sent : i.sent ≡ on
  pub not_got : i.got ≡ off
  pub no_outcome : i.outcome ≡ none

-- the timer runs exactly while it is
abbrev pub TimerRunsExactly : Type 0
TimerRunsExactly = (i : Identification) → valid_of i ≡ true → (i.timer ≡ 0 → ⊥) ↔ Awaited i

-- where sending our own frame starts the timer
pub record StartsTimer (i : Identification) : Type 0 where
  pub right : valid_of i ≡ true
  pub not_sent : i.sent ≡ off
  pub not_got : i.got ≡ off
  pub no_outcome : i.outcome ≡ none

-- after n ticks, fewer than a thousand, nothing but the timer has changed
abbrev pub TimerFalls : Type 0
TimerFalls =
    (i : Identification) → StartsTimer i → (n : ℕ) → n < full_timer
    → after_ticks n (after_sent i) ≡ with_timer (after_sent i) (full_timer - n)

-- each of them before the thousandth reports nothing
abbrev pub TicksSilent : Type 0
TicksSilent =
    (i : Identification) → StartsTimer i → (n : ℕ) → suc n < full_timer
    → (step_of (after_ticks n (after_sent i)) tick 0).report ≡ none

-- the time is over
pub record RanOut (s : Stepped) : Type 0 where
  pub told : s.report ≡ time_out
  pub kept : s.next.outcome ≡ time_out
  pub stopped : s.next.timer ≡ 0

-- the thousandth tick gives Identify Time-Out
abbrev pub ThousandthTick : Type 0
ThousandthTick =
    (i : Identification) → StartsTimer i → (n : ℕ) → suc n ≡ full_timer
    → RanOut (step_of (after_ticks n (after_sent i)) tick 0)

-- ---- one outcome (proofs/Outcomes)

-- after an outcome a known event other than Enable does nothing
abbrev pub OnlyEnable : Type 0
OnlyEnable =
    (i : Identification) (event argument : ℕ) → valid_of i ≡ true → (i.outcome ≡ none → ⊥)
    → known_of event argument ≡ true → (event ≡ enable → ⊥) → step_of i event argument ≡ quiet i

-- over any events without an Enable at most one outcome is reported
abbrev pub AtMostOneOutcome : Type 0
AtMostOneOutcome =
    (i : Identification) → valid_of i ≡ true → (events : List Event) → NoEnable events
    → outcomes_in (results i events) ≤ 1
