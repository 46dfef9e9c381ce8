-- Dword synchronization: a state and an event give the next state and a report.
use Rattle.std.specs.Prelude.{ℕ, ◌&&◌, List, [], ◌∷◌, ◌<◌, ◌≡◌, Result, MatchResult, eqb, leb}
use Rattle.table.specs.Choice.{pick, Row, ◌⇒◌, rows}
use Rattle.table.specs.Refusals.{bad_state, bad_event, number_of}
use Rattle.table.specs.declared.Refusal.{Refusal}
use Rattle.table.specs.declared.Refusal.TheVariants.{BadState, BadEvent}
use Rattle.dws.specs.Names.{acquire_sync, valid1, valid2, sync_acquired, lost1, lost1_recovered, lost2}
use Rattle.dws.specs.Names.{lost2_recovered, lost3, lost3_recovered, invalid_dword, data_dword, primitive, restart}
use Rattle.dws.specs.Names.{no_report, acquired, lost, number_of_state, number_of_event, number_of_report}
use Rattle.dws.specs.declared.State.{State}
use Rattle.dws.specs.declared.Event.{Event}
use Rattle.dws.specs.declared.Report.{Report}
use Rattle.dws.specs.declared.Stepped.{Stepped}

-- the state that a number names, or a bad state above 9
abbrev pub StateAt : ℕ → Result State Refusal → Type 0
StateAt n r = MatchResult r (λ s. number_of_state s ≡ n) (λ e. (e ≡ BadState) × (lost3_recovered < n))

-- the event that a number names, or a bad event above 3
abbrev pub EventAt : ℕ → Result Event Refusal → Type 0
EventAt n r = MatchResult r (λ e. number_of_event e ≡ n) (λ e. (e ≡ BadEvent) × (restart < n))

-- a fresh machine
abbrev pub fresh_state : ℕ
fresh_state = acquire_sync

-- synchronization is acquired where 3 is entered from 2, and lost where 0 is entered from 8 or 9 by an invalid dword
unfoldable pub report_of : (s event next : ℕ) → ℕ
report_of s event next =
    pick (eqb s valid2 && eqb next sync_acquired)
    acquired
    (pick (leb lost3 s && eqb next acquire_sync && eqb event invalid_dword) lost no_report)

-- a primitive: before synchronization each is one step towards it
abbrev pub primitive_rows : List (Row ℕ)
primitive_rows = (acquire_sync ⇒ valid1) ∷ (valid1 ⇒ valid2) ∷ (valid2 ⇒ sync_acquired) ∷ []

-- a valid dword of either kind, after synchronization: two in a row take one lost dword off
abbrev pub valid_rows : List (Row ℕ)
valid_rows =
    (sync_acquired ⇒ sync_acquired)
    ∷ (lost1 ⇒ lost1_recovered)
    ∷ (lost1_recovered ⇒ sync_acquired)
    ∷ (lost2 ⇒ lost2_recovered)
    ∷ (lost2_recovered ⇒ lost1)
    ∷ (lost3 ⇒ lost3_recovered)
    ∷ (lost3_recovered ⇒ lost2)
    ∷ []

unfoldable pub after_valid : ℕ → ℕ
after_valid s = rows s valid_rows s

-- after synchronization a primitive is a valid dword like any other
unfoldable pub after_primitive : ℕ → ℕ
after_primitive s = rows s primitive_rows (after_valid s)

-- an invalid dword: before synchronization all starts anew; after it one more is lost, and the fourth loses it
abbrev pub invalid_rows : List (Row ℕ)
invalid_rows =
    (valid1 ⇒ acquire_sync)
    ∷ (valid2 ⇒ acquire_sync)
    ∷ (sync_acquired ⇒ lost1)
    ∷ (lost1 ⇒ lost2)
    ∷ (lost1_recovered ⇒ lost2)
    ∷ (lost2 ⇒ lost3)
    ∷ (lost2_recovered ⇒ lost3)
    ∷ (lost3 ⇒ acquire_sync)
    ∷ (lost3_recovered ⇒ acquire_sync)
    ∷ []

unfoldable pub after_invalid : ℕ → ℕ
after_invalid s = rows s invalid_rows s

-- the next state, by the event
abbrev pub event_rows : ℕ → List (Row ℕ)
event_rows s =
    (invalid_dword ⇒ after_invalid s) ∷ (data_dword ⇒ after_valid s) ∷ (primitive ⇒ after_primitive s)
    ∷ (restart ⇒ acquire_sync) ∷ []

unfoldable pub next_state : ℕ → ℕ → ℕ
next_state s event = rows event (event_rows s) s

-- a refusal: the state as given and no report
abbrev pub refused : ℕ → ℕ → Stepped
refused s n = record { state = s; report = no_report; refusal = n }

-- a step that is taken
abbrev pub moved : ℕ → ℕ → Stepped
moved s event = record { state = next_state s event; report = report_of s event (next_state s event); refusal = 0 }

-- any state and any event: the state is judged first, then the event
unfoldable pub step_of : ℕ → ℕ → Stepped
step_of s event =
    pick (leb s lost3_recovered) (pick (leb event restart) (moved s event) (refused s bad_event)) (refused s bad_state)

-- what is taken or refused, as the step tells it
abbrev pub Taken : ℕ → ℕ → Result (State × Report) Refusal → Type 0
Taken s event r =
    MatchResult r
    (λ t. record { state = number_of_state t.0; report = number_of_report t.1; refusal = 0 } ≡ step_of s event)
    (λ e. refused s (number_of e) ≡ step_of s event)
