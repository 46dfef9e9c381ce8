-- The marked cases hold by computation; the three long ones each in a declaration of its own, since together they are more than one may compute.
use mathlib.Core.List.{[], ◌∷◌}
use mathlib.Core.Path.{◌≡◌, refl}
use Rattle.number.specs.Reading.{tenth_byte, groups, read_number}
use Rattle.number.specs.Writing.{bytes_of, number_bytes}
use Rattle.dws.specs.Step.{after_invalid, after_valid, after_primitive, next_state, report_of}
use Rattle.dws.specs.Step as dws
use Rattle.event.specs.Table.{argument_range, arguments_known, known_of, open_known}
use Rattle.phy.specs.State.{valid_request, valid_inbound, valid_of}
use Rattle.phy.specs.Moves.{to_idle, open_by_link, on_tx_open, on_cancel_open, on_accept, on_open_received, on_aip, on_break}
use Rattle.phy.specs.Ticks.{longer, aged, tick_requesting, tick_breaking, opened_by, accepted, tick_selected, on_tick_aged, on_tick}
use Rattle.phy.specs.Step.{move_of, step_of}
use Rattle.marked.specs.Marked.{answers_to, answers_timed, refusals_to, Case, M1, M2, M3, M4, M5, M6, M7, M8, M9, M10, M11, M12, AllMarked}

abbrev Right : Case → Type 0
Right c = c.given ≡ c.said

-- dword synchronization
synchronized : Right M1 × Right M2
unfolding after_invalid after_valid after_primitive next_state report_of dws.step_of
synchronized = (refl, refl)

-- thousands of ticks
unanswered : Right M3
unfolding answers_to argument_range arguments_known known_of open_known valid_request valid_inbound valid_of to_idle open_by_link on_tx_open on_aip longer aged tick_requesting tick_breaking on_tick_aged on_tick move_of step_of
unanswered = refl

timed_out : Right M4
unfolding answers_to argument_range arguments_known known_of open_known valid_request valid_inbound valid_of to_idle open_by_link on_tx_open on_aip longer aged tick_requesting tick_breaking on_tick_aged on_tick move_of step_of
timed_out = refl

put_off : Right M5
unfolding answers_timed argument_range arguments_known known_of open_known valid_request valid_inbound valid_of to_idle open_by_link on_tx_open on_aip longer aged tick_requesting tick_breaking on_tick_aged on_tick move_of step_of
put_off = refl

-- a few events
answered : Right M6 × Right M7 × Right M8 × Right M9 × Right M10
unfolding answers_to refusals_to argument_range arguments_known known_of open_known valid_request valid_inbound valid_of to_idle open_by_link on_tx_open on_cancel_open on_accept on_open_received on_aip on_break longer aged tick_requesting tick_breaking opened_by accepted tick_selected on_tick_aged on_tick move_of step_of
answered = (refl, refl, refl, refl, refl)

-- numbers
numbered : Right M11 × Right M12
unfolding tenth_byte groups read_number bytes_of number_bytes
numbered = (refl, refl)

pub all_marked : AllMarked
all_marked =
    λ i. synchronized.0 i ∷ synchronized.1 i ∷ unanswered i ∷ timed_out i ∷ put_off i ∷ answered.0 i ∷ answered.1 i ∷ answered.2 i ∷ answered.3 i ∷ answered.4 i ∷ numbered.0 i ∷ numbered.1 i ∷ []
