-- One step: the phy is judged first, then the event, then its table is asked.
use Rattle.std.specs.Prelude.{List, [], ◌∷◌}
use Rattle.table.specs.Choice.{pick, Row, ◌⇒◌, rows}
use Rattle.table.specs.Flags.{on, off}
use Rattle.table.specs.Refusals.{bad_state, bad_event}
use Rattle.event.specs.Names.{tx_open, cancel_open, close_connection, smp_transmit_break, accept_opens, reject_opens}
use Rattle.event.specs.Names.{open_received, open_accept_received, open_reject_received, aip_received, break_received}
use Rattle.event.specs.Names.{close_received, tick, hard_reset, phy_disabled}
use Rattle.event.specs.Table.{known_of}
use Rattle.phy.specs.Shapes.{quiet, refused}
use Rattle.phy.specs.State.{valid_of}
use Rattle.phy.specs.Moves.{on_tx_open, on_cancel_open, on_close_connection, on_smp_transmit_break, on_accept}
use Rattle.phy.specs.Moves.{on_open_received, on_open_accept, on_open_reject, on_aip, on_break, on_close, on_reset}
use Rattle.phy.specs.Ticks.{on_tick}
use Rattle.event.specs.declared.Event.{Event}
use Rattle.phy.specs.declared.Phy.{Phy}
use Rattle.phy.specs.declared.Stepped.{Stepped}

-- the fifteen events, in the paper's order
abbrev pub move_rows : Phy → Event → List (Row Stepped)
move_rows p e =
    (tx_open ⇒ on_tx_open p e)
    ∷ (cancel_open ⇒ on_cancel_open p)
    ∷ (close_connection ⇒ on_close_connection p)
    ∷ (smp_transmit_break ⇒ on_smp_transmit_break p)
    ∷ (accept_opens ⇒ on_accept p on)
    ∷ (reject_opens ⇒ on_accept p off)
    ∷ (open_received ⇒ on_open_received p e)
    ∷ (open_accept_received ⇒ on_open_accept p)
    ∷ (open_reject_received ⇒ on_open_reject p e)
    ∷ (aip_received ⇒ on_aip p)
    ∷ (break_received ⇒ on_break p)
    ∷ (close_received ⇒ on_close p)
    ∷ (tick ⇒ on_tick p)
    ∷ (hard_reset ⇒ on_reset p)
    ∷ (phy_disabled ⇒ on_reset p)
    ∷ []

-- what a known event does to a valid phy; total, and nothing for an unknown code
unfoldable pub move_of : Phy → Event → Stepped
move_of p e = rows e.code (move_rows p e) (quiet p)

-- any phy and any event
unfoldable pub step_of : Phy → Event → Stepped
step_of p e = pick (valid_of p) (pick (known_of e) (move_of p e) (refused p bad_event)) (refused p bad_state)
