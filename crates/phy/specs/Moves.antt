-- What each event but a tick does, a table for each, rows in the paper's order. What is not listed changes nothing.
use Rattle.std.specs.Prelude.{ℕ, List, [], ◌∷◌, eqb}
use Rattle.table.specs.Choice.{pick, Row, ◌⇒◌, rows}
use Rattle.table.specs.Flags.{off, on, is_on}
use Rattle.table.specs.Refusals.{busy, nothing_pending, not_connected, wrong_protocol}
use Rattle.event.specs.Names.{SMP}
use Rattle.event.specs.Table.{open_of}
use Rattle.event.specs.declared.Open.{Open}
use Rattle.event.specs.declared.Event.{Event}
use Rattle.phy.specs.Names.{L0, L1, L2, L3, L4, L5, L6, P1, P2, P3, P4, answer_opened, answer_retry}
use Rattle.phy.specs.Names.{answer_no_destination, answer_pathway_blocked, answer_collided, answer_bad_destination}
use Rattle.phy.specs.Names.{answer_rate, answer_protocol, answer_stp_busy, answer_wrong_destination}
use Rattle.phy.specs.Names.{answer_break_received, answer_port_layer_request, answer_terminated, notice_opened}
use Rattle.phy.specs.Names.{notice_closed_normal, notice_break_requested, notice_break_received}
use Rattle.phy.specs.Names.{notice_transition_to_idle, notice_reset, sent_open, sent_close, sent_break, full_timer}
use Rattle.phy.specs.Shapes.{requesting, given_up, idle, selected, connected, fresh_phy, with_timer, with_settings}
use Rattle.phy.specs.Shapes.{reports, answers, quiet, refused}
use Rattle.phy.specs.declared.Phy.{Phy}
use Rattle.phy.specs.declared.Stepped.{Stepped}

-- ---- entering L0: P2 answers 51, P4 its reason, P3 notices 6; all go to P1
abbrev pub idle_rows : Phy → (sent : ℕ) → List (Row Stepped)
idle_rows p sent =
    (P2 ⇒ answers (idle p.settings) answer_collided p.request 0 sent)
    ∷ (P4 ⇒ answers (idle p.settings) p.reason p.request 0 sent)
    ∷ (P3 ⇒ reports (idle p.settings) notice_transition_to_idle sent)
    ∷ []

unfoldable pub to_idle : Phy → (sent : ℕ) → Stepped
to_idle p sent = rows p.port (idle_rows p sent) (reports (idle p.settings) 0 sent)

-- ---- 1, Tx Open: P1 to P2; from L0 an OPEN is sent, with L2 or L6 the request waits
abbrev pub tx_open_rows : Phy → Open → List (Row Stepped)
tx_open_rows p o =
    (L0 ⇒ reports (requesting p.settings L1 P2 full_timer o 0) 0 sent_open)
    ∷ (L2 ⇒ reports (selected p.settings P2 o 0 p.inboundSource p.inboundProtocol) 0 0)
    ∷ (L6 ⇒ reports (requesting p.settings L6 P2 0 o 0) 0 0)
    ∷ []

unfoldable pub open_by_link : Phy → Open → Stepped
open_by_link p o = rows p.link (tx_open_rows p o) (quiet p)

unfoldable pub on_tx_open : Phy → Event → Stepped
on_tx_open p e = pick (eqb p.port P1) (open_by_link p (open_of e)) (refused p busy)

-- ---- 2, Cancel Open: with L1 a BREAK is sent; with L2 or L6 it is accepted and nothing changes
abbrev pub cancel_rows : Phy → List (Row Stepped)
cancel_rows p =
    (L1 ⇒ reports (given_up p.settings L5 full_timer p.request answer_port_layer_request) 0 sent_break) ∷ []

unfoldable pub on_cancel_open : Phy → Stepped
on_cancel_open p = pick (eqb p.port P2) (rows p.link (cancel_rows p) (quiet p)) (refused p nothing_pending)

-- ---- 3, Close Connection: a CLOSE is sent, and where the far end has closed the connection is over
unfoldable pub on_close_connection : Phy → Stepped
on_close_connection p =
    pick (eqb p.link L3)
    (pick (is_on p.farClosed)
    (reports (idle p.settings) notice_closed_normal sent_close)
    (reports (connected p.settings L4 full_timer p.connectionProtocol off) 0 sent_close))
    (refused p not_connected)

-- ---- 4, SMP Transmit Break: an SMP connection is broken off
unfoldable pub on_smp_transmit_break : Phy → Stepped
on_smp_transmit_break p =
    pick (eqb p.link L3)
    (pick (eqb p.connectionProtocol SMP)
    (reports (connected p.settings L5 full_timer p.connectionProtocol off) notice_break_requested sent_break)
    (refused p wrong_protocol))
    (refused p not_connected)

-- ---- 5 and 6, Accept Opens and Reject Opens: the flag, in any state
unfoldable pub on_accept : Phy → (accept : ℕ) → Stepped
on_accept p accept = quiet (with_settings p (record { accept = accept }))

-- ---- 7, OPEN received: L0 or L1 to L2
abbrev pub open_rows : Phy → Event → List (Row Stepped)
open_rows p e =
    (L0 ⇒ quiet (selected p.settings p.port p.request p.part e.first e.second))
    ∷ (L1 ⇒ quiet (selected p.settings p.port p.request p.part e.first e.second))
    ∷ []

unfoldable pub on_open_received : Phy → Event → Stepped
on_open_received p e = rows p.link (open_rows p e) (quiet p)

-- ---- 8, OPEN_ACCEPT: our request is a connection
abbrev pub open_accept_rows : Phy → List (Row Stepped)
open_accept_rows p =
    (L1 ⇒ answers (connected p.settings L3 0 p.request.protocol off) answer_opened p.request notice_opened 0)
    ∷ []

unfoldable pub on_open_accept : Phy → Stepped
on_open_accept p = rows p.link (open_accept_rows p) (quiet p)

-- ---- 9, OPEN_REJECT: the answer to each of its reasons
abbrev pub reject_answers : List (Row ℕ)
reject_answers =
    (0 ⇒ answer_retry)
    ∷ (1 ⇒ answer_no_destination)
    ∷ (2 ⇒ answer_pathway_blocked)
    ∷ (3 ⇒ answer_bad_destination)
    ∷ (4 ⇒ answer_rate)
    ∷ (5 ⇒ answer_protocol)
    ∷ (6 ⇒ answer_stp_busy)
    ∷ (7 ⇒ answer_wrong_destination)
    ∷ []

unfoldable pub reject_answer : ℕ → ℕ
reject_answer reason = rows reason reject_answers 0

-- in L1 the request is answered, in L5 the reason is not used
abbrev pub open_reject_rows : Phy → Event → List (Row Stepped)
open_reject_rows p e =
    (L1 ⇒ answers (idle p.settings) (reject_answer e.first) p.request 0 0)
    ∷ (L5 ⇒ to_idle p 0)
    ∷ []

unfoldable pub on_open_reject : Phy → Event → Stepped
on_open_reject p e = rows p.link (open_reject_rows p e) (quiet p)

-- ---- 10, AIP: arbitration goes on, and the timer starts anew
abbrev pub aip_rows : Phy → List (Row Stepped)
aip_rows p = (L1 ⇒ quiet (with_timer p full_timer)) ∷ []

unfoldable pub on_aip : Phy → Stepped
on_aip p = rows p.link (aip_rows p) (quiet p)

-- ---- 11, BREAK: it is answered by a BREAK, or ends our own
abbrev pub break_rows : Phy → List (Row Stepped)
break_rows p =
    (L1 ⇒ reports (given_up p.settings L6 0 p.request answer_break_received) 0 sent_break)
    ∷ (L2 ⇒ reports (requesting p.settings L6 p.port 0 p.request p.part) 0 sent_break)
    ∷ (L3 ⇒ reports (connected p.settings L6 0 p.connectionProtocol off) notice_break_received sent_break)
    ∷ (L4 ⇒ reports (connected p.settings L6 0 p.connectionProtocol off) notice_break_received sent_break)
    ∷ (L5 ⇒ to_idle p 0)
    ∷ []

unfoldable pub on_break : Phy → Stepped
on_break p = rows p.link (break_rows p) (quiet p)

-- ---- 12, CLOSE: the far end has closed, or both have
abbrev pub close_rows : Phy → List (Row Stepped)
close_rows p =
    (L3 ⇒ quiet (connected p.settings L3 0 p.connectionProtocol on))
    ∷ (L4 ⇒ reports (idle p.settings) notice_closed_normal 0)
    ∷ []

unfoldable pub on_close : Phy → Stepped
on_close p = rows p.link (close_rows p) (quiet p)

-- ---- 13, tick: specs/Ticks

-- ---- 14 and 15, HARD_RESET and Phy Disabled: to fresh; P2 and P4 answer 80, P3 notices 7
abbrev pub reset_rows : Phy → List (Row Stepped)
reset_rows p =
    (P2 ⇒ answers fresh_phy answer_terminated p.request 0 0)
    ∷ (P4 ⇒ answers fresh_phy answer_terminated p.request 0 0)
    ∷ (P3 ⇒ reports fresh_phy notice_reset 0)
    ∷ []

unfoldable pub on_reset : Phy → Stepped
on_reset p = rows p.port (reset_rows p) (quiet fresh_phy)
