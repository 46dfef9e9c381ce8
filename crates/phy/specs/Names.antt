-- The paper's numbers of the phy.
use Rattle.std.specs.Prelude.{ℕ}

-- ---- link states: Idle, ArbSel, Selected, Connected, DisconnectWait, BreakWait, Break

abbrev pub L0 : ℕ
L0 = 0

abbrev pub L1 : ℕ
L1 = 1

abbrev pub L2 : ℕ
L2 = 2

abbrev pub L3 : ℕ
L3 = 3

abbrev pub L4 : ℕ
L4 = 4

abbrev pub L5 : ℕ
L5 = 5

abbrev pub L6 : ℕ
L6 = 6

-- ---- port states: Idle, Req_Wait, Connected, Wait_For_Close

abbrev pub P1 : ℕ
P1 = 1

abbrev pub P2 : ℕ
P2 = 2

abbrev pub P3 : ℕ
P3 = 3

abbrev pub P4 : ℕ
P4 = 4

-- ---- answers to an Open: Opened

abbrev pub answer_opened : ℕ
answer_opened = 32

-- ---- Retry Open

abbrev pub answer_retry : ℕ
answer_retry = 48

abbrev pub answer_no_destination : ℕ
answer_no_destination = 49

abbrev pub answer_pathway_blocked : ℕ
answer_pathway_blocked = 50

abbrev pub answer_collided : ℕ
answer_collided = 51

abbrev pub answer_opened_by_destination : ℕ
answer_opened_by_destination = 52

abbrev pub answer_opened_by_other : ℕ
answer_opened_by_other = 53

-- ---- Unable To Connect

abbrev pub answer_bad_destination : ℕ
answer_bad_destination = 64

abbrev pub answer_rate : ℕ
answer_rate = 65

abbrev pub answer_protocol : ℕ
answer_protocol = 66

abbrev pub answer_stp_busy : ℕ
answer_stp_busy = 67

abbrev pub answer_wrong_destination : ℕ
answer_wrong_destination = 68

abbrev pub answer_open_timeout : ℕ
answer_open_timeout = 69

abbrev pub answer_break_received : ℕ
answer_break_received = 70

abbrev pub answer_port_layer_request : ℕ
answer_port_layer_request = 71

-- ---- ours, at a reset

abbrev pub answer_terminated : ℕ
answer_terminated = 80

-- ---- notices: a connection opened, and how one closed

abbrev pub notice_opened : ℕ
notice_opened = 1

abbrev pub notice_closed_normal : ℕ
notice_closed_normal = 2

abbrev pub notice_close_timeout : ℕ
notice_close_timeout = 3

abbrev pub notice_break_requested : ℕ
notice_break_requested = 4

abbrev pub notice_break_received : ℕ
notice_break_received = 5

abbrev pub notice_transition_to_idle : ℕ
notice_transition_to_idle = 6

abbrev pub notice_reset : ℕ
notice_reset = 7

-- ---- primitives and frames sent

abbrev pub sent_open : ℕ
sent_open = 1

abbrev pub sent_open_accept : ℕ
sent_open_accept = 2

abbrev pub sent_open_reject : ℕ
sent_open_reject = 3

abbrev pub sent_close : ℕ
sent_close = 4

abbrev pub sent_break : ℕ
sent_break = 5

-- ---- limits

abbrev pub full_timer : ℕ
full_timer = 1000

-- ---- the wait: from where it counts milliseconds, and the most that may have passed of the next one

abbrev pub bend : ℕ
bend = 32768

abbrev pub most_part : ℕ
most_part = 999
