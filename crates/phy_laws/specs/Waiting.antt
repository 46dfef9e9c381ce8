-- Words about one step of a phy: whether a request waits, whether a tick can move the link, and what an answer is.
use Rattle.std.specs.Prelude.{ℕ, Bool, ◌||◌, eqb}
use Rattle.phy.specs.Names.{L0, L3, P2, P4, answer_opened, answer_retry, answer_no_destination, answer_pathway_blocked}
use Rattle.phy.specs.Names.{answer_collided, answer_opened_by_destination, answer_opened_by_other}
use Rattle.phy.specs.Names.{answer_bad_destination}
use Rattle.phy.specs.Names.{answer_rate, answer_protocol, answer_stp_busy, answer_wrong_destination}
use Rattle.phy.specs.Names.{answer_open_timeout}
use Rattle.phy.specs.Names.{answer_break_received, answer_port_layer_request, answer_terminated}

-- a request waits in P2 and P4
abbrev pub waits : (port : ℕ) → Bool
waits port = eqb port P2 || eqb port P4

-- no tick moves the link in L0 and L3
abbrev pub rests : (link : ℕ) → Bool
rests link = eqb link L0 || eqb link L3

-- the sixteen answers
abbrev pub is_answer : ℕ → Bool
is_answer n =
    eqb n answer_opened || eqb n answer_retry || eqb n answer_no_destination || eqb n answer_pathway_blocked
    || eqb n answer_collided || eqb n answer_opened_by_destination || eqb n answer_opened_by_other
    || eqb n answer_bad_destination || eqb n answer_rate || eqb n answer_protocol || eqb n answer_stp_busy
    || eqb n answer_wrong_destination || eqb n answer_open_timeout || eqb n answer_break_received
    || eqb n answer_port_layer_request || eqb n answer_terminated
