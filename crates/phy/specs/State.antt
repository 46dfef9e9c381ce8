-- Which records are valid: a test for each rule. A field in use is in its range, and one not in use is zero.
use Rattle.std.specs.Prelude.{ℕ, Bool, ◌&&◌, ◌||◌, eqb, leb, ltb}
use Rattle.table.specs.Choice.{split}
use Rattle.table.specs.Flags.{off, is_flag}
use Rattle.event.specs.Names.{STP, most_wait, most_address}
use Rattle.event.specs.Table.{open_known, same_open}
use Rattle.event.specs.declared.Open.{Open}
use Rattle.phy.specs.Names.{L0, L1, L2, L3, L4, L5, L6, P1, P2, P3, P4, answer_open_timeout, answer_break_received}
use Rattle.phy.specs.Names.{answer_port_layer_request, full_timer, bend, most_part}
use Rattle.phy.specs.Shapes.{no_open}
use Rattle.phy.specs.declared.Settings.{Settings}
use Rattle.phy.specs.declared.Phy.{Phy}

-- P1 with L0, L2, L6; P2 with L1, L2, L6; P3 with L3 to L6; P4 with L5, L6
abbrev pub valid_pair : (link port : ℕ) → Bool
valid_pair link port =
    (eqb port P1 && (eqb link L0 || eqb link L2 || eqb link L6))
    || (eqb port P2 && (eqb link L1 || eqb link L2 || eqb link L6))
    || (eqb port P3 && (eqb link L3 || eqb link L4 || eqb link L5 || eqb link L6))
    || (eqb port P4 && (eqb link L5 || eqb link L6))

-- the timer is 1 to 1,000 in L1, L4 and L5, else 0
abbrev pub valid_timer : (link timer : ℕ) → Bool
valid_timer link timer =
    split (eqb link L1 || eqb link L4 || eqb link L5) (leb 1 timer && leb timer full_timer) (eqb timer 0)

-- no argument is kept
abbrev pub is_no_open : Open → Bool
is_no_open o = same_open o no_open

-- the request is in use in P2 and P4
unfoldable pub valid_request : (port : ℕ) (request : Open) → Bool
valid_request port request = split (eqb port P2 || eqb port P4) (open_known request) (is_no_open request)

-- the part of a millisecond is in use in P2, with a wait from 32,768 to 65,534: at most 999
abbrev pub valid_part : (port wait part : ℕ) → Bool
valid_part port wait part = split (eqb port P2 && leb bend wait && ltb wait most_wait) (leb part most_part) (eqb part 0)

-- the reason is in use in P4: 70 in L6, 69 or 71 in L5
abbrev pub valid_reason : (link port reason : ℕ) → Bool
valid_reason link port reason =
    split (eqb port P4)
    ((eqb link L6 && eqb reason answer_break_received)
    || (eqb link L5 && (eqb reason answer_open_timeout || eqb reason answer_port_layer_request)))
    (eqb reason 0)

-- the inbound source, a 64-bit number, and protocol are in use in L2
unfoldable pub valid_inbound : (link source protocol : ℕ) → Bool
valid_inbound link source protocol =
    split (eqb link L2) (leb source most_address && leb protocol STP) (eqb source 0 && eqb protocol 0)

-- the connection's protocol is in use in P3
abbrev pub valid_connection : (port protocol : ℕ) → Bool
valid_connection port protocol = split (eqb port P3) (leb protocol STP) (eqb protocol 0)

-- that the far end has closed is a flag, in use in L3
abbrev pub valid_far_closed : (link farClosed : ℕ) → Bool
valid_far_closed link farClosed = split (eqb link L3) (is_flag farClosed) (eqb farClosed off)

-- whether inbound opens are accepted is a flag, in every state
abbrev pub valid_settings : Settings → Bool
valid_settings settings = is_flag settings.accept

-- every rule holds of a phy in a state of the port
abbrev pub valid_in : (port : ℕ) → Phy → Bool
valid_in port p =
    valid_pair p.link port && valid_timer p.link p.timer && valid_request port p.request
    && valid_part port p.request.wait p.part && valid_reason p.link port p.reason
    && valid_inbound p.link p.inboundSource p.inboundProtocol && valid_connection port p.connectionProtocol
    && valid_far_closed p.link p.farClosed && valid_settings p.settings

-- every rule holds
unfoldable pub valid_of : Phy → Bool
valid_of p = valid_in p.port p
