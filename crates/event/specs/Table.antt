-- The one table of arguments: how many each event has and each one's range. Whether an event is known is read off it.
use Rattle.std.specs.Prelude.{ℕ, Bool, ◌&&◌, List, [], ◌∷◌, eqb, leb, length, get_or}
use Rattle.table.specs.Choice.{Row, ◌⇒◌, rows}
use Rattle.event.specs.Names.{STP, tx_open, open_received, open_reject_received, phy_disabled, time_stamp, slow_rate}
use Rattle.event.specs.Names.{fast_rate, most_tag, most_blocked_count, most_wait, most_reject, most_counter}
use Rattle.event.specs.Names.{most_address}
use Rattle.event.specs.declared.Range.{Range}
use Rattle.event.specs.declared.Event.{Event}
use Rattle.event.specs.declared.Open.{Open}

infix 30 ◌to◌
-- from the least to the most, both included
abbrev pub ◌to◌ : ℕ → ℕ → Range
a to b = record { least = a; most = b }

-- Tx Open: destination, protocol, rate, tag, blocked count, wait
abbrev pub tx_open_arguments : List Range
tx_open_arguments =
    (0 to most_address) ∷ (0 to STP) ∷ (slow_rate to fast_rate) ∷ (0 to most_tag) ∷ (0 to most_blocked_count)
    ∷ (0 to most_wait) ∷ []

-- OPEN received: source, protocol
abbrev pub open_arguments : List Range
open_arguments = (0 to most_address) ∷ (0 to STP) ∷ []

-- OPEN_REJECT: reason
abbrev pub reject_arguments : List Range
reject_arguments = (0 to most_reject) ∷ []

-- time stamp: the recorder's counter of microseconds, of 32 bits
abbrev pub stamp_arguments : List Range
stamp_arguments = (0 to most_counter) ∷ []

-- the events that have arguments; the others have none
abbrev pub argument_rows : List (Row (List Range))
argument_rows =
    (tx_open ⇒ tx_open_arguments)
    ∷ (open_received ⇒ open_arguments)
    ∷ (open_reject_received ⇒ reject_arguments)
    ∷ (time_stamp ⇒ stamp_arguments)
    ∷ []

abbrev pub arguments_of : (code : ℕ) → List Range
arguments_of code = rows code argument_rows []

-- how many arguments an event has
unfoldable pub argument_count : ℕ → ℕ
argument_count code = length (arguments_of code)

-- the range at a place, counted from 0; an argument that the event lacks is zero
abbrev pub range_at : List Range → (i : ℕ) → Range
range_at ranges i = get_or ranges i (0 to 0)

-- the range of an event's argument
unfoldable pub argument_range : (code i : ℕ) → Range
argument_range code i = range_at (arguments_of code) i

-- v lies in a range
abbrev pub within : Range → ℕ → Bool
within r v = leb r.least v && leb v r.most

-- the codes of a phy's events: 1 to 15
abbrev pub phy_codes : Range
phy_codes = tx_open to phy_disabled

-- those of a trace: a phy's, and the time stamp
abbrev pub trace_codes : Range
trace_codes = tx_open to time_stamp

-- a code of a phy's event
abbrev pub code_known : ℕ → Bool
code_known code = within phy_codes code

-- a code that may stand in a trace
abbrev pub code_in_trace : ℕ → Bool
code_in_trace code = within trace_codes code

-- the six arguments of an event of a code are in their ranges
unfoldable pub arguments_known : (code a b c d e f : ℕ) → Bool
arguments_known code a b c d e f =
    within (argument_range code 0) a && within (argument_range code 1) b && within (argument_range code 2) c
    && within (argument_range code 3) d && within (argument_range code 4) e && within (argument_range code 5) f

-- an event's code is one of these, and its arguments are in their ranges
abbrev pub known_among : (codes : Range) → Event → Bool
known_among codes e =
    within codes e.code
    && arguments_known e.code e.first e.second e.third e.fourth e.fifth e.sixth

-- an event that a phy knows
unfoldable pub known_of : Event → Bool
known_of e = known_among phy_codes e

-- an event that may stand in a trace
unfoldable pub known_in_trace : Event → Bool
known_in_trace e = known_among trace_codes e

-- the event of a code and of the arguments that it has; those that it lacks are zero
abbrev pub event_of : ℕ → List ℕ → Event
event_of code vs =
    record {
      code = code;
      first = get_or vs 0 0;
      second = get_or vs 1 0;
      third = get_or vs 2 0;
      fourth = get_or vs 3 0;
      fifth = get_or vs 4 0;
      sixth = get_or vs 5 0;
    }

-- the time stamp of a counter
abbrev pub stamp_of : (counter : ℕ) → Event
stamp_of counter = event_of time_stamp (counter ∷ [])

-- the Open that the arguments of a Tx Open make
abbrev pub open_of : Event → Open
open_of e =
    record {
      destination = e.first;
      protocol = e.second;
      rate = e.third;
      tag = e.fourth;
      blockedCount = e.fifth;
      wait = e.sixth;
    }

-- the arguments of an Open, in the order of its fields
abbrev pub numbers_of : Open → List ℕ
numbers_of o = o.destination ∷ o.protocol ∷ o.rate ∷ o.tag ∷ o.blockedCount ∷ o.wait ∷ []

-- the Tx Open of an Open
abbrev pub tx_open_of : Open → Event
tx_open_of o = event_of tx_open (o.destination ∷ o.protocol ∷ o.rate ∷ o.tag ∷ o.blockedCount ∷ o.wait ∷ [])

-- an Open that is kept has its arguments in the ranges of a Tx Open
unfoldable pub open_known : Open → Bool
open_known o = arguments_known tx_open o.destination o.protocol o.rate o.tag o.blockedCount o.wait

-- two Opens have the same arguments
abbrev pub same_open : Open → Open → Bool
same_open a b =
    eqb a.destination b.destination && eqb a.protocol b.protocol && eqb a.rate b.rate
    && eqb a.tag b.tag && eqb a.blockedCount b.blockedCount && eqb a.wait b.wait
