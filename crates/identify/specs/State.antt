-- Which states are valid: one test for each rule of the paper.
use Rattle.std.specs.Prelude.{ℕ, Bool, ◌&&◌, ◌||◌, not, eqb, leb}
use Rattle.table.specs.Choice.{split}
use Rattle.table.specs.Flags.{is_flag, is_on}
use Rattle.identify.specs.Names.{idle, receiving, completed, none, complete, time_out, reset_received}
use Rattle.identify.specs.Names.{frame_dwords, full_timer}
use Rattle.identify.specs.declared.Identification.{Identification}

-- one thing holds only where another does
abbrev pub only : Bool → Bool → Bool
only holds needed = not holds || needed

-- the receiver is in the state of a number
abbrev pub is_in : Identification → ℕ → Bool
is_in i receiver = eqb i.receiver receiver

-- the outcome is that of a number
abbrev pub ended_by : Identification → ℕ → Bool
ended_by i outcome = eqb i.outcome outcome

-- inside a frame
abbrev pub in_frame : Identification → Bool
in_frame i = eqb i.receiver receiving

-- the identify got and our own frame sent
abbrev pub both : Identification → Bool
both i = is_on i.got && is_on i.sent

-- the other side's frame is still awaited, and time runs
abbrev pub awaiting : Identification → Bool
awaiting i = is_on i.sent && not (is_on i.got) && eqb i.outcome none

-- each flag is off or on
abbrev pub flags_right : Identification → Bool
flags_right i = is_flag i.typed && is_flag i.got && is_flag i.sent

-- the receiver is one of its four states
abbrev pub receiver_right : Identification → Bool
receiver_right i = leb i.receiver completed

-- a frame has at most eight dwords, and outside a frame none is counted
abbrev pub count_right : Identification → Bool
count_right i = split (in_frame i) (leb i.count frame_dwords) (eqb i.count 0)

-- the timer is 1 to 1,000 exactly while a frame is awaited, else 0
abbrev pub timer_right : Identification → Bool
timer_right i = split (awaiting i) (leb 1 i.timer && leb i.timer full_timer) (eqb i.timer 0)

-- an identify is got only where a frame has ended
abbrev pub got_right : Identification → Bool
got_right i = only (is_on i.got) (eqb i.receiver completed)

-- the type is known to be Identify only in a frame, from its first dword on
abbrev pub typed_right : Identification → Bool
typed_right i = only (is_on i.typed) (in_frame i && leb 1 i.count)

-- the outcome is none or one of the three
abbrev pub outcome_right : Identification → Bool
outcome_right i =
    eqb i.outcome none || eqb i.outcome complete || eqb i.outcome time_out || eqb i.outcome reset_received

-- Complete is the outcome exactly when both are there
abbrev pub complete_right : Identification → Bool
complete_right i = split (eqb i.outcome complete) (both i) (not (both i))

-- Identify Time-Out needs our own frame sent and none got
abbrev pub time_out_right : Identification → Bool
time_out_right i = only (eqb i.outcome time_out) (is_on i.sent && not (is_on i.got))

-- Reset Received needs none got, and no frame under way
abbrev pub reset_right : Identification → Bool
reset_right i =
    only (eqb i.outcome reset_received)
    (not (is_on i.got) && (eqb i.receiver idle || eqb i.receiver completed))

-- every rule holds
unfoldable pub valid_of : Identification → Bool
valid_of i =
    flags_right i && receiver_right i && count_right i && timer_right i && got_right i && typed_right i
    && outcome_right i
    && complete_right i && time_out_right i && reset_right i
