-- The paper's numbers of identification, by name.
use Rattle.std.specs.Prelude.{ℕ}
use Rattle.identify.specs.declared.Receiver.{Receiver}
use Rattle.identify.specs.declared.Receiver.TheVariants.{Idle, Receiving, Spoiled, Completed}
use Rattle.identify.specs.declared.Report.{Report}
use Rattle.identify.specs.declared.Report.TheVariants.{None, Failed, Complete, TimeOut, ResetReceived}

-- ---- the receiver

-- no frame has begun
abbrev pub idle : ℕ
idle = 0

-- inside a frame
abbrev pub receiving : ℕ
receiving = 1

-- a frame went wrong, and its end is awaited
abbrev pub spoiled : ℕ
spoiled = 2

-- a frame has ended
abbrev pub completed : ℕ
completed = 3

-- the number of each state
abbrev pub number_of_receiver : Receiver → ℕ
number_of_receiver Idle = idle
number_of_receiver Receiving = receiving
number_of_receiver Spoiled = spoiled
number_of_receiver Completed = completed

-- ---- the events

-- a frame starts
abbrev pub soaf : ℕ
soaf = 0

-- 32 bits of a frame
abbrev pub data_dword : ℕ
data_dword = 1

-- a frame ends
abbrev pub eoaf : ℕ
eoaf = 2

-- the other side asks for a reset
abbrev pub hard_reset : ℕ
hard_reset = 3

-- a primitive that means nothing here
abbrev pub other_primitive : ℕ
other_primitive = 4

-- the chip has sent our own identify frame
abbrev pub own_frame_sent : ℕ
own_frame_sent = 5

-- a microsecond has passed
abbrev pub tick : ℕ
tick = 6

-- begin anew; the last event
abbrev pub enable : ℕ
enable = 7

-- ---- reports; from Complete on they are outcomes too

-- nothing to tell; as an outcome, none yet
abbrev pub none : ℕ
none = 0

-- a frame went wrong
abbrev pub failed : ℕ
failed = 1

-- both frames are exchanged
abbrev pub complete : ℕ
complete = 2

-- no identify frame was got in time
abbrev pub time_out : ℕ
time_out = 3

-- a HARD_RESET came before an identify frame was got
abbrev pub reset_received : ℕ
reset_received = 4

-- the number of each report
abbrev pub number_of_report : Report → ℕ
number_of_report None = none
number_of_report Failed = failed
number_of_report Complete = complete
number_of_report TimeOut = time_out
number_of_report ResetReceived = reset_received

-- ---- frames and limits

-- a whole identify frame has this many data dwords
abbrev pub frame_dwords : ℕ
frame_dwords = 8

-- the frame type of an identify frame
abbrev pub identify_type : ℕ
identify_type = 0

-- bit 24, where the type starts in the first dword
abbrev pub type_place : ℕ
type_place = 16777216

-- the type's four bits have this many values
abbrev pub type_values : ℕ
type_values = 16

-- an EOAF's argument where the CRC was good; 0 where not
abbrev pub crc_good : ℕ
crc_good = 1

-- the largest 32-bit dword
abbrev pub most_dword : ℕ
most_dword = 4294967295

-- ticks that a frame is waited for
abbrev pub full_timer : ℕ
full_timer = 1000
