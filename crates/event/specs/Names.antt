-- The paper's numbers of the phy's events, and of the time stamp that a recorder writes among them.
use Rattle.std.specs.Prelude.{ℕ, ◌-◌, ◌^◌}

-- ---- protocols

abbrev pub SMP : ℕ
SMP = 0

abbrev pub SSP : ℕ
SSP = 1

abbrev pub STP : ℕ
STP = 2

-- ---- events

abbrev pub tx_open : ℕ
tx_open = 1

abbrev pub cancel_open : ℕ
cancel_open = 2

abbrev pub close_connection : ℕ
close_connection = 3

abbrev pub smp_transmit_break : ℕ
smp_transmit_break = 4

abbrev pub accept_opens : ℕ
accept_opens = 5

abbrev pub reject_opens : ℕ
reject_opens = 6

abbrev pub open_received : ℕ
open_received = 7

abbrev pub open_accept_received : ℕ
open_accept_received = 8

abbrev pub open_reject_received : ℕ
open_reject_received = 9

abbrev pub aip_received : ℕ
aip_received = 10

abbrev pub break_received : ℕ
break_received = 11

abbrev pub close_received : ℕ
close_received = 12

abbrev pub tick : ℕ
tick = 13

abbrev pub hard_reset : ℕ
hard_reset = 14

abbrev pub phy_disabled : ℕ
phy_disabled = 15

abbrev pub time_stamp : ℕ
time_stamp = 16

-- ---- limits of the arguments

abbrev pub most_wait : ℕ
most_wait = 65535

abbrev pub most_tag : ℕ
most_tag = 65535

abbrev pub most_blocked_count : ℕ
most_blocked_count = 255

abbrev pub slow_rate : ℕ
slow_rate = 8

abbrev pub fast_rate : ℕ
fast_rate = 9

abbrev pub most_reject : ℕ
most_reject = 7

abbrev pub most_counter : ℕ
most_counter = 4294967295

abbrev pub most_address : ℕ
most_address = 2 ^ 64 - 1
