-- The numbers of refusal, in the paper's order. 0 says that nothing is refused.
use Rattle.std.specs.Prelude.{ℕ, ◌≡◌}
use Rattle.table.specs.declared.Refusal.{Refusal}
use Rattle.table.specs.declared.Refusal.TheVariants.{BadState, BadEvent, Busy, NothingPending, NotConnected}
use Rattle.table.specs.declared.Refusal.TheVariants.{WrongProtocol, Cut, Overlong, TooLarge, NoRoom, QueueFull}
use Rattle.table.specs.declared.Refusal.TheVariants.{NoSuchPhy}

-- the state handed in is not a valid one
abbrev pub bad_state : ℕ
bad_state = 1

-- an unknown code, an argument out of range, or one that the event lacks and that is not zero
abbrev pub bad_event : ℕ
bad_event = 2

-- Tx Open, and the port is not in P1
abbrev pub busy : ℕ
busy = 3

-- Cancel Open, and the port is not in P2
abbrev pub nothing_pending : ℕ
nothing_pending = 4

-- Close or SMP Break, and the link is not in L3
abbrev pub not_connected : ℕ
not_connected = 5

-- SMP Break in L3 on a connection that is not SMP
abbrev pub wrong_protocol : ℕ
wrong_protocol = 6

-- a number's bytes end too early
abbrev pub cut : ℕ
cut = 7

-- a number is not in its shortest form: no longer given, and the number stays taken
abbrev pub overlong : ℕ
overlong = 8

-- a number is 2^64 or more
abbrev pub too_large : ℕ
too_large = 9

-- the lent buffer is too short
abbrev pub no_room : ℕ
no_room = 10

-- an Open to the port, and 32 wait already
abbrev pub queue_full : ℕ
queue_full = 11

-- a number that is neither the port's nor below the count of phys
abbrev pub no_such_phy : ℕ
no_such_phy = 12

-- the number of each
abbrev pub number_of : Refusal → ℕ
number_of BadState = bad_state
number_of BadEvent = bad_event
number_of Busy = busy
number_of NothingPending = nothing_pending
number_of NotConnected = not_connected
number_of WrongProtocol = wrong_protocol
number_of Cut = cut
number_of Overlong = overlong
number_of TooLarge = too_large
number_of NoRoom = no_room
number_of QueueFull = queue_full
number_of NoSuchPhy = no_such_phy

-- `from` of a refusal: its number
abbrev pub TellsNumber : Refusal → ℕ → Type 0
TellsNumber refusal n = n ≡ number_of refusal
