-- What each event does to a state, in the paper's order, and what the step is for any record and numbers.
use Rattle.std.specs.Prelude.{ℕ, ◌+◌, ◌-◌, ◌/◌, ◌%◌, Bool, true, false, ◌&&◌, ◌||◌, not, List, [], ◌∷◌, ◌≡◌, eqb, leb}
use Rattle.std.specs.Prelude.{Result, MatchResult}
use Rattle.table.specs.Choice.{pick, Row, ◌⇒◌, rows}
use Rattle.table.specs.Flags.{off, on, is_on, flag_of}
use Rattle.table.specs.Refusals.{bad_state, bad_event}
use Rattle.identify.specs.Names.{idle, receiving, spoiled, completed, soaf, data_dword, eoaf, hard_reset}
use Rattle.identify.specs.Names.{other_primitive, own_frame_sent, tick, enable, none, failed, complete, time_out}
use Rattle.identify.specs.Names.{reset_received, frame_dwords, identify_type, type_place, type_values, crc_good}
use Rattle.identify.specs.Names.{most_dword, full_timer}
use Rattle.identify.specs.State.{both, valid_of}
use Rattle.table.specs.declared.Refusal.{Refusal}
use Rattle.table.specs.declared.Refusal.TheVariants.{BadEvent}
use Rattle.identify.specs.declared.Event.{Event}
use Rattle.identify.specs.declared.Event.TheVariants.{Soaf, DataDword, Eoaf, HardReset, OtherPrimitive, OwnFrameSent}
use Rattle.identify.specs.declared.Event.TheVariants.{Tick, Enable}
use Rattle.identify.specs.declared.Identification.{Identification}
use Rattle.identify.specs.declared.Stepped.{Stepped}

-- ---- states

-- Idle, all else unset
abbrev pub fresh : Identification
fresh = record { receiver = idle; count = 0; timer = 0; outcome = none; typed = off; got = off; sent = off }

-- the receiver goes to a state, with n dwords counted and the type Identify or not
abbrev pub goes : Identification → (receiver n typed : ℕ) → Identification
goes i receiver n typed =
    record {
      receiver = receiver;
      count = n;
      timer = i.timer;
      outcome = i.outcome;
      typed = typed;
      got = i.got;
      sent = i.sent;
    }

-- the state with this timer and outcome, and with got and sent so
abbrev pub stands : Identification → (timer outcome got sent : ℕ) → Identification
stands i timer outcome got sent =
    record {
      receiver = i.receiver;
      count = i.count;
      timer = timer;
      outcome = outcome;
      typed = i.typed;
      got = got;
      sent = sent;
    }

-- the timer at t
abbrev pub with_timer : Identification → ℕ → Identification
with_timer i t = stands i t i.outcome i.got i.sent

-- ---- reports

-- the step to a state, with a report
abbrev pub reports : Identification → ℕ → Stepped
reports i report = record { next = i; report = report; refusal = 0 }

-- the step to a state, with nothing to tell
abbrev pub quiet : Identification → Stepped
quiet i = reports i none

-- an outcome is reported, and the timer stops
abbrev pub ends : Identification → ℕ → Stepped
ends i outcome = reports (stands i 0 outcome i.got i.sent) outcome

-- Complete once both are there, whichever came last
unfoldable pub exchanged : Identification → Stepped
exchanged i = pick (both i) (ends i complete) (quiet i)

-- the state as given, and the number of a refusal
abbrev pub refused : Identification → ℕ → Stepped
refused i refusal = record { next = i; report = none; refusal = refusal }

-- ---- the events

-- 0, a frame starts: one that starts inside another makes that one fail
unfoldable pub on_soaf : Identification → Stepped
on_soaf i =
    rows i.receiver
    ((idle ⇒ quiet (goes i receiving 0 off))
    ∷ (receiving ⇒ reports (goes i receiving 0 off) failed)
    ∷ (spoiled ⇒ quiet (goes i receiving 0 off)) ∷ []) (quiet i)

-- whether a frame's first dword says that it is an identify frame: bits 27 to 24
abbrev pub says_identify : ℕ → Bool
says_identify dword = eqb (dword / type_place % type_values) identify_type

-- the type after a dword: the first fixes it
abbrev pub type_after : Identification → ℕ → ℕ
type_after i dword = pick (eqb i.count 0) (flag_of (says_identify dword)) i.typed

-- a dword inside a frame: a ninth is too many
unfoldable pub counted : Identification → ℕ → Stepped
counted i dword =
    pick (leb frame_dwords i.count)
    (reports (goes i spoiled 0 off) failed)
    (quiet (goes i receiving (i.count + 1) (type_after i dword)))

-- 1, a data dword: counted inside a frame
unfoldable pub on_data_dword : Identification → ℕ → Stepped
on_data_dword i dword = rows i.receiver ((receiving ⇒ counted i dword) ∷ []) (quiet i)

-- eight dwords, of type Identify, with a good CRC
abbrev pub whole : Identification → ℕ → Bool
whole i crc = eqb i.count frame_dwords && is_on i.typed && eqb crc crc_good

-- the identify is got
abbrev pub gets : Identification → Identification
gets i = stands i i.timer i.outcome on i.sent

-- the frame under way ends: the identify is got, or the frame has failed
unfoldable pub frame_ends : Identification → ℕ → Stepped
frame_ends i crc =
    pick (whole i crc) (exchanged (gets (goes i completed 0 off))) (reports (goes i completed 0 off) failed)

-- 2, a frame ends; a spoiled one was reported before
unfoldable pub on_eoaf : Identification → ℕ → Stepped
on_eoaf i crc =
    rows i.receiver
    ((receiving ⇒ frame_ends i crc)
    ∷ (spoiled ⇒ quiet (goes i completed 0 off)) ∷ []) (quiet i)

-- where a HARD_RESET is ignored: in a frame, a spoiled one too, and once the identify is got
abbrev pub ignores_reset : Identification → Bool
ignores_reset i = eqb i.receiver receiving || eqb i.receiver spoiled || is_on i.got

-- 3, a HARD_RESET
unfoldable pub on_hard_reset : Identification → Stepped
on_hard_reset i = pick (ignores_reset i) (quiet i) (ends i reset_received)

-- our own frame is sent, which starts the timer unless the identify is got already
abbrev pub sends : Identification → Identification
sends i = stands i (pick (is_on i.got) 0 full_timer) i.outcome i.got on

-- 5, our own frame is sent: later ones are ignored
unfoldable pub on_own_frame_sent : Identification → Stepped
on_own_frame_sent i = pick (is_on i.sent) (quiet i) (exchanged (sends i))

-- the timer has fallen to t
abbrev pub falls : Identification → ℕ → Stepped
falls i t = pick (eqb t 0) (ends i time_out) (quiet (with_timer i t))

-- 6, a tick: a running timer falls by one
unfoldable pub on_tick : Identification → Stepped
on_tick i = pick (eqb i.timer 0) (quiet i) (falls i (i.timer - 1))

-- ---- the step

-- the largest argument of an event
unfoldable pub most_of : ℕ → ℕ
most_of event = rows event ((data_dword ⇒ most_dword) ∷ (eoaf ⇒ crc_good) ∷ []) 0

-- an event has one of the eight codes, and an argument in its range
unfoldable pub known_of : (event argument : ℕ) → Bool
known_of event argument = leb event enable && leb argument (most_of event)

-- the code of each event
abbrev pub code_of : Event → ℕ
code_of Soaf = soaf
code_of (DataDword dword) = data_dword
code_of (Eoaf good) = eoaf
code_of HardReset = hard_reset
code_of OtherPrimitive = other_primitive
code_of OwnFrameSent = own_frame_sent
code_of Tick = tick
code_of Enable = enable

-- its argument, 0 where it has none
abbrev pub argument_of : Event → ℕ
argument_of Soaf = 0
argument_of (DataDword dword) = dword
argument_of (Eoaf good) = flag_of good
argument_of HardReset = 0
argument_of OtherPrimitive = 0
argument_of OwnFrameSent = 0
argument_of Tick = 0
argument_of Enable = 0

-- two numbers are known and this event's, or not known and refused
abbrev pub ReadsEvent : ℕ × ℕ → Result Event Refusal → Type 0
ReadsEvent numbers r =
    MatchResult r
    (λ e. (known_of numbers.0 numbers.1 ≡ true) × (code_of e ≡ numbers.0) × (argument_of e ≡ numbers.1))
    (λ refusal. (known_of numbers.0 numbers.1 ≡ false) × (refusal ≡ BadEvent))

-- what each event does
abbrev pub moves : Identification → ℕ → List (Row Stepped)
moves i argument =
    (soaf ⇒ on_soaf i)
    ∷ (data_dword ⇒ on_data_dword i argument)
    ∷ (eoaf ⇒ on_eoaf i argument)
    ∷ (hard_reset ⇒ on_hard_reset i)
    ∷ (other_primitive ⇒ quiet i)
    ∷ (own_frame_sent ⇒ on_own_frame_sent i)
    ∷ (tick ⇒ on_tick i)
    ∷ (enable ⇒ quiet fresh) ∷ []

-- there is an outcome, and an event is not Enable
abbrev pub over : Identification → ℕ → Bool
over i event = not (eqb i.outcome none) && not (eqb event enable)

-- after an outcome only Enable does anything
unfoldable pub move_of : Identification → (event argument : ℕ) → Stepped
move_of i event argument = pick (over i event) (quiet i) (rows event (moves i argument) (quiet i))

-- a step of any record by any numbers: the state is judged first, then the event
unfoldable pub step_of : Identification → (event argument : ℕ) → Stepped
step_of i event argument =
    pick (valid_of i)
    (pick (known_of event argument) (move_of i event argument) (refused i bad_event))
    (refused i bad_state)
