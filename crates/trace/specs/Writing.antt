-- Writing an event of a trace: the bytes of its numbers end to end, at a place of a lent buffer.
use Rattle.std.specs.Prelude.{ℕ, suc, ◌+◌, Bool, List, [], ◌∷◌, ◌++◌, Result, Ok, Err, leb, length, take}
use Rattle.std.proofs.lemmas.List.Edits.{sets}
use Rattle.table.specs.Choice.{pick}
use Rattle.table.specs.Refusals.{bad_event, no_room, number_of}
use Rattle.table.specs.declared.Refusal.{Refusal}
use Rattle.number.specs.Writing.{number_bytes}
use Rattle.event.specs.Table.{argument_count, known_in_trace}
use Rattle.event.specs.declared.Event.{Event}

-- what writing an event says: how many bytes it wrote, or the number of a refusal
pub data ToldWritten : Type 0 where
  wrote : ℕ → ToldWritten
  refused : ℕ → ToldWritten

-- the bytes of numbers, end to end
unfoldable pub bytes_of : List ℕ → List ℕ
bytes_of [] = []
bytes_of (v ∷ vs) = number_bytes v ++ bytes_of vs

-- an event's code and its six arguments
abbrev pub all_numbers : Event → List ℕ
all_numbers e = e.code ∷ e.first ∷ e.second ∷ e.third ∷ e.fourth ∷ e.fifth ∷ e.sixth ∷ []

-- its code, and of its arguments those that it has
abbrev pub numbers_of : Event → List ℕ
numbers_of e = take (suc (argument_count e.code)) (all_numbers e)

-- the bytes of an event
unfoldable pub event_bytes : Event → List ℕ
event_bytes e = bytes_of (numbers_of e)

-- the bytes of events, end to end: a trace
unfoldable pub trace_bytes : List Event → List ℕ
trace_bytes [] = []
trace_bytes (e ∷ es) = event_bytes e ++ trace_bytes es

-- whether the bytes of an event fit into a buffer from a place on
abbrev pub fits : Event → List ℕ → ℕ → Bool
fits e buffer place = leb (place + length (event_bytes e)) (length buffer)

-- what the writer says: an event that is not known is refused first
abbrev pub write_event : Event → List ℕ → ℕ → ToldWritten
write_event e buffer place =
    pick (known_in_trace e) (pick (fits e buffer place) (wrote (length (event_bytes e))) (refused no_room))
    (refused bad_event)

-- the buffer afterwards: the bytes of the event at the place, all others as before; refused, nothing is written
abbrev pub buffer_after : Event → List ℕ → ℕ → List ℕ
buffer_after e buffer place =
    pick (known_in_trace e) (pick (fits e buffer place) (sets buffer place (event_bytes e)) buffer) buffer

-- the length that is given: refused, it is 0
abbrev pub length_given : ToldWritten → ℕ
length_given (wrote n) = n
length_given (refused n) = 0

-- what each result says, as the paper numbers it
abbrev pub tells_written : Result ℕ Refusal → ToldWritten
tells_written (Ok n) = wrote n
tells_written (Err refusal) = refused (number_of refusal)
