-- Writing an event of a shelf trace: the bytes of its phy's number and those of the event, at a place of a lent buffer.
use Rattle.std.specs.Prelude.{ℕ, ◌+◌, Bool, List, [], ◌∷◌, ◌++◌, leb, length}
use Rattle.std.proofs.lemmas.List.Edits.{sets}
use Rattle.table.specs.Choice.{pick}
use Rattle.table.specs.Refusals.{bad_event, no_room}
use Rattle.number.specs.Writing.{number_bytes}
use Rattle.event.specs.Table.{known_in_trace}
use Rattle.event.specs.declared.ShelfEvent.{ShelfEvent}
use Rattle.trace.specs.Writing.{ToldWritten, wrote, refused, event_bytes}

-- the bytes of an event on a shelf
unfoldable pub shelf_bytes : ShelfEvent → List ℕ
shelf_bytes e = number_bytes e.number ++ event_bytes e.event

-- the bytes of such events, end to end: a shelf trace
unfoldable pub shelf_trace_bytes : List ShelfEvent → List ℕ
shelf_trace_bytes [] = []
shelf_trace_bytes (e ∷ es) = shelf_bytes e ++ shelf_trace_bytes es

-- whether the bytes of an event fit into a buffer from a place on
abbrev pub shelf_fits : ShelfEvent → List ℕ → ℕ → Bool
shelf_fits e buffer place = leb (place + length (shelf_bytes e)) (length buffer)

-- what the writer says: any phy number may be written, and an event that is not known in a trace is refused first
abbrev pub write_shelf : ShelfEvent → List ℕ → ℕ → ToldWritten
write_shelf e buffer place =
    pick (known_in_trace e.event)
    (pick (shelf_fits e buffer place) (wrote (length (shelf_bytes e))) (refused no_room))
    (refused bad_event)

-- the buffer afterwards: the bytes of the event at the place, all others as before; refused, nothing is written
abbrev pub shelf_after : ShelfEvent → List ℕ → ℕ → List ℕ
shelf_after e buffer place =
    pick (known_in_trace e.event)
    (pick (shelf_fits e buffer place) (sets buffer place (shelf_bytes e)) buffer)
    buffer
