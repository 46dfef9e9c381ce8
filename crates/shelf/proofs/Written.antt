-- What the writer says, by whether the event is known and whether the bytes fit: as of an event in a trace.
use Prim.Native.Nat.{ℕ}
use mathlib.Core.List.{List}
use mathlib.Core.Path.{◌≡◌}
use Rattle.event.specs.Table.{known_in_trace}
use Rattle.event.specs.declared.ShelfEvent.{ShelfEvent}
use Rattle.trace.specs.Writing.{wrote}
use Rattle.trace.proofs.Room.{Fitted}
use Rattle.trace.proofs.Room as room
use Rattle.shelf.specs.Writing.{shelf_bytes, write_shelf}
use Rattle.shelf.specs.Laws.{WriterBadEventExactly, NoRoomExactly, RefusedKeeps}

pub writer_bad_event_exactly : WriterBadEventExactly
writer_bad_event_exactly e = room.bad_event_exactly (known_in_trace e.event) (shelf_bytes e)

pub no_room_exactly : NoRoomExactly
no_room_exactly e = room.no_room_exactly (known_in_trace e.event) (shelf_bytes e)

pub refused_keeps : RefusedKeeps
refused_keeps e = room.refused_keeps (known_in_trace e.event) (shelf_bytes e)

-- a length is told only of an event that is known and fits
pub fitted : (e : ShelfEvent) (buffer : List ℕ) (place n : ℕ) → write_shelf e buffer place ≡ wrote n → Fitted (known_in_trace e.event) (shelf_bytes e) buffer place n
fitted e = room.fitted (known_in_trace e.event) (shelf_bytes e)
