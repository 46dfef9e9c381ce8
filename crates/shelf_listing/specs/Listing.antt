-- The listing of a shelf trace: its header, how its events are read, and what each makes of a port, with its line.
use Rattle.std.specs.Prelude.{ℕ, List, length}
use Rattle.event.specs.declared.ShelfEvent.{ShelfEvent}
use Rattle.port.specs.Names.{most_phys}
use Rattle.port.specs.State.{Port, fresh_port}
use Rattle.port.specs.Step.{PortStepped}
use Rattle.port.specs.Log.{step_on}
use Rattle.port.specs.Lent.{tells}
use Rattle.shelf.specs.Reading.{ToldShelf, shelf_event, shelf_end, shelf_refused, read_shelf}
use Rattle.lines.specs.Listing as lines
use Rattle.lines.specs.Listing.{Found, found, nothing, fault, Listable}
use Rattle.shelf_listing.specs.Lines.{header_line, states_at, columns_of, event_line}

-- what the reader of a shelf trace tells, as a listing finds it
abbrev pub found_of : ToldShelf → Found ShelfEvent
found_of (shelf_event e next) = found e next
found_of shelf_end = nothing
found_of (shelf_refused n at) = fault n at

-- what stands at a place of a shelf trace
abbrev pub finds : (s : List ℕ) → (place : ℕ) → Found ShelfEvent
finds s place = found_of (read_shelf s place)

-- the line of an event and of what its step gave: link and port are those after the event and the hand-outs
abbrev pub step_line : (place : ℕ) → ShelfEvent → PortStepped → List ℕ
step_line place e r =
    event_line place (columns_of e (tells r) (states_at r.next.bays e.number) (length r.next.queue))

-- what is listed
abbrev pub of_port : Listable Port ShelfEvent
of_port =
    record {
      header = header_line;
      reads = finds;
      line = λ place p e. step_line place e (step_on most_phys p e);
      next = λ p e. (step_on most_phys p e).next;
    }

-- these are the bytes that list a shelf trace: what a port of n fresh phys does at each event
abbrev pub Lists : (n : ℕ) → (s bytes : List ℕ) → Type 0
Lists n s bytes = lines.Lists of_port (fresh_port n) s bytes
