-- The listing of a phy's trace: its header, how its events are read, and what each makes of a bay, with its line.
use Rattle.std.specs.Prelude.{ℕ, List}
use Rattle.event.specs.declared.Event.{Event}
use Rattle.trace.specs.Reading.{Told, event, end, refused, read_event}
use Rattle.bay.specs.State.{fresh_bay}
use Rattle.bay.specs.Step.{step_of}
use Rattle.bay.specs.declared.Bay.{Bay}
use Rattle.lines.specs.Listing as lines
use Rattle.lines.specs.Listing.{Found, found, nothing, fault, Listable}
use Rattle.listing.specs.Lines.{header_line, columns_of, event_line}

-- what the reader of a trace tells, as a listing finds it
abbrev pub found_of : Told → Found Event
found_of (event e next) = found e next
found_of end = nothing
found_of (refused n at) = fault n at

-- what stands at a place of a trace
abbrev pub finds : (s : List ℕ) → (place : ℕ) → Found Event
finds s place = found_of (read_event s place)

-- what is listed
abbrev pub of_phy : Listable Bay Event
of_phy =
    record {
      header = header_line;
      reads = finds;
      line = λ place b e. event_line place (columns_of e (step_of b e));
      next = λ b e. (step_of b e).next;
    }

-- these are the bytes that list a trace: what a fresh bay does at each event
abbrev pub Lists : (s bytes : List ℕ) → Type 0
Lists s bytes = lines.Lists of_phy fresh_bay s bytes
