-- Reading an event of a shelf trace: the number of its phy, and behind it the event as in a trace of one phy.
use Rattle.std.specs.Prelude.{ℕ, List, [], Some, None, Ok, Err, leb, length}
use Rattle.table.specs.Choice.{pick}
use Rattle.table.specs.Refusals.{number_of}
use Rattle.number.specs.Reading.{read_number}
use Rattle.event.specs.Table.{event_of}
use Rattle.event.specs.declared.ShelfEvent.{ShelfEvent}
use Rattle.trace.specs.Reading.{ReadOf, Got, got, fault, onwards, of_number, read_numbers}

-- what reading says: an event and the place after it, the trace's end, or a refusal and where its phy number starts
pub data ToldShelf : Type 0 where
  shelf_event : ShelfEvent → ℕ → ToldShelf
  shelf_end : ToldShelf
  shelf_refused : ℕ → ℕ → ToldShelf

-- the numbers of an event on a shelf: that of its phy, any value being read there, and then those of the event
abbrev pub read_shelf_numbers : List ℕ → ℕ → Got ShelfEvent
read_shelf_numbers s place =
    onwards (of_number (read_number s place)) λ number behind. onwards (read_numbers s behind) λ e next.
    got (record { number = number; event = e }) next

-- a fault is told with the place of the phy number's first byte
abbrev pub said_shelf : (place : ℕ) → Got ShelfEvent → ToldShelf
said_shelf place (got e next) = shelf_event e next
said_shelf place (fault n) = shelf_refused n place

-- the event at a place, which may lie anywhere: at the trace's end or past it the trace has ended
unfoldable pub read_shelf : List ℕ → ℕ → ToldShelf
read_shelf s place = pick (leb (length s) place) shelf_end (said_shelf place (read_shelf_numbers s place))

-- the zero event of phy 0
abbrev pub zero_shelf : ShelfEvent
zero_shelf = record { number = 0; event = event_of 0 [] }

-- the event that is given: at the end and on a fault a zero event
abbrev pub shelf_given : ToldShelf → ShelfEvent
shelf_given (shelf_event e next) = e
shelf_given shelf_end = zero_shelf
shelf_given (shelf_refused n at) = zero_shelf

-- the place reached: at the end and on a fault it does not move
abbrev pub shelf_reached : (place : ℕ) → ToldShelf → ℕ
shelf_reached place (shelf_event e next) = next
shelf_reached place shelf_end = place
shelf_reached place (shelf_refused n at) = place

-- what each result says, as the paper numbers it
abbrev pub tells_shelf : ReadOf ShelfEvent → ToldShelf
tells_shelf (Ok (Some found)) = shelf_event found.value found.next
tells_shelf (Ok None) = shelf_end
tells_shelf (Err f) = shelf_refused (number_of f.refusal) f.place
