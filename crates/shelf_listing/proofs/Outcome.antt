-- The reader's events are those that a listing finds, so its outcome and its last line are told in the reader's words.
use Rattle.std.proofs.Common.{ℕ, List, ap}
use Rattle.event.specs.declared.ShelfEvent.{ShelfEvent}
use Rattle.shelf.specs.Reading.{read_shelf}
use Rattle.shelf.specs.Laws as shelf
use Rattle.port.specs.State.{fresh_port}
use Rattle.lines.specs.Laws as lines
use Rattle.shelf_listing.specs.Listing.{found_of, finds}
use Rattle.shelf_listing.specs.Laws.{WholeExactly, EndTells}
use Rattle.shelf_listing.specs.ReadsOn.{found_event, found_end}
use Rattle.shelf_listing.proofs.Whole.{port_listing, shelf_listing}

to_reader : {s : List ℕ} {place : ℕ} {es : List ShelfEvent} → lines.ReadsAll finds s place es → shelf.ShelfReadsAll s place es
to_reader {s} {place} (lines.ended e) = shelf.ended (found_end (read_shelf s place) e)
to_reader {s} {place} (lines.taken {next = next} {e = v} e r) = shelf.taken (found_event (read_shelf s place) v next e) (to_reader r)

from_reader : {s : List ℕ} {place : ℕ} {es : List ShelfEvent} → shelf.ShelfReadsAll s place es → lines.ReadsAll finds s place es
from_reader (shelf.ended e) = lines.ended (ap found_of e)
from_reader (shelf.taken e r) = lines.taken (ap found_of e) (from_reader r)

pub whole_exactly : WholeExactly
whole_exactly h s bytes whole l =
    let x = shelf_listing.whole h s bytes whole l in (
      λ t. let w = x.0 t in record { short = w.short; events = w.events; read = to_reader w.read },
      λ w. x.1 (record { short = w.short; events = w.events; read = from_reader w.read }),
    )

pub end_tells : EndTells
end_tells n s bytes es h r l = port_listing.end_tells (fresh_port n) s bytes es h (from_reader r) l
