-- The reader's events are those that a listing finds, so its outcome and its last line are told in the reader's words.
use Rattle.std.proofs.Common.{ℕ, List, ap}
use Rattle.event.specs.declared.Event.{Event}
use Rattle.trace.specs.Reading.{read_event}
use Rattle.trace.specs.Laws as trace
use Rattle.bay.specs.State.{fresh_bay}
use Rattle.lines.specs.Laws as lines
use Rattle.listing.specs.Listing.{found_of, finds}
use Rattle.listing.specs.Laws.{WholeExactly, EndTells}
use Rattle.listing.specs.ReadsOn.{found_event, found_end}
use Rattle.listing.proofs.Whole.{phy_listing}

to_reader : {s : List ℕ} {place : ℕ} {es : List Event} → lines.ReadsAll finds s place es → trace.ReadsAll s place es
to_reader {s} {place} (lines.ended e) = trace.ended (found_end (read_event s place) e)
to_reader {s} {place} (lines.taken {next = next} {e = v} e r) = trace.taken (found_event (read_event s place) v next e) (to_reader r)

from_reader : {s : List ℕ} {place : ℕ} {es : List Event} → trace.ReadsAll s place es → lines.ReadsAll finds s place es
from_reader (trace.ended e) = lines.ended (ap found_of e)
from_reader (trace.taken e r) = lines.taken (ap found_of e) (from_reader r)

pub whole_exactly : WholeExactly
whole_exactly s bytes whole l =
    let x = phy_listing.whole fresh_bay s bytes whole l in (
      λ t. let w = x.0 t in record { short = w.short; events = w.events; read = to_reader w.read },
      λ w. x.1 (record { short = w.short; events = w.events; read = from_reader w.read }),
    )

pub end_tells : EndTells
end_tells s bytes es h r l = phy_listing.end_tells fresh_bay s bytes es h (from_reader r) l
