-- Reading a shelf trace goes on: the law that `Listing` asks. An impl cites no file of proofs/, so its proof is here.
use Rattle.std.proofs.Common.{◌≡◌, ℕ, refl}
use Rattle.table.proofs.Laws.{apart}
use Rattle.event.specs.declared.ShelfEvent.{ShelfEvent}
use Rattle.shelf.specs.Reading.{ToldShelf, shelf_event, shelf_end, shelf_refused, read_shelf}
use Rattle.shelf.proofs.Accepted.{read_moves_on}
use Rattle.shelf.proofs.Refusals.{end_exactly}
use Rattle.lines.specs.Listing.{found, nothing}
use Rattle.lines.specs.Laws.{ReadsOn}
use Rattle.shelf_listing.specs.Listing.{found_of, of_port}
use Rattle.shelf_listing.specs.Held.{of_shelf}

-- an event that a listing finds is one that the reader tells
pub found_event : (t : ToldShelf) (e : ShelfEvent) (next : ℕ) → found_of t ≡ found e next → t ≡ shelf_event e next
found_event (shelf_event v after) e next h = let same : v ≡ e = cc in let to : after ≡ next = cc in rw (same, to) refl
found_event shelf_end e next h = apart cc
found_event (shelf_refused n at) e next h = apart cc

-- and so is the end
pub found_end : (t : ToldShelf) → found_of t ≡ nothing → t ≡ shelf_end
found_end (shelf_event v after) h = apart cc
found_end shelf_end h = refl
found_end (shelf_refused n at) h = apart cc

-- an event that is read moves the place on within the trace, and the end comes where the trace ends
pub port_reads_on : ReadsOn of_port
port_reads_on =
    record {
      forward = λ s place e next h. (read_moves_on s place e next (found_event (read_shelf s place) e next h)).forward;
      within = λ s place e next h. (read_moves_on s place e next (found_event (read_shelf s place) e next h)).within;
      at_end = λ s place h. (end_exactly s place).0 (found_end (read_shelf s place) h);
    }

-- a shelf reads as a port
pub reads_on : ReadsOn of_shelf
reads_on = record { forward = port_reads_on.forward; within = port_reads_on.within; at_end = port_reads_on.at_end }
