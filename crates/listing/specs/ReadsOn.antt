-- Reading a phy's trace goes on: the law that `Listing` asks. An impl cites no file of proofs/, so its proof is here.
use Rattle.std.proofs.Common.{◌≡◌, ℕ, refl}
use Rattle.table.proofs.Laws.{apart}
use Rattle.event.specs.declared.Event.{Event}
use Rattle.trace.specs.Reading.{Told, event, end, refused, read_event}
use Rattle.trace.proofs.Accepted.{read_moves_on}
use Rattle.trace.proofs.Refusals.{end_exactly}
use Rattle.lines.specs.Listing.{found, nothing}
use Rattle.lines.specs.Laws.{ReadsOn}
use Rattle.listing.specs.Listing.{found_of, of_phy}

-- an event that a listing finds is one that the reader tells
pub found_event : (t : Told) (e : Event) (next : ℕ) → found_of t ≡ found e next → t ≡ event e next
found_event (event v after) e next h = let same : v ≡ e = cc in let to : after ≡ next = cc in rw (same, to) refl
found_event end e next h = apart cc
found_event (refused n at) e next h = apart cc

-- and so is the end
pub found_end : (t : Told) → found_of t ≡ nothing → t ≡ end
found_end (event v after) h = apart cc
found_end end h = refl
found_end (refused n at) h = apart cc

-- an event that is read moves the place on within the trace, and the end comes where the trace ends
pub reads_on : ReadsOn of_phy
reads_on =
    record {
      forward = λ s place e next h. (read_moves_on s place e next (found_event (read_event s place) e next h)).forward;
      within = λ s place e next h. (read_moves_on s place e next (found_event (read_event s place) e next h)).within;
      at_end = λ s place h. (end_exactly s place).0 (found_end (read_event s place) h);
    }
