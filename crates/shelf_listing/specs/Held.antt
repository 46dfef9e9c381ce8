-- How the code holds a port: the bays in a row, and the queue as numbers. What a listing is stands in Listing.
use Rattle.std.specs.Prelude.{ℕ, List, ◌++◌, length, replicate}
use Rattle.event.specs.declared.ShelfEvent.{ShelfEvent}
use Rattle.bay.specs.State.{fresh_bay}
use Rattle.bay.specs.declared.Bay.{Bay}
use Rattle.queue.specs.Lent.{lent_length, queue_in}
use Rattle.port.specs.Step.{PortStepped}
use Rattle.port.specs.Lent.{lent_step, numbers_after, tells}
use Rattle.held.specs.Rows.{most_held, front, behind}
use Rattle.lines.specs.Listing.{Listable}
use Rattle.shelf_listing.specs.Lines.{header_line, states_at, columns_of, event_line}
use Rattle.shelf_listing.specs.Listing.{finds}
use Rattle.shelf_listing.specs.declared.Columns.{Columns}
use Rattle.shelf_listing.specs.declared.Shelf.{Shelf}

-- a shelf of fresh bays, and no Open waiting
abbrev pub fresh_shelf : (phys : ℕ) → Shelf
fresh_shelf phys =
    record { row = record { bays = replicate most_held fresh_bay }; phys = phys; queue = replicate lent_length 0 }

-- the bays that count
abbrev pub bays_of : Shelf → List Bay
bays_of h = front h.phys h.row.bays

-- what the port in front makes of an event
abbrev pub step_held : Shelf → ShelfEvent → PortStepped
step_held h e = lent_step (bays_of h) h.queue e.number e.event

-- the shelf after a step: what is behind the port stays
abbrev pub held_after : Shelf → PortStepped → Shelf
held_after h r =
    record {
      row = record { bays = r.next.bays ++ behind h.phys h.row.bays };
      phys = h.phys;
      queue = numbers_after h.queue r;
    }

-- the columns of an event
abbrev pub columns_held : Shelf → ShelfEvent → PortStepped → Columns
columns_held h e r =
    columns_of e (tells r) (states_at r.next.bays e.number) (length (queue_in (numbers_after h.queue r)))

-- what is listed
abbrev pub of_shelf : Listable Shelf ShelfEvent
of_shelf =
    record {
      header = header_line;
      reads = finds;
      line = λ place h e. event_line place (columns_held h e (step_held h e));
      next = λ h e. held_after h (step_held h e);
    }
