-- The lines of a shelf's listing, byte for byte, beside those that every listing has.
use Rattle.std.specs.Prelude.{ℕ, List, [], ◌∷◌, length, nat_lt}
use Rattle.table.specs.Choice.{pick}
use Rattle.event.specs.declared.ShelfEvent.{ShelfEvent}
use Rattle.bay.specs.Step.{last_notice}
use Rattle.bay.specs.declared.Bay.{Bay}
use Rattle.port.specs.Step.{bay_at}
use Rattle.port.specs.declared.Stepped.{Stepped}
use Rattle.output.specs.Writing.{line}
use Rattle.lines.specs.Words.{ascii}
use Rattle.shelf_listing.specs.declared.States.{States}
use Rattle.shelf_listing.specs.declared.Columns.{Columns}

-- the names of the columns
abbrev pub header_line : List ℕ
header_line = ascii "place phy event refusal answer notice sent link port handed waiting\n"

-- link and port of the phy with a number; where there is none, 0 and 0
abbrev pub states_at : List Bay → (number : ℕ) → States
states_at bays number =
    pick (nat_lt number (length bays))
    (record { link = (bay_at bays number).phy.link; port = (bay_at bays number).phy.port })
    (record { link = 0; port = 0 })

-- what stands in the columns of an event: its phy and its code, what it reports, of two notices the last, link and port
-- of its phy afterwards, the phy that then received an Open, and how many wait
abbrev pub columns_of : ShelfEvent → Stepped → States → (waiting : ℕ) → Columns
columns_of e r states waiting =
    record {
      phy = e.number;
      event = e.event.code;
      refusal = r.reports.refusal;
      answer = r.reports.answer.code;
      notice = last_notice r.reports.notice r.reports.secondNotice;
      sent = r.reports.sent.code;
      link = states.link;
      port = states.port;
      handed = r.handed;
      waiting = waiting;
    }

-- an event whose first byte, that of its phy's number, is at a place
abbrev pub event_line : (place : ℕ) → Columns → List ℕ
event_line place c =
    line place
    (c.phy ∷ c.event ∷ c.refusal ∷ c.answer ∷ c.notice ∷ c.sent ∷ c.link ∷ c.port ∷ c.handed ∷ c.waiting ∷ [])
