-- The lines of a phy's listing, byte for byte, beside those that every listing has.
use Rattle.std.specs.Prelude.{ℕ, List, [], ◌∷◌}
use Rattle.event.specs.declared.Event.{Event}
use Rattle.bay.specs.Step.{last_notice}
use Rattle.bay.specs.declared.Stepped.{Stepped}
use Rattle.output.specs.Writing.{line}
use Rattle.lines.specs.Words.{ascii}
use Rattle.listing.specs.declared.Columns.{Columns}

-- the names of the columns
abbrev pub header_line : List ℕ
header_line = ascii "place event refusal answer notice sent link port\n"

-- what stands in them of an event and its step: the codes, of two notices the last, and link and port after it
abbrev pub columns_of : Event → Stepped → Columns
columns_of e s =
    record {
      event = e.code;
      refusal = s.refusal;
      answer = s.answer.code;
      notice = last_notice s.notice s.secondNotice;
      sent = s.sent.code;
      link = s.next.phy.link;
      port = s.next.phy.port;
    }

-- an event whose first byte is at a place
abbrev pub event_line : (place : ℕ) → Columns → List ℕ
event_line place c =
    line place (c.event ∷ c.refusal ∷ c.answer ∷ c.notice ∷ c.sent ∷ c.link ∷ c.port ∷ [])
