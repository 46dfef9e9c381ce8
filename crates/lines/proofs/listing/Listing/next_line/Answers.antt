-- `Listing::next_line` meets its contract: each progress has its line.
use Rattle.std.proofs.Common.{refl, sym, arith}
use Rattle.lines.specs.Listing.{line_at}
use Rattle.lines.proofs.Moves.{stays, stays_short, goes_by}
use Rattle.lines.proofs.listing.Listing.next_line.Goals as goal

pub returns-in-Header : goal.returns-in-Header
unfolding line_at
returns-in-Header g c =
    rw (c.in-Header.is, c.still.ensures, sym c.header.ensures.words)
    (goes_by _ _ _ (λ before at after p. stays_short _ _ _ _ _ _ _ p c.header.ensures.short) c.put_line.ensures)

pub returns-in-Events : goal.returns-in-Events
unfolding line_at
returns-in-Events g c = rw c.in-Events.is c.next_event.ensures

pub returns-in-TooLong : goal.returns-in-TooLong
unfolding line_at
returns-in-TooLong g c =
    rw (c.in-TooLong.is, c.still-in-TooLong.ensures)
    (goes_by _ _ _ (λ before at after p. stays _ _ _ _ _ _ _ p) c.put_too_long.ensures)

pub returns-in-Done : goal.returns-in-Done
unfolding line_at
returns-in-Done g c =
    rw (c.in-Done.is, c.still-in-Done.ensures)
    (record { puts = record { says = refl; state = refl; bytes = refl; short = omega arith }; there = omega arith; same_buffer = refl })
