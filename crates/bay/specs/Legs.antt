-- How the code passes a gap: not tick by tick, but in two legs, each up to the tick that moves the link. What a gap is
-- stands in Gap alone; here is what the code's own functions promise each other.
use Rattle.std.specs.Prelude.{◌≡◌, ℕ, ◌+◌, ◌-◌, ◌≤◌, true, ◌||◌, ◌==◌, nat_le}
use Rattle.table.specs.Choice.{pick}
use Rattle.table.specs.Flags.{on}
use Rattle.event.specs.Names.{most_counter, tick}
use Rattle.phy.specs.Names.{P2}
use Rattle.phy.specs.Shapes.{with_timer, with_waited, quiet}
use Rattle.phy.specs.State.{valid_of}
use Rattle.phy.specs.Ticks.{waited_of}
use Rattle.phy.specs.Step.{step_of}
use Rattle.phy.specs.declared.Waited.{Waited}
use Rattle.phy.specs.declared.Phy.{Phy}
use Rattle.phy.specs.declared.Stepped.{Stepped as PhyStepped}
use Rattle.phy_laws.specs.Waiting.{rests}
use Rattle.ledger.specs.Wait.{waited_for}
use Rattle.ledger.specs.Demand.{plain}
use Rattle.bay.specs.Gap.{report}
use Rattle.bay.specs.Step.{no_report}
use Rattle.bay.specs.declared.Report.{Report}
use Rattle.bay.specs.declared.Leg.{Leg}
use Rattle.bay.specs.declared.Stepped.{Stepped}

-- what a leg asks: a valid phy, and no more ticks than a counter can move
pub record Ready (p : Phy) (n : ℕ) : Type 0 where
  pub valid : valid_of p ≡ true
  pub few : n ≤ most_counter

-- where a link does not rest, so many ticks come before the one that moves it
abbrev pub calm : Phy → ℕ
calm p = p.timer - 1

-- how long its request has waited n ticks later
abbrev pub waited_later : Phy → (n : ℕ) → Waited
waited_later p n = pick (p.port == P2) (waited_for (waited_of p) n) (waited_of p)

-- the phy after n ticks that do not move its link
unfoldable pub later : Phy → (n : ℕ) → Phy
later p n = with_timer (with_waited p (waited_later p n)) (p.timer - n)

-- a leg: what its last tick gave, and how many ticks it has
abbrev pub leg : PhyStepped → (ticks : ℕ) → Leg
leg r ticks = record { stepped = r; ticks = ticks }

-- up to the tick that moves the link, or all n where none of them does
unfoldable pub leg_of : Phy → (n : ℕ) → Leg
leg_of p n =
    pick (rests p.link || nat_le n (calm p)) (leg (quiet (later p n)) n)
    (leg (step_of (later p (calm p)) (plain tick)) (calm p + 1))

-- a code at a tick; none where it is 0
abbrev pub report_at : (code at : ℕ) → Report
report_at code at = pick (code == 0) no_report (report code at)

-- the first of two codes that is not 0
abbrev pub first_of : (code at later then : ℕ) → Report
first_of code at later then = pick (code == 0) (report_at later then) (report code at)

-- the second of them, where neither is 0
abbrev pub second_of : (code later then : ℕ) → Report
second_of code later then = pick (code == 0) no_report (report_at later then)

-- two legs, one after the other
abbrev pub both_legs : Leg → Leg → (counter : ℕ) → Stepped
both_legs a b counter =
    record {
      next = record { phy = b.stepped.next; base = counter; baseSet = on };
      answered = pick (a.stepped.answer == 0) b.stepped.answered a.stepped.answered;
      answer = first_of a.stepped.answer a.ticks b.stepped.answer (a.ticks + b.ticks);
      notice = first_of a.stepped.notice a.ticks b.stepped.notice (a.ticks + b.ticks);
      secondNotice = second_of a.stepped.notice b.stepped.notice (a.ticks + b.ticks);
      sent = first_of a.stepped.sent a.ticks b.stepped.sent (a.ticks + b.ticks);
      refusal = 0;
    }
