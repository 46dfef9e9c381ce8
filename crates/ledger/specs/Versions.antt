-- Versions two and three as moves that differ from ours in one row, and how the books show their faults.
use Rattle.std.specs.Prelude.{ℕ, ◌≤◌, true, ◌&&◌, List, ◌∷◌, ◌≡◌, eqb, leb, replicate}
use Rattle.table.specs.Choice.{pick}
use Rattle.event.specs.Names.{break_received, tick}
use Rattle.event.specs.declared.Event.{Event}
use Rattle.phy.specs.Names.{L0, L1, L5, P2, answer_open_timeout, sent_break, full_timer}
use Rattle.phy.specs.Shapes.{requesting, given_up, fresh_phy, reports, answers}
use Rattle.phy.specs.Ticks.{aged}
use Rattle.phy.specs.Step.{move_of}
use Rattle.phy.specs.declared.Phy.{Phy}
use Rattle.phy.specs.declared.Stepped.{Stepped}
use Rattle.ledger.specs.Log.{entry, log, after, answered}
use Rattle.ledger.specs.Ledger.{due, Waiting, free, waiting, broken, books}
use Rattle.ledger.specs.Demand.{plain, open_to_five}

-- version two: a BREAK in L1 leaves the link idle, and the port in Req_Wait
unfoldable pub step_two : Phy → Event → Stepped
step_two p e =
    pick (eqb e.code break_received && eqb p.link L1)
    (reports (requesting p.settings L0 P2 0 p.request p.part) 0 sent_break) (move_of p e)

-- an Open, a BREAK, and 2,000 ticks
abbrev pub lost_to_break : List Event
lost_to_break = open_to_five ∷ plain break_received ∷ replicate 2000 (plain tick)

-- the Open still waits when its answer is due
abbrev pub VersionTwoLate : Type 0
VersionTwoLate =
    (w : Waiting) × (books free (log step_two fresh_phy lost_to_break) ≡ waiting w) × (due w.aips ≤ w.ticks)

-- version three: an Open that has failed is answered at once, and again when the link is idle
unfoldable pub step_three : Phy → Event → Stepped
step_three p e =
    pick (eqb e.code tick && eqb p.link L1 && leb p.timer 1)
    (answers (given_up p.settings L5 full_timer (aged p).request answer_open_timeout)
    answer_open_timeout (aged p).request 0 sent_break)
    (move_of p e)

-- an Open and n ticks
abbrev pub open_and_ticks : ℕ → List Event
open_and_ticks n = open_to_five ∷ replicate n (plain tick)

-- after 1,999 ticks none waits any more, and the next tick answers again and breaks the books
pub record AnsweredAgain : Type 0 where
  pub none_waits : books free (log step_three fresh_phy (open_and_ticks 1999)) ≡ free
  pub again : answered (entry step_three (after step_three fresh_phy (open_and_ticks 1999)) (plain tick)) ≡ true
  pub breaks : books free (log step_three fresh_phy (open_and_ticks 2000)) ≡ broken

abbrev pub VersionThreeTwice : Type 0
VersionThreeTwice = AnsweredAgain
