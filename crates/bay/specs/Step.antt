-- One step of a bay: a time stamp is a gap, and every other event goes to the phy.
use Rattle.std.specs.Prelude.{ℕ, ◌+◌, ◌-◌, ◌%◌, Bool, ◌&&◌, ◌==◌, slice_index_or}
use Rattle.table.specs.Choice.{pick}
use Rattle.table.specs.Flags.{on, is_on}
use Rattle.table.specs.Refusals.{bad_state}
use Rattle.event.specs.Names.{time_stamp, most_counter}
use Rattle.event.specs.Table.{known_in_trace, stamp_of}
use Rattle.event.specs.declared.Event.{Event}
use Rattle.phy.specs.Shapes.{no_open}
use Rattle.phy.specs.Step as phy
use Rattle.phy.specs.declared.Stepped.{Stepped as PhyStepped}
use Rattle.bay.specs.State.{valid_of}
use Rattle.bay.specs.Gap.{report, Gap, gap_of}
use Rattle.bay.specs.declared.Bay.{Bay}
use Rattle.bay.specs.declared.Report.{Report}
use Rattle.bay.specs.declared.Stepped.{Stepped}

-- ---- reports

-- there is none
abbrev pub no_report : Report
no_report = report 0 0

-- what a phy's step gave, the bay's base kept: no gap has passed, so every tick is 0
abbrev pub at_once : Bay → PhyStepped → Stepped
at_once b r =
    record {
      next = record { phy = r.next; base = b.base; baseSet = b.baseSet };
      answered = r.answered;
      answer = report r.answer 0;
      notice = report r.notice 0;
      secondNotice = no_report;
      sent = report r.sent 0;
      refusal = r.refusal;
    }

-- a gap has passed up to a counter, which is the base: the answer with its Open, the first two notices, the primitive
abbrev pub passed : Gap → (counter : ℕ) → Stepped
passed g counter =
    record {
      next = record { phy = g.phy; base = counter; baseSet = on };
      answered = slice_index_or g.opens 0 no_open;
      answer = slice_index_or g.answers 0 no_report;
      notice = slice_index_or g.notices 0 no_report;
      secondNotice = slice_index_or g.notices 1 no_report;
      sent = slice_index_or g.sents 0 no_report;
      refusal = 0;
    }

-- a refusal: the bay as given, every report zero
abbrev pub refused : Bay → ℕ → Stepped
refused b n =
    record {
      next = b;
      answered = no_open;
      answer = no_report;
      notice = no_report;
      secondNotice = no_report;
      sent = no_report;
      refusal = n;
    }

-- the last of two notices: the second, or the only one
abbrev pub last_notice : (first second : Report) → ℕ
last_notice first second = pick (second.code == 0) first.code second.code

-- ---- 16, time stamp

-- the values of the recorder's counter, which goes round past the last of them
abbrev pub counter_values : ℕ
counter_values = most_counter + 1

-- how far it has moved from a base to a counter
unfoldable pub counter_moved : (base counter : ℕ) → ℕ
counter_moved base counter = (counter + counter_values - base) % counter_values

-- the ticks that a stamp stands for: the first one only sets the base
abbrev pub ticks_to : Bay → (counter : ℕ) → ℕ
ticks_to b counter = pick (is_on b.baseSet) (counter_moved b.base counter) 0

-- so many ticks pass, and the counter becomes the base
unfoldable pub on_stamp : Bay → (counter : ℕ) → Stepped
on_stamp b counter = passed (gap_of b.phy (ticks_to b counter)) counter

-- ---- any event

-- a stamp with its counter in range, and no other argument
abbrev pub is_stamp : Event → Bool
is_stamp e = e.code == time_stamp && known_in_trace e

-- any bay and any event: the bay is judged first; every event but a stamp is the phy's, a wrong stamp too
unfoldable pub step_of : Bay → Event → Stepped
step_of b e =
    pick (valid_of b) (pick (is_stamp e) (on_stamp b e.first) (at_once b (phy.step_of b.phy e))) (refused b bad_state)

-- what a known event does to a valid bay, without a judgement; a stamp is judged all the same
unfoldable pub move_of : Bay → Event → Stepped
move_of b e = pick (e.code == time_stamp) (step_of b (stamp_of e.first)) (at_once b (phy.move_of b.phy e))
