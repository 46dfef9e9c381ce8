-- One step of a port: what is judged first, where an event goes, and the Opens that are handed out after it.
use Rattle.std.specs.Prelude.{ℕ, Bool, ◌&&◌, ◌||◌, not, List, [], ◌∷◌, ◌++◌, eqb, ltb, length, set, get_or}
use Rattle.table.specs.Choice.{pick}
use Rattle.table.specs.Refusals.{bad_state, bad_event, queue_full, no_such_phy}
use Rattle.event.specs.Names.{tx_open}
use Rattle.event.specs.Table.{known_in_trace, event_of, open_of}
use Rattle.event.specs.declared.Event.{Event}
use Rattle.event.specs.declared.Open.{Open}
use Rattle.phy.specs.Shapes.{no_open}
use Rattle.bay.specs.State.{fresh_bay}
use Rattle.bay.specs.Step as bay
use Rattle.bay.specs.Step.{no_report}
use Rattle.bay.specs.declared.Bay.{Bay}
use Rattle.bay.specs.declared.Stepped.{Stepped as BayStepped}
use Rattle.queue.specs.Lent.{most_waiting, numbers_of}
use Rattle.port.specs.Names.{the_port}
use Rattle.port.specs.Flags.{lowest}
use Rattle.port.specs.State.{Port, free_of, free_phys, valid_of}
use Rattle.port.specs.declared.Reports.{Reports}

-- ---- reports

-- what a bay's step reports
abbrev pub reports_of : BayStepped → Reports
reports_of r =
    record {
      answered = r.answered;
      answer = r.answer;
      notice = r.notice;
      secondNotice = r.secondNotice;
      sent = r.sent;
      refusal = r.refusal;
    }

-- nothing but the number of a refusal, or 0
abbrev pub only_refusal : ℕ → Reports
only_refusal n =
    record {
      answered = no_open;
      answer = no_report;
      notice = no_report;
      secondNotice = no_report;
      sent = no_report;
      refusal = n;
    }

-- an Open that was handed out: to which phy, which Open, and what that phy sent
pub record HandOut : Type 0 where
  pub phy : ℕ
  pub request : Open
  pub sent : ℕ

-- what a step gives: the port, the event's own reports, and the hand-outs after it, in order
pub record PortStepped : Type 0 where
  pub next : Port
  pub reports : Reports
  pub hand_outs : List HandOut

-- a refusal: the port as given, every report zero, and nothing handed out
abbrev pub refused : Port → ℕ → PortStepped
refused p n = record { next = p; reports = only_refusal n; hand_outs = [] }

-- ---- handing out

-- the Tx Open of an Open
abbrev pub open_event : Open → Event
open_event o = event_of tx_open (numbers_of o)

-- what Opens handed out leave
pub record Handed : Type 0 where
  pub port : Port
  pub hand_outs : List HandOut

-- the bay with a number
abbrev pub bay_at : List Bay → ℕ → Bay
bay_at bays k = get_or bays k fresh_bay

-- the lowest-numbered free phy
abbrev pub lowest_free : List Bay → ℕ
lowest_free bays = lowest (free_of bays)

-- what it makes of an Open
abbrev pub received : List Bay → Open → BayStepped
received bays o = bay.step_of (bay_at bays (lowest_free bays)) (open_event o)

-- one Open is handed out, and then the others
abbrev pub one_more : List Bay → Open → Handed → Handed
one_more bays o rest =
    record {
      port = rest.port;
      hand_outs =
          record { phy = lowest_free bays; request = o; sent = (received bays o).sent.code } ∷ rest.hand_outs;
    }

-- while an Open waits and a phy is free, the oldest goes to the lowest-numbered free phy, with the wait it came with
unfoldable pub handing : List Bay → List Open → Handed
handing bays [] = record { port = record { bays = bays; queue = [] }; hand_outs = [] }
handing bays (o ∷ os) =
    pick (ltb 0 (free_phys bays))
    (one_more bays o (handing (set bays (lowest_free bays) (received bays o).next) os))
    (record { port = record { bays = bays; queue = o ∷ os }; hand_outs = [] })

-- an event with its reports, and then the Opens that are handed out
abbrev pub then_handed : Reports → List Bay → List Open → PortStepped
then_handed reports bays queue =
    record {
      next = (handing bays queue).port;
      reports = reports;
      hand_outs = (handing bays queue).hand_outs;
    }

-- ---- where an event goes

-- to the port itself
abbrev pub is_ports : (number : ℕ) → Bool
is_ports number = eqb number the_port

-- an event that may come: known, and of those to the port itself only a Tx Open
abbrev pub may_come : (number : ℕ) → Event → Bool
may_come number e = known_in_trace e && (not (is_ports number) || eqb e.code tx_open)

-- to the port: the Open joins the queue, where fewer than 32 wait
unfoldable pub to_port : Port → Event → PortStepped
to_port p e =
    pick (ltb (length p.queue) most_waiting) (then_handed (only_refusal 0) p.bays (p.queue ++ (open_of e ∷ [])))
    (refused p queue_full)

-- what the phy with a number made of an event; a Tx Open goes straight to it
abbrev pub with_phy : Port → (number : ℕ) → BayStepped → PortStepped
with_phy p number r =
    pick (eqb r.refusal 0) (then_handed (reports_of r) (set p.bays number r.next) p.queue)
    (refused p r.refusal)

-- to the phy with a number, where there is one
unfoldable pub to_phy : Port → (number : ℕ) → Event → PortStepped
to_phy p number e =
    pick (ltb number (length p.bays)) (with_phy p number (bay.step_of (bay_at p.bays number) e))
    (refused p no_such_phy)

-- any port, any number and any event: the port is judged first, then the event, then where it goes
unfoldable pub port_step_of : (limit : ℕ) → Port → (number : ℕ) → Event → PortStepped
port_step_of limit p number e =
    pick (valid_of limit p)
    (pick (may_come number e) (pick (is_ports number) (to_port p e) (to_phy p number e)) (refused p bad_event))
    (refused p bad_state)
