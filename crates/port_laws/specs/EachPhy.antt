-- Each phy of a port by itself: what came to it, as events of a bay alone, and demand 3 of it. A heading names the file
-- of proofs/.
use Rattle.std.specs.Prelude.{ℕ, ◌≤◌, ◌<◌, Bool, ◌&&◌, not, List, [], ◌∷◌, ◌++◌, map, ◌≡◌, eqb}
use Rattle.table.specs.Choice.{pick}
use Rattle.event.specs.declared.Event.{Event}
use Rattle.event.specs.declared.Open.{Open}
use Rattle.event.specs.declared.ShelfEvent.{ShelfEvent}
use Rattle.phy.specs.Step as phy
use Rattle.ledger.specs.Log as ledger
use Rattle.ledger.specs.Log.{many, ticked, heard_aip}
use Rattle.ledger.specs.Ledger.{due}
use Rattle.ledger.specs.Demand.{log_of, phy_after, Lawful}
use Rattle.bay.specs.State.{fresh_bay}
use Rattle.bay.specs.Log as bay
use Rattle.bay_laws.specs.Spelled.{spelled_out, Answer, open_if, answer_if, gathered, opens_of, answers_of, bay_answers}
use Rattle.bay_laws.specs.Spelled.{AnsweredInTime}
use Rattle.port.specs.State.{Port, fresh_port}
use Rattle.port.specs.Step.{open_event, bay_at, is_ports}
use Rattle.port.specs.Log.{Entry, step_on, log, after}
use Rattle.port_laws.specs.Laws.{requests_to, phy_at}

-- ---- what the port's log tells of a phy

-- an event to the phy i; those to 127 are the port's own
abbrev pub is_to : (i : ℕ) → ShelfEvent → Bool
is_to i e = eqb e.number i && not (is_ports e.number)

-- what came to the phy i in an entry: the event, where it is to i, and then the Tx Open of each hand-out to i
abbrev pub came_to : (i : ℕ) → Entry → List Event
came_to i x =
    pick (is_to i x.event) (x.event.event ∷ []) [] ++ map open_event (requests_to i x.result.hand_outs)

-- the events of the phy i, as those of a bay alone; one that is refused stands among them, and the bay refuses it too
abbrev pub bay_events : (i : ℕ) → List Entry → List Event
bay_events i xs = gathered (came_to i) xs

-- the Opens that the phy i accepted in an entry: a Tx Open straight to it, and then those handed out to it
abbrev pub accepted_in : (i : ℕ) → Entry → List Open
accepted_in i x =
    pick (is_to i x.event) (open_if x.event.event x.result.reports.refusal) []
    ++ requests_to i x.result.hand_outs

-- all of them, in order
abbrev pub accepted_by : (i : ℕ) → List Entry → List Open
accepted_by i xs = gathered (accepted_in i) xs

-- its answer in an entry, with the Open's arguments
abbrev pub answered_in : (i : ℕ) → Entry → List Answer
answered_in i x =
    pick (is_to i x.event) (answer_if x.result.reports.answer.code x.result.reports.answered) []

-- all of them, in order
abbrev pub answered_by : (i : ℕ) → List Entry → List Answer
answered_by i xs = gathered (answered_in i) xs

-- ---- demand 3 of each phy (proofs/EachPhy)

-- the phy i of a fresh port of n phys after shelf events, and a fresh phy after the events of i spelled out
pub record ByItself (limit n i : ℕ) (es : List ShelfEvent) : Type 0 where
  -- its record is that of a bay to which these events came, and to which nothing else did
  pub alone :
      bay_at (after limit (fresh_port n) es).bays i ≡ bay.after fresh_bay (bay_events i (log limit (fresh_port n) es))
  -- the same phy, the same acceptances and the same answers with their arguments, in order
  pub phy :
      phy_at (after limit (fresh_port n) es) i
      ≡ phy_after (spelled_out fresh_bay (bay_events i (log limit (fresh_port n) es)))
  pub accepted :
      accepted_by i (log limit (fresh_port n) es)
      ≡ opens_of (log_of (spelled_out fresh_bay (bay_events i (log limit (fresh_port n) es))))
  pub answers :
      answered_by i (log limit (fresh_port n) es)
      ≡ answers_of (log_of (spelled_out fresh_bay (bay_events i (log limit (fresh_port n) es))))
  -- of which demand 3 holds as it stands
  pub lawful : Lawful (spelled_out fresh_bay (bay_events i (log limit (fresh_port n) es)))

abbrev pub EachByItself : Type 0
EachByItself = (limit n i : ℕ) (es : List ShelfEvent) → 1 ≤ n → n ≤ limit → i < n → ByItself limit n i es

-- ---- its answer in time (proofs/InTime)

-- the entry of a shelf event
abbrev pub entry_of : (limit : ℕ) → Port → ShelfEvent → Entry
entry_of limit p e = record { event = e; result = step_on limit p e }

-- what came to the phy i in shelf events, in single ticks, as the log of its phy
abbrev pub phy_log : (limit : ℕ) → Port → (i : ℕ) → List ShelfEvent → List ledger.Entry
phy_log limit p i es =
    ledger.log phy.step_of (phy_at p i) (spelled_out (bay_at p.bays i) (bay_events i (log limit p es)))

-- in shelf events comes the first answer of the phy i, and it is to o: the port's log tells it
pub record AnsweredAt (limit : ℕ) (p : Port) (i : ℕ) (o : Open) (es : List ShelfEvent) : Type 0 where
  pub in_time : AnsweredInTime (bay_at p.bays i) o (bay_events i (log limit p es))
  pub told : answered_by i (log limit p es) ≡ bay_answers (bay.log (bay_at p.bays i) (bay_events i (log limit p es)))

-- once as many ticks have come to a phy since it accepted an Open, straight or handed out, as are due for the AIPs
-- heard since, those of stamps among them, the answer has been given
abbrev pub AnsweredByTicks : Type 0
AnsweredByTicks =
    (limit n i : ℕ) (es : List ShelfEvent) (e : ShelfEvent) (o : Open) (fs : List ShelfEvent)
    → 1 ≤ n → n ≤ limit → i < n
    → accepted_in i (entry_of limit (after limit (fresh_port n) es) e) ≡ o ∷ []
    → due (many heard_aip (phy_log limit (step_on limit (after limit (fresh_port n) es) e).next i fs))
    ≤ many ticked (phy_log limit (step_on limit (after limit (fresh_port n) es) e).next i fs)
    → AnsweredAt limit (step_on limit (after limit (fresh_port n) es) e).next i o fs
