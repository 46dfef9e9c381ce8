-- What holds of every step of a port, of any limit of phys, and after every list of shelf events. A heading names the
-- file of proofs/.
use Rattle.std.specs.Prelude.{ℕ, ◌-◌, ◌^◌, ◌≤◌, ◌<◌, true, false, List, [], ◌∷◌, ◌++◌, ◌↔◌, ◌⊎◌, ◌≡◌, eqb, length}
use Rattle.table.specs.Choice.{pick}
use Rattle.table.specs.Flags.{on}
use Rattle.table.specs.Refusals.{bad_state, bad_event, busy, nothing_pending, not_connected, wrong_protocol, queue_full}
use Rattle.table.specs.Refusals.{no_such_phy}
use Rattle.event.specs.Names.{SMP, tx_open, cancel_open, close_connection, smp_transmit_break}
use Rattle.event.specs.Table.{known_of, known_in_trace, open_of, stamp_of}
use Rattle.event.specs.declared.Event.{Event}
use Rattle.event.specs.declared.Open.{Open}
use Rattle.event.specs.declared.ShelfEvent.{ShelfEvent}
use Rattle.phy.specs.Names.{L0, L1, L3, P1, P2, full_timer, sent_open}
use Rattle.phy.specs.Shapes.{no_open}
use Rattle.phy.specs.declared.Phy.{Phy}
use Rattle.phy_laws.specs.Laws.{Free}
use Rattle.ledger.specs.Demand.{plain}
use Rattle.bay.specs.State as bayState
use Rattle.bay.specs.Gap.{report}
use Rattle.bay.specs.Step as bay
use Rattle.bay.specs.declared.Stepped.{Stepped as BayStepped}
use Rattle.queue.specs.Lent.{most_waiting}
use Rattle.queue.specs.Laws.{AllKnown}
use Rattle.port.specs.Names.{the_port}
use Rattle.port.specs.State.{Port, is_free, free_phys, valid_of, fresh_port}
use Rattle.port.specs.Step.{HandOut, PortStepped, refused, bay_at, port_step_of}
use Rattle.port.specs.declared.Reports.{Reports}
use Rattle.port.specs.Log.{after}

-- the phy with a number
abbrev pub phy_at : Port → (number : ℕ) → Phy
phy_at p number = (bay_at p.bays number).phy

-- ---- validity (proofs/Steps)

-- a fresh port of at least one phy, and no more than the limit, is valid
abbrev pub FreshValid : Type 0
FreshValid = (limit n : ℕ) → 1 ≤ n → n ≤ limit → valid_of limit (fresh_port n) ≡ true

-- a valid port stays valid, whatever the number and the event
abbrev pub StaysValid : Type 0
StaysValid =
    (limit : ℕ) (p : Port) (number : ℕ) (e : Event) → valid_of limit p ≡ true
    → valid_of limit (port_step_of limit p number e).next ≡ true

-- ---- which ports are valid, in the paper's words (proofs/Rules)

-- a phy in P1 with L0
abbrev pub Idle : Phy → Type 0
Idle p = (p.link ≡ L0) × (p.port ≡ P1)

-- one phy at least and no more than the limit, each valid; at most 32 Opens, each known; none beside an idle phy
pub record Rules (limit : ℕ) (p : Port) : Type 0 where
  pub some : 1 ≤ length p.bays
  pub few : length p.bays ≤ limit
  pub bays : (i : ℕ) → i < length p.bays → bayState.valid_of (bay_at p.bays i) ≡ true
  pub short : length p.queue ≤ 32
  pub known : AllKnown p.queue
  pub alone : (p.queue ≡ []) ⊎ ((i : ℕ) → i < length p.bays → Idle (phy_at p i) → ⊥)

-- valid is what these rules say
abbrev pub ValidExactly : Type 0
ValidExactly = (limit : ℕ) (p : Port) → valid_of limit p ≡ true ↔ Rules limit p

-- ---- refused, nothing changes (proofs/Steps)

-- the refusal that a step reports
abbrev pub refusal_of : (limit : ℕ) → Port → (number : ℕ) → Event → ℕ
refusal_of limit p number e = (port_step_of limit p number e).reports.refusal

-- a refused event changes no record and no queue, and nothing is handed out; every report is zero
abbrev pub RefusedKeeps : Type 0
RefusedKeeps =
    (limit : ℕ) (p : Port) (number : ℕ) (e : Event) → (refusal_of limit p number e ≡ 0 → ⊥)
    → port_step_of limit p number e ≡ refused p (refusal_of limit p number e)

-- ---- each refusal exactly when (proofs/Refusals)

-- a port that is valid, and an event that may stand in a trace
pub record Judged (limit : ℕ) (p : Port) (e : Event) : Type 0 where
  pub valid : valid_of limit p ≡ true
  pub known : known_in_trace e ≡ true

-- a Tx Open to the port itself
pub record AtPort (limit : ℕ) (p : Port) (number : ℕ) (e : Event) : Type 0 where
  pub judged : Judged limit p e
  pub ports : number ≡ the_port
  pub opens : e.code ≡ tx_open

-- an event to a phy that is there
pub record AtPhy (limit : ℕ) (p : Port) (number : ℕ) (e : Event) : Type 0 where
  pub judged : Judged limit p e
  pub phys : number ≡ the_port → ⊥
  pub there : number < length p.bays

-- 1: the port is not valid
abbrev pub BadStateExactly : Type 0
BadStateExactly =
    (limit : ℕ) (p : Port) (number : ℕ) (e : Event)
    → refusal_of limit p number e ≡ bad_state ↔ (valid_of limit p ≡ false)

-- 2: it is, and the event may not stand in a trace, or is to the port itself and no Tx Open
abbrev pub BadEventExactly : Type 0
BadEventExactly =
    (limit : ℕ) (p : Port) (number : ℕ) (e : Event)
    → refusal_of limit p number e ≡ bad_event
    ↔ (valid_of limit p ≡ true) × ((known_in_trace e ≡ false) ⊎ ((number ≡ the_port) × (e.code ≡ tx_open → ⊥)))

-- 12: the number is not the port's, and not below the count of phys
abbrev pub NoSuchPhyExactly : Type 0
NoSuchPhyExactly =
    (limit : ℕ) (p : Port) (number : ℕ) (e : Event)
    → refusal_of limit p number e ≡ no_such_phy
    ↔ Judged limit p e × (number ≡ the_port → ⊥) × (length p.bays ≤ number)

-- 11: a Tx Open to the port itself, and 32 wait already
abbrev pub QueueFullExactly : Type 0
QueueFullExactly =
    (limit : ℕ) (p : Port) (number : ℕ) (e : Event)
    → refusal_of limit p number e ≡ queue_full ↔ AtPort limit p number e × (length p.queue ≡ most_waiting)

-- 3 to 6: the event is to a phy that is there, whose bay refuses it with that number
abbrev pub PhysOwn : Type 0
PhysOwn =
    (limit : ℕ) (p : Port) (number : ℕ) (e : Event) (n : ℕ) → busy ≤ n → n ≤ wrong_protocol
    → refusal_of limit p number e ≡ n
    ↔ AtPhy limit p number e × ((bay.step_of (bay_at p.bays number) e).refusal ≡ n)

-- 3: Tx Open, and the phy's port is not in P1
abbrev pub BusyExactly : Type 0
BusyExactly =
    (limit : ℕ) (p : Port) (number : ℕ) (e : Event)
    → refusal_of limit p number e ≡ busy
    ↔ AtPhy limit p number e × (e.code ≡ tx_open) × ((phy_at p number).port ≡ P1 → ⊥)

-- 4: Cancel Open, and the phy's port is not in P2
abbrev pub NothingPendingExactly : Type 0
NothingPendingExactly =
    (limit : ℕ) (p : Port) (number : ℕ) (e : Event)
    → refusal_of limit p number e ≡ nothing_pending
    ↔ AtPhy limit p number e × (e.code ≡ cancel_open) × ((phy_at p number).port ≡ P2 → ⊥)

-- 5: Close or SMP Break, and the phy's link is not in L3
abbrev pub NotConnectedExactly : Type 0
NotConnectedExactly =
    (limit : ℕ) (p : Port) (number : ℕ) (e : Event)
    → refusal_of limit p number e ≡ not_connected
    ↔ AtPhy limit p number e
    × ((e.code ≡ close_connection) ⊎ (e.code ≡ smp_transmit_break))
    × ((phy_at p number).link ≡ L3 → ⊥)

-- 6: SMP Break in L3, and the phy's connection is not SMP
abbrev pub WrongProtocolExactly : Type 0
WrongProtocolExactly =
    (limit : ℕ) (p : Port) (number : ℕ) (e : Event)
    → refusal_of limit p number e ≡ wrong_protocol
    ↔ AtPhy limit p number e
    × (e.code ≡ smp_transmit_break)
    × ((phy_at p number).link ≡ L3)
    × ((phy_at p number).connectionProtocol ≡ SMP → ⊥)

-- 0: a Tx Open to the port itself, and fewer than 32 wait; or an event to a phy that is there and does not refuse it
abbrev pub NotRefusedExactly : Type 0
NotRefusedExactly =
    (limit : ℕ) (p : Port) (number : ℕ) (e : Event)
    → refusal_of limit p number e ≡ 0
    ↔ ((AtPort limit p number e × (length p.queue < most_waiting))
    ⊎ (AtPhy limit p number e × Free (phy_at p number) e))

-- ---- which refusal comes first (proofs/Refusals)

-- a port that is not valid refuses every event with 1, a bad one too, whatever its number
abbrev pub BadStateFirst : Type 0
BadStateFirst =
    (limit : ℕ) (p : Port) (number : ℕ) (e : Event) → valid_of limit p ≡ false
    → port_step_of limit p number e ≡ refused p bad_state

-- a bad event to a valid port is refused with 2, also where there is no such phy and where 32 wait
abbrev pub UnknownFirst : Type 0
UnknownFirst =
    (limit : ℕ) (p : Port) (number : ℕ) (e : Event) → valid_of limit p ≡ true → known_in_trace e ≡ false
    → port_step_of limit p number e ≡ refused p bad_event

-- and so is every event to the port itself but a Tx Open, also where 32 wait
abbrev pub OnlyOpens : Type 0
OnlyOpens =
    (limit : ℕ) (p : Port) (e : Event) → valid_of limit p ≡ true → (e.code ≡ tx_open → ⊥)
    → port_step_of limit p the_port e ≡ refused p bad_event

-- ---- the request's own examples (proofs/Examples)

-- of a valid port of fewer than 127 phys: an unknown event to 200 is 2; a Cancel to 200, to 126 and to 2^64 - 1 is 12,
-- and to 127 it is 2, as a stamp is; where 32 wait a Tx Open to 127 is 11, and where 31 do it is taken
pub record AsRequested (limit : ℕ) (p : Port) : Type 0 where
  pub unknown_to_200 : (e : Event) → known_in_trace e ≡ false → refusal_of limit p 200 e ≡ 2
  pub cancel_to_200 : refusal_of limit p 200 (plain cancel_open) ≡ 12
  pub cancel_to_126 : refusal_of limit p 126 (plain cancel_open) ≡ 12
  pub cancel_to_the_last : refusal_of limit p (2 ^ 64 - 1) (plain cancel_open) ≡ 12
  pub cancel_to_127 : refusal_of limit p 127 (plain cancel_open) ≡ 2
  pub stamp_to_127 : (counter : ℕ) → refusal_of limit p 127 (stamp_of counter) ≡ 2
  pub full_at_32 : (e : Event) → known_of e ≡ true → e.code ≡ 1 → length p.queue ≡ 32 → refusal_of limit p 127 e ≡ 11
  pub room_at_31 : (e : Event) → known_of e ≡ true → e.code ≡ 1 → length p.queue ≡ 31 → refusal_of limit p 127 e ≡ 0

abbrev pub Examples : Type 0
Examples = (limit : ℕ) (p : Port) → valid_of limit p ≡ true → length p.bays < 127 → AsRequested limit p

-- ---- what a phy reports (proofs/Refusals, proofs/Reporting)

-- each report of an event to a phy is that of its bay, with its tick
pub record Same (r : Reports) (b : BayStepped) : Type 0 where
  pub answered : r.answered ≡ b.answered
  pub answer : r.answer ≡ b.answer
  pub notice : r.notice ≡ b.notice
  pub second_notice : r.secondNotice ≡ b.secondNotice
  pub sent : r.sent ≡ b.sent
  pub refusal : r.refusal ≡ b.refusal

-- so it is with every event to a phy of a valid port, refused where the bay refuses it
abbrev pub ReportsArePhys : Type 0
ReportsArePhys =
    (limit : ℕ) (p : Port) (number : ℕ) (e : Event)
    → valid_of limit p ≡ true → (number ≡ the_port → ⊥) → number < length p.bays
    → Same (port_step_of limit p number e).reports (bay.step_of (bay_at p.bays number) e)

-- an event to the port itself reports nothing but its refusal
pub record Nothing (r : Reports) : Type 0 where
  pub answered : r.answered ≡ no_open
  pub answer : r.answer ≡ report 0 0
  pub notice : r.notice ≡ report 0 0
  pub second_notice : r.secondNotice ≡ report 0 0
  pub sent : r.sent ≡ report 0 0

abbrev pub PortReportsNothing : Type 0
PortReportsNothing = (limit : ℕ) (p : Port) (e : Event) → Nothing (port_step_of limit p the_port e).reports

-- ---- hand-outs (proofs/Steps, proofs/HandOuts, proofs/Freed)

-- an event hands out one Open at most, whatever the port, the number and the event
abbrev pub AtMostOne : Type 0
AtMostOne = (limit : ℕ) (p : Port) (number : ℕ) (e : Event) → length (port_step_of limit p number e).hand_outs ≤ 1

-- an Open that is handed out goes to the lowest phy that was free, which sends an OPEN at once, whatever came before in
-- the same event: its timer is full, and its request is the Open as it came
pub record Sends (p : Port) (r : PortStepped) (h : HandOut) : Type 0 where
  pub there : h.phy < length p.bays
  pub none_below : (j : ℕ) → j < h.phy → is_free (bay_at r.next.bays j) ≡ false
  pub sent : h.sent ≡ sent_open
  pub link : (phy_at r.next h.phy).link ≡ L1
  pub port : (phy_at r.next h.phy).port ≡ P2
  pub timer : (phy_at r.next h.phy).timer ≡ full_timer
  pub request : (phy_at r.next h.phy).request ≡ h.request

abbrev pub HandOutsSend : Type 0
HandOutsSend =
    (limit : ℕ) (p : Port) (number : ℕ) (e : Event) (h : HandOut) → (port_step_of limit p number e).hand_outs ≡ h ∷ []
    → Sends p (port_step_of limit p number e) h

-- where an Open waits and an event leaves its phy idle, Phy Disabled too, that phy gets the oldest in that same event
abbrev pub FreedReceives : Type 0
FreedReceives =
    (limit : ℕ) (p : Port) (number : ℕ) (e : Event) (o : Open) (os : List Open)
    → AtPhy limit p number e → p.queue ≡ o ∷ os → (bay.step_of (bay_at p.bays number) e).refusal ≡ 0
    → Idle (bay.step_of (bay_at p.bays number) e).next.phy
    → (port_step_of limit p number e).hand_outs ≡ record { phy = number; request = o; sent = sent_open } ∷ []

-- a Tx Open to the port goes at once to the lowest idle phy, where there is one
abbrev pub IdleReceives : Type 0
IdleReceives =
    (limit : ℕ) (p : Port) (e : Event) (i : ℕ) → AtPort limit p the_port e → i < length p.bays → Idle (phy_at p i)
    → ((j : ℕ) → j < i → Idle (phy_at p j) → ⊥)
    → (port_step_of limit p the_port e).hand_outs ≡ record { phy = i; request = open_of e; sent = sent_open } ∷ []

-- the Opens that hand-outs give to the phy i
abbrev pub requests_to : (i : ℕ) → List HandOut → List Open
requests_to i [] = []
requests_to i (h ∷ hs) = pick (eqb h.phy i) (h.request ∷ []) [] ++ requests_to i hs

-- ---- the other phys (proofs/Steps)

-- an event leaves the phys as many as they were, and the record of j as it was, unless it is to j or j receives an Open
pub record OnlyThere (limit : ℕ) (p : Port) (number : ℕ) (e : Event) : Type 0 where
  pub count : length (port_step_of limit p number e).next.bays ≡ length p.bays
  pub others :
      (j : ℕ) → (j ≡ number → ⊥) → requests_to j (port_step_of limit p number e).hand_outs ≡ []
      → bay_at (port_step_of limit p number e).next.bays j ≡ bay_at p.bays j

abbrev pub OthersEqual : Type 0
OthersEqual = (limit : ℕ) (p : Port) (number : ℕ) (e : Event) → OnlyThere limit p number e

-- an event to a phy changes no record but that phy's: no other receives an Open then
abbrev pub OnlyItsPhy : Type 0
OnlyItsPhy =
    (limit : ℕ) (p : Port) (number : ℕ) (e : Event) → (number ≡ the_port → ⊥)
    → (j : ℕ) → (j ≡ number → ⊥) → bay_at (port_step_of limit p number e).next.bays j ≡ bay_at p.bays j

-- an event to the port itself changes no record but that of the phy that receives the Open
abbrev pub OnlyReceiver : Type 0
OnlyReceiver =
    (limit : ℕ) (p : Port) (e : Event) (j : ℕ) → requests_to j (port_step_of limit p the_port e).hand_outs ≡ []
    → bay_at (port_step_of limit p the_port e).next.bays j ≡ bay_at p.bays j

-- ---- time stamps (proofs/Stamps)

-- a stamp is that phy's base, also where the phy then receives an Open, and no other phy moves
pub record StampsIt (limit : ℕ) (p : Port) (number : ℕ) (e : Event) : Type 0 where
  pub base : (bay_at (port_step_of limit p number e).next.bays number).base ≡ e.first
  pub set : (bay_at (port_step_of limit p number e).next.bays number).baseSet ≡ on
  pub others :
      (j : ℕ) → (j ≡ number → ⊥) → bay_at (port_step_of limit p number e).next.bays j ≡ bay_at p.bays j

abbrev pub StampsMoveOne : Type 0
StampsMoveOne =
    (limit : ℕ) (p : Port) (number : ℕ) (e : Event) → AtPhy limit p number e → bay.is_stamp e ≡ true
    → StampsIt limit p number e

-- ---- after every list of shelf events (proofs/NoneBeside, proofs/Rules)

-- no Open waits beside a free phy
abbrev pub NoneBeside : Type 0
NoneBeside =
    (limit n : ℕ) (es : List ShelfEvent)
    → ((after limit (fresh_port n) es).queue ≡ []) ⊎ (free_phys (after limit (fresh_port n) es).bays ≡ 0)

-- so beside a phy in P1 with L0 none does
abbrev pub IdleNoneWaits : Type 0
IdleNoneWaits =
    (limit n : ℕ) (es : List ShelfEvent) (j : ℕ) → j < n → Idle (phy_at (after limit (fresh_port n) es) j)
    → (after limit (fresh_port n) es).queue ≡ []

-- a fresh port of no phy, or of more than the limit, refuses every event with 1, and so stays as it is
pub record Refuses (limit n : ℕ) : Type 0 where
  pub each : (number : ℕ) (e : Event) → port_step_of limit (fresh_port n) number e ≡ refused (fresh_port n) bad_state
  pub stays : (es : List ShelfEvent) → after limit (fresh_port n) es ≡ fresh_port n

abbrev pub NoPort : Type 0
NoPort = (limit n : ℕ) → (n ≡ 0) ⊎ (limit < n) → Refuses limit n
