-- What holds of every step of a phy. A heading names the file of proofs/.
use Rattle.std.specs.Prelude.{◌≤◌, ◌<◌, true, false, ◌||◌, ◌↔◌, ◌⊎◌, ◌≡◌, eqb}
use Rattle.table.specs.Refusals.{bad_state, bad_event, busy, nothing_pending, not_connected, wrong_protocol}
use Rattle.event.specs.Names.{SMP, tx_open, cancel_open, close_connection, smp_transmit_break, accept_opens}
use Rattle.event.specs.Names.{reject_opens}
use Rattle.event.specs.Names.{hard_reset, phy_disabled, most_wait}
use Rattle.event.specs.Table.{known_of}
use Rattle.event.specs.declared.Event.{Event}
use Rattle.phy.specs.Names.{L3, P1, P2, P3, notice_reset, sent_break, bend, most_part}
use Rattle.phy.specs.Shapes.{no_open, fresh_phy, refused}
use Rattle.phy.specs.State.{valid_of}
use Rattle.phy.specs.Step.{move_of, step_of}
use Rattle.phy.specs.declared.Phy.{Phy}
use Rattle.phy_laws.specs.Waiting.{waits, is_answer}

-- ---- validity (proofs/Steps)

-- a fresh phy is valid
abbrev pub FreshValid : Type 0
FreshValid = valid_of fresh_phy ≡ true

-- a valid phy stays valid, whatever the event
abbrev pub StaysValid : Type 0
StaysValid = (p : Phy) (e : Event) → valid_of p ≡ true → valid_of (step_of p e).next ≡ true

-- ---- the part of a millisecond (proofs/InUse)

-- a valid phy has none but in P2, with a wait from 32,768 to 65,534, and then 999 at most
abbrev pub PartInUse : Type 0
PartInUse =
    (p : Phy) → valid_of p ≡ true
    → (p.part ≡ 0)
    ⊎ ((p.port ≡ P2) × (bend ≤ p.request.wait) × (p.request.wait < most_wait) × (p.part ≤ most_part))

-- ---- refused, nothing changes (proofs/Refusals)

-- a refused step gives the phy back, every report zero
abbrev pub RefusedKeeps : Type 0
RefusedKeeps = (p : Phy) (e : Event) → ((step_of p e).refusal ≡ 0 → ⊥) → step_of p e ≡ refused p (step_of p e).refusal

-- ---- each refusal exactly when (proofs/Refusals)

-- a phy and an event that are judged by the event's table
pub record Judged (p : Phy) (e : Event) : Type 0 where
  pub valid : valid_of p ≡ true
  pub known : known_of e ≡ true

-- there `step` gives what `moved` gives, which judges neither
abbrev pub StepIsMove : Type 0
StepIsMove = (p : Phy) (e : Event) → Judged p e → step_of p e ≡ move_of p e

-- 1: the phy is not valid
abbrev pub BadStateExactly : Type 0
BadStateExactly = (p : Phy) (e : Event) → (step_of p e).refusal ≡ bad_state ↔ (valid_of p ≡ false)

-- 2: it is, and the event is not known
abbrev pub BadEventExactly : Type 0
BadEventExactly = (p : Phy) (e : Event) → (step_of p e).refusal ≡ bad_event ↔ (valid_of p ≡ true) × (known_of e ≡ false)

-- 3: Tx Open, and the port is not in P1
abbrev pub BusyExactly : Type 0
BusyExactly = (p : Phy) (e : Event) → (step_of p e).refusal ≡ busy ↔ Judged p e × (e.code ≡ tx_open) × (p.port ≡ P1 → ⊥)

-- 4: Cancel Open, and the port is not in P2
abbrev pub NothingPendingExactly : Type 0
NothingPendingExactly =
    (p : Phy) (e : Event)
    → (step_of p e).refusal ≡ nothing_pending ↔ Judged p e × (e.code ≡ cancel_open) × (p.port ≡ P2 → ⊥)

-- 5: Close or SMP Break, and the link is not in L3
abbrev pub NotConnectedExactly : Type 0
NotConnectedExactly =
    (p : Phy) (e : Event)
    → (step_of p e).refusal ≡ not_connected
    ↔ Judged p e × ((e.code ≡ close_connection) ⊎ (e.code ≡ smp_transmit_break)) × (p.link ≡ L3 → ⊥)

-- 6: SMP Break in L3, and the connection is not SMP
abbrev pub WrongProtocolExactly : Type 0
WrongProtocolExactly =
    (p : Phy) (e : Event)
    → (step_of p e).refusal ≡ wrong_protocol
    ↔ Judged p e × (e.code ≡ smp_transmit_break) × (p.link ≡ L3) × (p.connectionProtocol ≡ SMP → ⊥)

-- none of 3 to 6 applies
pub record Free (p : Phy) (e : Event) : Type 0 where
  pub opens : e.code ≡ tx_open → p.port ≡ P1
  pub cancels : e.code ≡ cancel_open → p.port ≡ P2
  pub closes : e.code ≡ close_connection → p.link ≡ L3
  pub breaks : e.code ≡ smp_transmit_break → p.link ≡ L3
  pub protocol : e.code ≡ smp_transmit_break → p.connectionProtocol ≡ SMP

-- 0: nothing is refused
abbrev pub NotRefusedExactly : Type 0
NotRefusedExactly = (p : Phy) (e : Event) → (step_of p e).refusal ≡ 0 ↔ Judged p e × Free p e

-- ---- answers (proofs/Answers)

-- an answer comes from P2 or P4, is one of the sixteen codes, and leaves P1 or P3
pub record FromWaiting (p : Phy) (e : Event) : Type 0 where
  pub waited : waits p.port ≡ true
  pub code : is_answer (step_of p e).answer ≡ true
  pub after : ((step_of p e).next.port ≡ P1) ⊎ ((step_of p e).next.port ≡ P3)

abbrev pub AnswersComeFromWaiting : Type 0
AnswersComeFromWaiting = (p : Phy) (e : Event) → ((step_of p e).answer ≡ 0 → ⊥) → FromWaiting p e

-- an answer's arguments are zero exactly where there is none
abbrev pub ArgumentsExactly : Type 0
ArgumentsExactly = (p : Phy) (e : Event) → (step_of p e).answered ≡ no_open ↔ ((step_of p e).answer ≡ 0)

-- ---- flag and reports (proofs/Steps)

-- the accept flag changes by events 5, 6, 14 and 15 alone
abbrev pub FlagKept : Type 0
FlagKept =
    (p : Phy) (e : Event)
    → eqb e.code accept_opens || eqb e.code reject_opens || eqb e.code hard_reset || eqb e.code phy_disabled
    ≡ false
    → (step_of p e).next.settings ≡ p.settings

-- one notice, one primitive and one refusal at most, each of those that the paper lists
pub record ReportsListed (p : Phy) (e : Event) : Type 0 where
  pub notice : (step_of p e).notice ≤ notice_reset
  pub sent : (step_of p e).sent ≤ sent_break
  pub refusal : (step_of p e).refusal ≤ wrong_protocol

abbrev pub ReportsAreListed : Type 0
ReportsAreListed = (p : Phy) (e : Event) → ReportsListed p e

-- ---- bytes (proofs/Bytes)

-- an answer and a refusal are below 256: each is a byte, which a run writes
pub record Bytes (p : Phy) (e : Event) : Type 0 where
  pub answer : (step_of p e).answer < 256
  pub refusal : (step_of p e).refusal < 256

abbrev pub AreBytes : Type 0
AreBytes = (p : Phy) (e : Event) → Bytes p e
