-- What holds of every step of a bay. A heading names the file of proofs/.
use Rattle.std.specs.Prelude.{ℕ, ◌+◌, ◌%◌, ◌^◌, ◌≤◌, ◌<◌, true, false, ◌↔◌, ◌⊎◌, ◌≡◌}
use Rattle.table.specs.Flags.{on, is_on}
use Rattle.table.specs.Refusals.{bad_state, bad_event, busy, nothing_pending, not_connected, wrong_protocol}
use Rattle.event.specs.Names.{SMP, tx_open, cancel_open, close_connection, smp_transmit_break, most_counter}
use Rattle.event.specs.Table.{known_in_trace, stamp_of}
use Rattle.event.specs.declared.Event.{Event}
use Rattle.phy.specs.Names.{L3, P1, P2}
use Rattle.phy.specs.Shapes.{no_open}
use Rattle.phy.specs.Step as phy
use Rattle.phy_laws.specs.Laws.{Free}
use Rattle.bay.specs.State.{valid_of, fresh_bay}
use Rattle.bay.specs.Gap.{gap_of}
use Rattle.bay.specs.Step.{no_report, at_once, passed, refused, is_stamp, step_of, move_of}
use Rattle.bay.specs.declared.Bay.{Bay}
use Rattle.bay.specs.declared.Stepped.{Stepped}

-- ---- validity (proofs/Steps)

-- a fresh bay is valid
abbrev pub FreshValid : Type 0
FreshValid = valid_of fresh_bay ≡ true

-- a valid bay stays valid, whatever the event
abbrev pub StaysValid : Type 0
StaysValid = (b : Bay) (e : Event) → valid_of b ≡ true → valid_of (step_of b e).next ≡ true

-- ---- the base (proofs/Steps)

-- every event but a time stamp does what it does to the phy, and keeps the base: ticks and resets too
abbrev pub OthersArePhys : Type 0
OthersArePhys =
    (b : Bay) (e : Event) → valid_of b ≡ true → is_stamp e ≡ false → step_of b e ≡ at_once b (phy.step_of b.phy e)

-- a stamp becomes the base
pub record Based (b : Bay) (e : Event) : Type 0 where
  pub base : (step_of b e).next.base ≡ e.first
  pub set : (step_of b e).next.baseSet ≡ on

abbrev pub StampsAreBase : Type 0
StampsAreBase = (b : Bay) (e : Event) → valid_of b ≡ true → is_stamp e ≡ true → Based b e

-- a base is set, and nothing else is done
abbrev pub only_based : Bay → (counter : ℕ) → Stepped
only_based b counter =
    record {
      next = record { phy = b.phy; base = counter; baseSet = on };
      answered = no_open;
      answer = no_report;
      notice = no_report;
      secondNotice = no_report;
      sent = no_report;
      refusal = 0;
    }

-- the first stamp only sets the base
abbrev pub FirstOnlySets : Type 0
FirstOnlySets =
    (b : Bay) (e : Event) → valid_of b ≡ true → is_stamp e ≡ true → is_on b.baseSet ≡ false
    → step_of b e ≡ only_based b e.first

-- a later one is as many ticks as its counter has moved: n from the base on, round past the end of 32 bits
abbrev pub LaterIsGap : Type 0
LaterIsGap =
    (b : Bay) (n : ℕ) → valid_of b ≡ true → is_on b.baseSet ≡ true → n ≤ most_counter
    → step_of b (stamp_of ((b.base + n) % 2 ^ 32)) ≡ passed (gap_of b.phy n) ((b.base + n) % 2 ^ 32)

-- ---- refused, nothing changes (proofs/Refusals)

-- a refused step gives the bay back, every report zero
abbrev pub RefusedKeeps : Type 0
RefusedKeeps = (b : Bay) (e : Event) → ((step_of b e).refusal ≡ 0 → ⊥) → step_of b e ≡ refused b (step_of b e).refusal

-- ---- each refusal exactly when (proofs/Refusals)

-- a bay and an event that are taken to their table
pub record Judged (b : Bay) (e : Event) : Type 0 where
  pub valid : valid_of b ≡ true
  pub known : known_in_trace e ≡ true

-- such a step is the event's move alone
abbrev pub StepIsMove : Type 0
StepIsMove = (b : Bay) (e : Event) → Judged b e → step_of b e ≡ move_of b e

-- 1: the bay is not valid
abbrev pub BadStateExactly : Type 0
BadStateExactly = (b : Bay) (e : Event) → (step_of b e).refusal ≡ bad_state ↔ (valid_of b ≡ false)

-- 2: it is, and the event may not stand in a trace
abbrev pub BadEventExactly : Type 0
BadEventExactly =
    (b : Bay) (e : Event) → (step_of b e).refusal ≡ bad_event ↔ (valid_of b ≡ true) × (known_in_trace e ≡ false)

-- 3: Tx Open, and the port is not in P1
abbrev pub BusyExactly : Type 0
BusyExactly =
    (b : Bay) (e : Event) → (step_of b e).refusal ≡ busy ↔ Judged b e × (e.code ≡ tx_open) × (b.phy.port ≡ P1 → ⊥)

-- 4: Cancel Open, and the port is not in P2
abbrev pub NothingPendingExactly : Type 0
NothingPendingExactly =
    (b : Bay) (e : Event)
    → (step_of b e).refusal ≡ nothing_pending ↔ Judged b e × (e.code ≡ cancel_open) × (b.phy.port ≡ P2 → ⊥)

-- 5: Close or SMP Break, and the link is not in L3
abbrev pub NotConnectedExactly : Type 0
NotConnectedExactly =
    (b : Bay) (e : Event)
    → (step_of b e).refusal ≡ not_connected
    ↔ Judged b e × ((e.code ≡ close_connection) ⊎ (e.code ≡ smp_transmit_break)) × (b.phy.link ≡ L3 → ⊥)

-- 6: SMP Break in L3, and the connection is not SMP
abbrev pub WrongProtocolExactly : Type 0
WrongProtocolExactly =
    (b : Bay) (e : Event)
    → (step_of b e).refusal ≡ wrong_protocol
    ↔ Judged b e × (e.code ≡ smp_transmit_break) × (b.phy.link ≡ L3) × (b.phy.connectionProtocol ≡ SMP → ⊥)

-- 0: nothing is refused
abbrev pub NotRefusedExactly : Type 0
NotRefusedExactly = (b : Bay) (e : Event) → (step_of b e).refusal ≡ 0 ↔ Judged b e × Free b.phy e

-- ---- bytes (proofs/Bytes)

-- an answer and a refusal are below 256: each is a byte, which a run writes
pub record Bytes (b : Bay) (e : Event) : Type 0 where
  pub answer : (step_of b e).answer.code < 256
  pub refusal : (step_of b e).refusal < 256

abbrev pub AreBytes : Type 0
AreBytes = (b : Bay) (e : Event) → Bytes b e
