-- Demand 3 with time stamps: a list of events, and the same with single ticks in place of its stamps. The statements
-- are proved in proofs/Spelled.
use Rattle.std.specs.Prelude.{ℕ, ◌+◌, ◌≤◌, ◌&&◌, List, [], ◌∷◌, ◌++◌, ◌≡◌, eqb, length}
use Rattle.table.specs.Choice.{pick}
use Rattle.event.specs.Names.{tx_open}
use Rattle.event.specs.Table.{open_of}
use Rattle.event.specs.declared.Event.{Event}
use Rattle.event.specs.declared.Open.{Open}
use Rattle.phy.specs.Step as phy
use Rattle.ledger.specs.Log as ledger
use Rattle.ledger.specs.Log.{many, ticked, heard_aip}
use Rattle.ledger.specs.Ledger.{due}
use Rattle.ledger.specs.Demand.{log_of, phy_after, one_if_waiting, Lawful, AnsweredWithin}
use Rattle.bay.specs.State.{fresh_bay}
use Rattle.bay.specs.Gap.{ticks}
use Rattle.bay.specs.Step.{ticks_to, is_stamp, step_of}
use Rattle.bay.specs.Log.{Entry, log, after}
use Rattle.bay.specs.declared.Bay.{Bay}

-- ---- spelled out

-- what an event is to the phy alone: a stamp as many ticks as it stands for, every other event itself
abbrev pub in_ticks : Bay → Event → List Event
in_ticks b e = pick (is_stamp e) (ticks (ticks_to b e.first)) (e ∷ [])

-- a list of events with single ticks in place of stamps
abbrev pub spelled_out : Bay → List Event → List Event
spelled_out b [] = []
spelled_out b (e ∷ es) = in_ticks b e ++ spelled_out (step_of b e).next es

-- ---- acceptances and answers, in order

-- an answer with its Open
pub record Answer : Type 0 where
  pub code : ℕ
  pub request : Open

-- the Open of an event that was not refused, where it is a Tx Open
abbrev pub open_if : Event → (refusal : ℕ) → List Open
open_if e refusal = pick (eqb e.code tx_open && eqb refusal 0) (open_of e ∷ []) []

-- an answer, where there is one
abbrev pub answer_if : (code : ℕ) → Open → List Answer
answer_if code o = pick (eqb code 0) [] (record { code = code; request = o } ∷ [])

-- what the entries of a log give, in order
abbrev pub gathered : {X A : Type 0} → (X → List A) → List X → List A
gathered given [] = []
gathered given (x ∷ xs) = given x ++ gathered given xs

-- the acceptances and the answers of a phy's log
abbrev pub opens_of : List ledger.Entry → List Open
opens_of xs = gathered (λ x. open_if x.event x.result.refusal) xs

abbrev pub answers_of : List ledger.Entry → List Answer
answers_of xs = gathered (λ x. answer_if x.result.answer x.result.answered) xs

-- and of a bay's
abbrev pub bay_opens : List Entry → List Open
bay_opens xs = gathered (λ x. open_if x.event x.result.refusal) xs

abbrev pub bay_answers : List Entry → List Answer
bay_answers xs = gathered (λ x. answer_if x.result.answer.code x.result.answered) xs

-- ---- demand 3

-- any events, stamps among them, from a fresh bay, and the same spelled out from a fresh phy
pub record Alike (es : List Event) : Type 0 where
  -- the same phy, the same acceptances and the same answers with their arguments, in order
  pub phy : (after fresh_bay es).phy ≡ phy_after (spelled_out fresh_bay es)
  pub accepted : bay_opens (log fresh_bay es) ≡ opens_of (log_of (spelled_out fresh_bay es))
  pub answers : bay_answers (log fresh_bay es) ≡ answers_of (log_of (spelled_out fresh_bay es))
  -- of which demand 3 holds as it stands
  pub lawful : Lawful (spelled_out fresh_bay es)
  -- so accepted Opens equal answers plus the one, if any, still waiting
  pub balance :
      length (bay_opens (log fresh_bay es))
      ≡ length (bay_answers (log fresh_bay es)) + one_if_waiting (after fresh_bay es).phy

abbrev pub SpelledOut : Type 0
SpelledOut = (es : List Event) → Alike es

-- from a bay, events in which comes the first answer to o: it is that of the spelled-out list
pub record AnsweredInTime (b : Bay) (o : Open) (fs : List Event) : Type 0 where
  pub spelled : AnsweredWithin b.phy o (spelled_out b fs)
  pub others : List Answer
  pub first :
      bay_answers (log b fs)
      ≡ record {
        code = (phy.step_of (ledger.after phy.step_of b.phy spelled.before) spelled.last).answer;
        request = (phy.step_of (ledger.after phy.step_of b.phy spelled.before) spelled.last).answered;
      }
      ∷ others

-- once as many ticks have come since an acceptance as are due for the AIPs heard since, those of stamps among them, the
-- answer has been given
abbrev pub AnsweredByStamps : Type 0
AnsweredByStamps =
    (es : List Event) (e : Event) (fs : List Event)
    → (e.code ≡ tx_open) × ((step_of (after fresh_bay es) e).refusal ≡ 0)
    → due (many heard_aip (ledger.log phy.step_of (step_of (after fresh_bay es) e).next.phy
    (spelled_out (step_of (after fresh_bay es) e).next fs)))
    ≤ many ticked (ledger.log phy.step_of (step_of (after fresh_bay es) e).next.phy
    (spelled_out (step_of (after fresh_bay es) e).next fs))
    → AnsweredInTime (step_of (after fresh_bay es) e).next (open_of e) fs
