-- What holds of every gap of a phy, however long. A heading names the file of proofs/.
use Rattle.std.specs.Prelude.{ℕ, zero, suc, ◌+◌, ◌-◌, ◌≤◌, true, ◌&&◌, List, [], ◌∷◌, ◌++◌, map, ◌≡◌, eqb, leb, length}
use Rattle.table.specs.Choice.{pick}
use Rattle.table.specs.Flags.{is_on}
use Rattle.event.specs.Names.{tick, most_counter}
use Rattle.event.specs.Table.{stamp_of}
use Rattle.phy.specs.Shapes.{quiet}
use Rattle.phy.specs.State as phy
use Rattle.phy.specs.Step as phyStep
use Rattle.phy.specs.declared.Phy.{Phy}
use Rattle.phy.specs.declared.Stepped.{Stepped}
use Rattle.ledger.specs.Log.{after}
use Rattle.ledger.specs.Demand.{plain}
use Rattle.bay.specs.State.{valid_of}
use Rattle.bay.specs.Gap.{ticks, report, code_at, gap_of}
use Rattle.bay.specs.Step.{passed, last_notice, counter_moved, ticks_to, step_of}
use Rattle.bay.specs.declared.Bay.{Bay}
use Rattle.bay.specs.declared.Report.{Report}

-- ---- a gap is its single ticks (proofs/Ticks)

-- the step of a gap's tick, counted from 1
abbrev pub tick_at : Phy → (at : ℕ) → Stepped
tick_at p at = phyStep.step_of (after phyStep.step_of p (ticks (at - 1))) (plain tick)

-- the reports of a list that came at a tick
abbrev pub of_tick : (at : ℕ) → List Report → List Report
of_tick at [] = []
of_tick at (r ∷ rs) = pick (eqb r.tick at) (r ∷ of_tick at rs) (of_tick at rs)

-- at each of the ticks 1 to n a list has the code of that tick's own step, and at no other any
abbrev pub HasOf : (Stepped → ℕ) → Phy → (n : ℕ) → List Report → Type 0
HasOf code p n rs = (at : ℕ) → of_tick at rs ≡ pick (leb 1 at && leb at n) (code_at (code (tick_at p at)) at) []

-- answers, notices and primitives are those of the single ticks, each with its tick
pub record Single (p : Phy) (n : ℕ) : Type 0 where
  pub answers : HasOf (λ r. r.answer) p n (gap_of p n).answers
  pub notices : HasOf (λ r. r.notice) p n (gap_of p n).notices
  pub sents : HasOf (λ r. r.sent) p n (gap_of p n).sents

abbrev pub SingleTicks : Type 0
SingleTicks = (p : Phy) (n : ℕ) → Single p n

-- ---- how much comes in a gap (proofs/AtMost)

-- how often the link changes its state in n ticks
abbrev pub link_changes : Phy → (n : ℕ) → ℕ
link_changes p zero = 0
link_changes p (suc n) =
    pick (eqb p.link (phyStep.step_of p (plain tick)).next.link) 0 1
    + link_changes (phyStep.step_of p (plain tick)).next n

-- at most one answer, with its Open, two notices and one primitive, and the link changes its state at most twice
pub record Few (p : Phy) (n : ℕ) : Type 0 where
  pub one_answer : length (gap_of p n).answers ≤ 1
  pub its_open : length (gap_of p n).opens ≡ length (gap_of p n).answers
  pub two_notices : length (gap_of p n).notices ≤ 2
  pub one_sent : length (gap_of p n).sents ≤ 1
  pub two_changes : link_changes p n ≤ 2

abbrev pub AtMost : Type 0
AtMost = (p : Phy) (n : ℕ) → phy.valid_of p ≡ true → Few p n

-- ---- the last of a gap (proofs/Last)

-- the last code of a list of reports; 0 where there is none
abbrev pub last_code : List Report → ℕ
last_code [] = 0
last_code (r ∷ []) = r.code
last_code (r ∷ s ∷ rs) = last_code (s ∷ rs)

-- what a listing has of a gap is its last notice and its last primitive
pub record ListsLast (p : Phy) (n counter : ℕ) : Type 0 where
  pub notice :
      last_notice (passed (gap_of p n) counter).notice (passed (gap_of p n) counter).secondNotice
      ≡ last_code (gap_of p n).notices
  pub sent : (passed (gap_of p n) counter).sent.code ≡ last_code (gap_of p n).sents

abbrev pub LastAreLast : Type 0
LastAreLast = (p : Phy) (n counter : ℕ) → phy.valid_of p ≡ true → ListsLast p n counter

-- ---- rest (proofs/Rest)

-- the ticks after which a phy rests
abbrev pub rest_by : ℕ
rest_by = 2000

-- a tick changes nothing and reports nothing any more, and a longer gap is the same
pub record Rested (p : Phy) (n : ℕ) : Type 0 where
  pub still : phyStep.step_of (gap_of p n).phy (plain tick) ≡ quiet (gap_of p n).phy
  pub same : gap_of p n ≡ gap_of p rest_by

-- so it is from 2,000 ticks on
abbrev pub Rests : Type 0
Rests = (p : Phy) (n : ℕ) → phy.valid_of p ≡ true → rest_by ≤ n → Rested p n

-- ---- one gap after another (proofs/Ticks)

-- a report that comes n ticks later
abbrev pub delayed : (n : ℕ) → Report → Report
delayed n r = report r.code (n + r.tick)

-- a gap of m and then one of n is a gap of m + n
pub record Added (p : Phy) (m n : ℕ) : Type 0 where
  pub phy : (gap_of p (m + n)).phy ≡ (gap_of (gap_of p m).phy n).phy
  pub answers :
      (gap_of p (m + n)).answers ≡ (gap_of p m).answers ++ map (delayed m) (gap_of (gap_of p m).phy n).answers
  pub opens : (gap_of p (m + n)).opens ≡ (gap_of p m).opens ++ (gap_of (gap_of p m).phy n).opens
  pub notices :
      (gap_of p (m + n)).notices ≡ (gap_of p m).notices ++ map (delayed m) (gap_of (gap_of p m).phy n).notices
  pub sents : (gap_of p (m + n)).sents ≡ (gap_of p m).sents ++ map (delayed m) (gap_of (gap_of p m).phy n).sents

abbrev pub GapsAdd : Type 0
GapsAdd = (p : Phy) (m n : ℕ) → Added p m n

-- a stamp in between changes nothing of where a later one leads, if both lie within one round of the counter
abbrev pub StampBetween : Type 0
StampBetween =
    (b : Bay) (counter last : ℕ) → valid_of b ≡ true → is_on b.baseSet ≡ true → counter ≤ most_counter
    → last ≤ most_counter → ticks_to b counter + counter_moved counter last ≤ most_counter
    → (step_of (step_of b (stamp_of counter)).next (stamp_of last)).next ≡ (step_of b (stamp_of last)).next
