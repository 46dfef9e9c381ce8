-- What is promised of a port beyond the contracts: each determines its result, a port as it is lent is the port of the
-- lists, the mask tells the free phys at any width, and a row that is put one record keeps every other. What holds of
-- every step, and over every list of events, stands in the crate `port_laws`. A heading names the file of proofs/.
use Rattle.std.specs.Prelude.{ℕ, ◌≤◌, ◌<◌, Bool, true, false, ◌&&◌, List, [], ◌∷◌, ◌≢◌, ◌≡◌, length, set, get_or}
use Rattle.std.specs.Int.Count.{ones, count_trailing_zeros}
use Rattle.table.specs.Results.{Determines, DeterminesLent}
use Rattle.table.specs.Refusals.{bad_state}
use Rattle.event.specs.Table.{known_in_trace}
use Rattle.event.specs.declared.Event.{Event}
use Rattle.bay.specs.declared.Bay.{Bay}
use Rattle.queue.specs.Lent.{lent_as, good_lent}
use Rattle.port.specs.Names.{most_phys}
use Rattle.port.specs.Flags.{how_many, lowest, mask_of}
use Rattle.port.specs.State.{Port, valid_of}
use Rattle.port.specs.Step.{HandOut, PortStepped, refused, bay_at, port_step_of}
use Rattle.port.specs.Lent.{port_in, lent_step, numbers_after, tells}
use Rattle.port.specs.Stages.{Course, begun, scanned, standing_of, sound_scan, standing_in, concerned, taken_of}
use Rattle.port.specs.Promises.{MakesReports, Begins, Surveys, Judges, Concerns, Takes, Steps}
use Rattle.port.specs.declared.Scan.{Scan}
use Rattle.port.specs.declared.Standing.{Standing}
use Rattle.bay.specs.declared.Stepped.{Stepped as BayStepped}
use Rattle.port.specs.declared.Stepped.{Stepped}

-- ---- results are determined (proofs/Determined)

-- two results that a function may give coincide, as do the rows and queues that it leaves
pub record Determined : Type 0 where
  pub reports_of : (r : BayStepped) → Determines (MakesReports r)
  pub begun : Determines Begins
  pub survey : (row : List Bay) (from : Scan) → Determines (Surveys row from)
  pub judge : (scan : Scan) (queue : List ℕ) → Determines (Judges scan queue)
  pub concerned : (free number : ℕ) → Determines (Concerns free number)
  pub take :
      (s : Standing) (b : Bay) (before : List ℕ) (number : ℕ) (e : Event) → DeterminesLent (Takes s b before number e)
  pub step :
      (row : List Bay) (queue : List ℕ) (number : ℕ) (e : Event)
      → DeterminesLent (λ (r : Stepped) (left : List Bay × List ℕ). Steps row queue number e r left.0 left.1)

-- ---- the mask of a row of flags (proofs/Mask)

-- its ones are as many as are set
abbrev pub OnesAreMany : Type 0
OnesAreMany = (flags : List Bool) → ones (mask_of flags) ≡ how_many flags

-- where one is set, its trailing zeros, in any width that holds the row, are the number of the lowest
abbrev pub ZerosAreLowest : Type 0
ZerosAreLowest =
    (width : ℕ) (flags : List Bool) → length flags ≤ width → 0 < how_many flags
    → count_trailing_zeros width (mask_of flags) ≡ lowest flags

-- that one is set, and none before it
pub record Least (flags : List Bool) : Type 0 where
  pub there : lowest flags < length flags
  pub set : get_or flags (lowest flags) false ≡ true
  pub none_before : (i : ℕ) → i < lowest flags → get_or flags i false ≡ false

abbrev pub LowestIsLeast : Type 0
LowestIsLeast = (flags : List Bool) → 0 < how_many flags → Least flags

-- ---- one record put (proofs/Put)

-- every other record is as it was, and the row as long
pub record OnlyPut (row : List Bay) (i : ℕ) (b : Bay) : Type 0 where
  pub long : length (set row i b) ≡ length row
  pub here : i < length row → bay_at (set row i b) i ≡ b
  pub others : (j : ℕ) → j ≢ i → bay_at (set row i b) j ≡ bay_at row j

abbrev pub PutsOne : Type 0
PutsOne = (row : List Bay) (i : ℕ) (b : Bay) → OnlyPut row i b

-- ---- the port as it is lent (proofs/InPlace)

-- a valid port, its queue as numbers: its step is the definition's, and the numbers are those of the queue afterwards
pub record AsLists (p : Port) (number : ℕ) (e : Event) : Type 0 where
  pub step : lent_step p.bays (lent_as p.queue) number e ≡ port_step_of most_phys p number e
  pub numbers :
      numbers_after (lent_as p.queue) (port_step_of most_phys p number e)
      ≡ lent_as (port_step_of most_phys p number e).next.queue

abbrev pub LentFollows : Type 0
LentFollows = (p : Port) (number : ℕ) (e : Event) → valid_of most_phys p ≡ true → AsLists p number e

-- numbers that are no queue are a bad state, whatever comes
abbrev pub BadQueueRefused : Type 0
BadQueueRefused =
    (row : List Bay) (numbers : List ℕ) (number : ℕ) (e : Event) → good_lent numbers ≡ false
    → lent_step row numbers number e ≡ refused (port_in row numbers) bad_state

-- ---- what is told (proofs/Tells)

-- the event's reports as they are; of a hand-out its phy and what that sent, and where there is none 127 and 0
pub record TellsAll (r : PortStepped) : Type 0 where
  pub reports : (tells r).reports ≡ r.reports
  pub none : r.hand_outs ≡ [] → ((tells r).handed ≡ 127) × ((tells r).handedSent ≡ 0)
  pub one : (h : HandOut) → r.hand_outs ≡ h ∷ [] → ((tells r).handed ≡ h.phy) × ((tells r).handedSent ≡ h.sent)

abbrev pub TellsHandOuts : Type 0
TellsHandOuts = (r : PortStepped) → TellsAll r

-- ---- the functions for runs (proofs/Surveyed, proofs/Agrees)

-- what a survey and a queue make sound is a valid port, lent as it should be
abbrev pub SoundExactly : Type 0
SoundExactly =
    (row : List Bay) (numbers : List ℕ)
    → sound_scan (scanned begun row) numbers ≡ good_lent numbers && valid_of most_phys (port_in row numbers)

-- and it stands as they say
abbrev pub StandsSo : Type 0
StandsSo =
    (row : List Bay) (numbers : List ℕ) → valid_of most_phys (port_in row numbers) ≡ true
    → standing_in (scanned begun row) numbers ≡ standing_of (port_in row numbers)

-- the record of an event is put, and row, queue, standing and reports are those of the definition's step
pub record Agrees (p : Port) (at : ℕ) (c : Course) (r : PortStepped) : Type 0 where
  pub row : set p.bays at c.taken.bay ≡ r.next.bays
  pub queue : c.queue ≡ lent_as r.next.queue
  pub stands : c.taken.standing ≡ standing_of r.next
  pub says : c.taken.stepped ≡ tells r

-- so it is with `take` of a known event and a valid port, where it stands, and the record that the event concerns
abbrev pub TakesAgree : Type 0
TakesAgree =
    (p : Port) (number : ℕ) (e : Event) → valid_of most_phys p ≡ true → known_in_trace e ≡ true
    → Agrees p (concerned (standing_of p).free number)
    (taken_of (standing_of p) (bay_at p.bays (concerned (standing_of p).free number)) (lent_as p.queue) number e)
    (port_step_of most_phys p number e)
