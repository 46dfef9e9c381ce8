-- What is promised of a run over a shelf trace beyond its contract. A heading names the files of proofs/.
use Rattle.std.specs.Prelude.{ℕ, ◌+◌, ◌≤◌, ◌<◌, true, false, List, [], ◌∷◌, ◌++◌, map, ◌↔◌, ◌≡◌, length, take, drop}
use Rattle.std.specs.Prelude.{replicate}
use Rattle.table.specs.Refusals.{bad_state, bad_event, no_room}
use Rattle.table.specs.Results.{DeterminesLent}
use Rattle.event.specs.Names.{tx_open}
use Rattle.event.specs.declared.ShelfEvent.{ShelfEvent}
use Rattle.trace.specs.Laws.{SameNumbers}
use Rattle.bay.specs.State.{fresh_bay}
use Rattle.bay.specs.declared.Bay.{Bay}
use Rattle.queue.specs.Lent.{lent_as, queue_in}
use Rattle.shelf.specs.Reading.{shelf_refused, read_shelf}
use Rattle.shelf.specs.Laws.{ShelfPasses, ShelfReadsAll}
use Rattle.run.specs.Running.{Halt, at_end, at_budget, at_fault, refused}
use Rattle.run.specs.Laws.{answers_in, codes_of}
use Rattle.replies.specs.Replies.{fault_at}
use Rattle.replies.specs.declared.StopReply.{StopReply}
use Rattle.port.specs.Names.{most_phys, the_port}
use Rattle.port.specs.State.{Port, fresh_port}
use Rattle.port.specs.Log.{Entry, log}
use Rattle.port.specs.Lent.{port_in}
use Rattle.port_laws.specs.InOrder.{accepted_by_port, handed_out}
use Rattle.port_laws.specs.EachPhy.{ByItself}
use Rattle.port_laws.specs.Shelf.{accepted_straight, all_answers, held}
use Rattle.shelf_run.specs.Running.{Course, taking, byte_of, bytes_of, unset, started, sound_lent, taken, ran, ran_of}
use Rattle.shelf_run.specs.Running.{row_after, numbers_after, buffer_after}
use Rattle.shelf_run.specs.Promises.{Runs}
use Rattle.shelf_run.specs.declared.Ran.{Ran}

-- ---- the result is determined (proofs/Determined)

-- two results that `run` may give coincide, as do the rows, the queues and the buffers that it leaves
pub record Determined : Type 0 where
  pub run :
      (row : List Bay) (numbers s : List ℕ) (budget : ℕ) (before : List ℕ)
      → DeterminesLent
      (λ (r : Ran) (left : List Bay × List ℕ × List ℕ).
      Runs row numbers s budget before r left.0 left.1 left.2)

-- ---- each refusal exactly when (proofs/Refusals)

-- 1: the row and the numbers lent make no valid port
abbrev pub BadStateExactly : Type 0
BadStateExactly =
    (row : List Bay) (numbers s : List ℕ) (budget : ℕ) (buffer : List ℕ)
    → (ran_of row numbers s budget buffer).stop.refusal ≡ bad_state ↔ (sound_lent row numbers ≡ false)

-- 10: they make one, and the buffer is shorter than the budget
abbrev pub NoRoomExactly : Type 0
NoRoomExactly =
    (row : List Bay) (numbers s : List ℕ) (budget : ℕ) (buffer : List ℕ)
    → (ran_of row numbers s budget buffer).stop.refusal ≡ no_room
    ↔ ((sound_lent row numbers ≡ true) × (length buffer < budget))

-- 0: they make one, and the buffer has room for the budget
abbrev pub NotRefusedExactly : Type 0
NotRefusedExactly =
    (row : List Bay) (numbers s : List ℕ) (budget : ℕ) (buffer : List ℕ)
    → (ran_of row numbers s budget buffer).stop.refusal ≡ 0
    ↔ ((sound_lent row numbers ≡ true) × (budget ≤ length buffer))

-- refused, nothing is taken and nothing told but the refusal; row, bases, numbers and buffer are as given
pub record Untouched (row : List Bay) (numbers s : List ℕ) (budget : ℕ) (buffer : List ℕ) : Type 0 where
  pub says :
      ran_of row numbers s budget buffer ≡ ran 0 (refused (ran_of row numbers s budget buffer).stop.refusal)
  pub same_row : row_after row numbers s budget buffer ≡ row
  pub same_numbers : numbers_after row numbers s budget buffer ≡ numbers
  pub same_bytes : buffer_after row numbers s budget buffer ≡ buffer

abbrev pub RefusedKeeps : Type 0
RefusedKeeps =
    (row : List Bay) (numbers s : List ℕ) (budget : ℕ) (buffer : List ℕ)
    → ((ran_of row numbers s budget buffer).stop.refusal ≡ 0 → ⊥) → Untouched row numbers s budget buffer

-- ---- which events are taken, and how taking them stops (proofs/Stopping)

-- why a course stops at `last` after `count` events: the trace has ended; else the budget is spent; else a fault
pub data Why (s : List ℕ) (budget count last : ℕ) : Halt → Type 0 where
  ended : length s ≤ last → Why s budget count last at_end
  spent : last < length s → count ≡ budget → Why s budget count last at_budget
  faulty :
      {n : ℕ} → last < length s → count < budget → read_shelf s last ≡ shelf_refused n last
      → Why s budget count last (at_fault n last)

-- the events taken lead from a place to `last`, are no more than the budget, and stop there for a reason
pub record StopsWell (s : List ℕ) (budget place : ℕ) (c : Course) : Type 0 where
  pub last : ℕ
  pub passes : ShelfPasses s place c.events last
  pub few : length c.events ≤ budget
  pub why : Why s budget (length c.events) last c.halt

abbrev pub StopsWellAlways : Type 0
StopsWellAlways = (s : List ℕ) (budget : ℕ) → StopsWell s budget 0 (taking budget s 0)

-- a trace without fault is taken whole, if the budget lets it
abbrev pub TakesAll : Type 0
TakesAll =
    (s : List ℕ) (budget : ℕ) (es : List ShelfEvent) → ShelfReadsAll s 0 es → length es ≤ budget
    → taking budget s 0 ≡ record { events = es; halt = at_end }

-- ---- no event taken (proofs/Bases)

-- why there is none to take: no budget, an empty trace, or a fault at the first event
pub data NoneToTake (s : List ℕ) (budget : ℕ) : Type 0 where
  no_budget : budget ≡ 0 → NoneToTake s budget
  no_trace : length s ≡ 0 → NoneToTake s budget
  first_faulty : {n : ℕ} → read_shelf s 0 ≡ shelf_refused n 0 → NoneToTake s budget

abbrev pub TakesNoneExactly : Type 0
TakesNoneExactly = (s : List ℕ) (budget : ℕ) → length (taken s budget) ≡ 0 ↔ NoneToTake s budget

-- every base of the row is unset, and nothing else has changed
pub record OnlyBases (row : List Bay) (numbers s : List ℕ) (budget : ℕ) (buffer : List ℕ) : Type 0 where
  pub bases : row_after row numbers s budget buffer ≡ map unset row
  pub same_numbers : numbers_after row numbers s budget buffer ≡ numbers
  pub same_bytes : buffer_after row numbers s budget buffer ≡ buffer

-- so it is where a run is not refused and takes no event
abbrev pub UnsetsBases : Type 0
UnsetsBases =
    (row : List Bay) (numbers s : List ℕ) (budget : ℕ) (buffer : List ℕ)
    → (ran_of row numbers s budget buffer).stop.refusal ≡ 0 → (ran_of row numbers s budget buffer).count ≡ 0
    → OnlyBases row numbers s budget buffer

-- ---- the buffer (proofs/Written)

-- only the bytes of the events taken differ from the buffer lent, and they are no more than the budget
pub record OnlyTaken (row : List Bay) (numbers s : List ℕ) (budget : ℕ) (buffer : List ℕ) : Type 0 where
  pub few : (ran_of row numbers s budget buffer).count ≤ budget
  pub long : length (buffer_after row numbers s budget buffer) ≡ length buffer
  pub kept :
      drop (ran_of row numbers s budget buffer).count (buffer_after row numbers s budget buffer)
      ≡ drop (ran_of row numbers s budget buffer).count buffer

abbrev pub WritesOnlyTaken : Type 0
WritesOnlyTaken =
    (row : List Bay) (numbers s : List ℕ) (budget : ℕ) (buffer : List ℕ) → OnlyTaken row numbers s budget buffer

-- not refused, the first bytes are those of the events taken
abbrev pub WritesTaken : Type 0
WritesTaken =
    (row : List Bay) (numbers s : List ℕ) (budget : ℕ) (buffer : List ℕ)
    → sound_lent row numbers ≡ true → budget ≤ length buffer
    → take (ran_of row numbers s budget buffer).count (buffer_after row numbers s budget buffer)
    ≡ bytes_of (started (port_in row numbers)) (taken s budget)

-- a longer buffer changes nothing but its own later bytes, which are kept
pub record SameLonger (row : List Bay) (numbers s : List ℕ) (budget : ℕ) (buffer more : List ℕ) : Type 0 where
  pub says : ran_of row numbers s budget (buffer ++ more) ≡ ran_of row numbers s budget buffer
  pub row_same : row_after row numbers s budget (buffer ++ more) ≡ row_after row numbers s budget buffer
  pub numbers_same : numbers_after row numbers s budget (buffer ++ more) ≡ numbers_after row numbers s budget buffer
  pub bytes : buffer_after row numbers s budget (buffer ++ more) ≡ buffer_after row numbers s budget buffer ++ more

abbrev pub LongerBuffer : Type 0
LongerBuffer =
    (row : List Bay) (numbers s : List ℕ) (budget : ℕ) (buffer more : List ℕ) → budget ≤ length buffer
    → SameLonger row numbers s budget buffer more

-- ---- padded numbers (proofs/Padded)

-- two ways to stop are the same but for the place of a fault
pub data StopAlike : StopReply → StopReply → Type 0 where
  same : {stop : StopReply} → StopAlike stop stop
  elsewhere : {n place at : ℕ} → StopAlike (fault_at n place) (fault_at n at)

-- runs over two traces give the same, the place of a fault aside
pub record RunsAlike (row : List Bay) (numbers s t : List ℕ) (budget : ℕ) (buffer : List ℕ) : Type 0 where
  pub count : (ran_of row numbers s budget buffer).count ≡ (ran_of row numbers t budget buffer).count
  pub stop : StopAlike (ran_of row numbers s budget buffer).stop (ran_of row numbers t budget buffer).stop
  pub row_same : row_after row numbers s budget buffer ≡ row_after row numbers t budget buffer
  pub numbers_same : numbers_after row numbers s budget buffer ≡ numbers_after row numbers t budget buffer
  pub bytes_same : buffer_after row numbers s budget buffer ≡ buffer_after row numbers t budget buffer

-- so it is with traces of the same numbers, padded or not
abbrev pub PaddedRun : Type 0
PaddedRun =
    (row : List Bay) (numbers s t : List ℕ) (budget : ℕ) (buffer : List ℕ) → SameNumbers s t 0 0
    → RunsAlike row numbers s t budget buffer

-- ---- the bytes (proofs/Answers)

-- of each entry: its byte is not 1, and is 2 exactly where an event to the port itself is no Tx Open
abbrev pub NoOneTwoToPort : List Entry → Type 0
NoOneTwoToPort [] = Unit
NoOneTwoToPort (x ∷ xs) =
    (byte_of x.result ≡ bad_state → ⊥)
    × (byte_of x.result ≡ bad_event ↔ ((x.event.number ≡ the_port) × (x.event.event.code ≡ tx_open → ⊥)))
    × NoOneTwoToPort xs

-- so it is with the bytes of a run: the port stays valid, and an event read is known
abbrev pub OnesAndTwos : Type 0
OnesAndTwos =
    (row : List Bay) (numbers s : List ℕ) (budget : ℕ) → sound_lent row numbers ≡ true
    → NoOneTwoToPort (log most_phys (started (port_in row numbers)) (taken s budget))

-- the bytes that are answers are the answers of the log of the same events, whichever phy gave them
abbrev pub AnswersInOrder : Type 0
AnswersInOrder =
    (p : Port) (es : List ShelfEvent) → answers_in (bytes_of p es) ≡ codes_of (all_answers (log most_phys p es))

-- demand 3 of a run on a fresh port of n phys
pub record LawfulRun (n : ℕ) (s : List ℕ) (budget : ℕ) (buffer : List ℕ) : Type 0 where
  -- each phy by itself, its stamps' ticks counted as ticks
  pub lawful : (i : ℕ) → i < n → ByItself most_phys n i (taken s budget)
  -- the answers among the bytes are those of the log
  pub answers :
      answers_in
      (take (ran_of (replicate n fresh_bay) (lent_as []) s budget buffer).count
      (buffer_after (replicate n fresh_bay) (lent_as []) s budget buffer))
      ≡ codes_of (all_answers (log most_phys (fresh_port n) (taken s budget)))
  -- what the port accepted is what was handed out, and then what waits in the numbers left
  pub in_order :
      accepted_by_port (log most_phys (fresh_port n) (taken s budget))
      ≡ handed_out (log most_phys (fresh_port n) (taken s budget))
      ++ queue_in (numbers_after (replicate n fresh_bay) (lent_as []) s budget buffer)
  -- accepted Opens, by the port and straight, equal the answers among the bytes plus the Opens that phys of the row
  -- hold plus those in the numbers left
  pub balance :
      length (accepted_by_port (log most_phys (fresh_port n) (taken s budget)))
      + length (accepted_straight (log most_phys (fresh_port n) (taken s budget)))
      ≡ length
      (answers_in
      (take (ran_of (replicate n fresh_bay) (lent_as []) s budget buffer).count
      (buffer_after (replicate n fresh_bay) (lent_as []) s budget buffer)))
      + held (row_after (replicate n fresh_bay) (lent_as []) s budget buffer)
      + length (queue_in (numbers_after (replicate n fresh_bay) (lent_as []) s budget buffer))

abbrev pub RunsLawful : Type 0
RunsLawful =
    (n : ℕ) (s : List ℕ) (budget : ℕ) (buffer : List ℕ) → 1 ≤ n → n ≤ most_phys → budget ≤ length buffer
    → LawfulRun n s budget buffer
