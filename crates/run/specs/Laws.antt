-- What is promised of a run beyond its contract. A heading names the files of proofs/.
use Rattle.std.specs.Prelude.{ℕ, ◌+◌, ◌≤◌, ◌<◌, true, false, List, [], ◌∷◌, ◌++◌, map, ◌↔◌, ◌≡◌, length, take, drop}
use Rattle.table.specs.Choice.{pick}
use Rattle.table.specs.Refusals.{bad_state, bad_event, no_room}
use Rattle.table.specs.Results.{TellsOnce, Determines, DeterminesLent}
use Rattle.event.specs.declared.Event.{Event}
use Rattle.trace.specs.Reading as reading
use Rattle.trace.specs.Reading.{read_event}
use Rattle.trace.specs.Writing as writing
use Rattle.trace.specs.Writing.{write_event}
use Rattle.trace.specs.Laws.{Passes, ReadsAll, SameNumbers}
use Rattle.phy.specs.Shapes.{fresh_phy}
use Rattle.phy.specs.State.{valid_of}
use Rattle.phy.specs.declared.Phy.{Phy}
use Rattle.phy_laws.specs.Waiting.{is_answer}
use Rattle.ledger.specs.Demand.{one_if_waiting}
use Rattle.bay.specs.State as bay
use Rattle.bay.specs.State.{unstamped, fresh_bay}
use Rattle.bay.specs.Step.{step_of}
use Rattle.bay.specs.Log.{log}
use Rattle.bay.specs.declared.Bay.{Bay}
use Rattle.bay_laws.specs.Spelled.{Answer, bay_opens, bay_answers, Alike}
use Rattle.run.specs.Running.{Halt, at_end, at_budget, at_fault, refused, Course, taking, bytes_of, run_of}
use Rattle.run.specs.Running.{buffer_after, tells_stop, tells}
use Rattle.run.specs.Promises.{GivesByte, Runs}

-- ---- results are determined (proofs/Determined)

-- each way to stop and each result of `run` say one thing; two that a function may give coincide, as do the buffers
-- that it may leave
pub record Determined : Type 0 where
  pub stop_once : TellsOnce tells_stop
  pub ran_once : TellsOnce tells
  pub byte_for : (refusal answer : ℕ) → Determines (GivesByte refusal answer)
  pub run : (p : Phy) (s : List ℕ) (budget : ℕ) (before : List ℕ) → DeterminesLent (Runs p s budget before)

-- ---- each refusal exactly when (proofs/Refusals)

-- 1: the phy is not valid
abbrev pub BadStateExactly : Type 0
BadStateExactly =
    (p : Phy) (s : List ℕ) (budget : ℕ) (buffer : List ℕ)
    → (run_of p s budget buffer).halt ≡ refused bad_state ↔ (valid_of p ≡ false)

-- 10: the phy is valid, and the buffer is shorter than the budget
abbrev pub NoRoomExactly : Type 0
NoRoomExactly =
    (p : Phy) (s : List ℕ) (budget : ℕ) (buffer : List ℕ)
    → (run_of p s budget buffer).halt ≡ refused no_room ↔ ((valid_of p ≡ true) × (length buffer < budget))

-- 2, of an event: a valid bay refuses with 2 what the trace's writer refuses with 2, and so no event that was read
abbrev pub AsTheWriter : Type 0
AsTheWriter =
    (b : Bay) (e : Event) (buffer : List ℕ) (place : ℕ) → bay.valid_of b ≡ true
    → (step_of b e).refusal ≡ bad_event ↔ (write_event e buffer place ≡ writing.refused bad_event)

-- refused, nothing is taken, the phy is as given, its base not set, and the buffer as it was
pub record Untouched (p : Phy) (s : List ℕ) (budget : ℕ) (buffer : List ℕ) : Type 0 where
  pub none_taken : (run_of p s budget buffer).count ≡ 0
  pub same_state : (run_of p s budget buffer).state ≡ unstamped p
  pub same_bytes : buffer_after p s budget buffer ≡ buffer

abbrev pub RefusedKeeps : Type 0
RefusedKeeps =
    (p : Phy) (s : List ℕ) (budget : ℕ) (buffer : List ℕ) (n : ℕ) → (run_of p s budget buffer).halt ≡ refused n
    → Untouched p s budget buffer

-- ---- which events are taken, and how taking them stops (proofs/Stopping)

-- why a course stops at `last` after `count` events: the trace has ended; else the budget is spent; else a fault
pub data Why (s : List ℕ) (budget count last : ℕ) : Halt → Type 0 where
  ended : length s ≤ last → Why s budget count last at_end
  spent : last < length s → count ≡ budget → Why s budget count last at_budget
  faulty :
      {n : ℕ} → last < length s → count < budget → read_event s last ≡ reading.refused n last
      → Why s budget count last (at_fault n last)

-- the events taken lead from a place to `last`, are no more than the budget, and stop there for a reason
pub record StopsWell (s : List ℕ) (budget place : ℕ) (c : Course) : Type 0 where
  pub last : ℕ
  pub passes : Passes s place c.events last
  pub few : length c.events ≤ budget
  pub why : Why s budget (length c.events) last c.halt

abbrev pub StopsWellAlways : Type 0
StopsWellAlways = (s : List ℕ) (budget : ℕ) → StopsWell s budget 0 (taking budget s 0)

-- a trace without fault is taken whole, if the budget lets it
abbrev pub TakesAll : Type 0
TakesAll =
    (s : List ℕ) (budget : ℕ) (es : List Event) → ReadsAll s 0 es → length es ≤ budget
    → taking budget s 0 ≡ record { events = es; halt = at_end }

-- ---- the buffer (proofs/Written)

-- only the bytes of the events taken differ from the buffer lent, and they are no more than the budget
pub record OnlyTaken (p : Phy) (s : List ℕ) (budget : ℕ) (buffer : List ℕ) : Type 0 where
  pub few : (run_of p s budget buffer).count ≤ budget
  pub long : length (buffer_after p s budget buffer) ≡ length buffer
  pub kept :
      drop (run_of p s budget buffer).count (buffer_after p s budget buffer)
      ≡ drop (run_of p s budget buffer).count buffer

abbrev pub WritesOnlyTaken : Type 0
WritesOnlyTaken = (p : Phy) (s : List ℕ) (budget : ℕ) (buffer : List ℕ) → OnlyTaken p s budget buffer

-- not refused, the first bytes are those of the events taken
abbrev pub WritesTaken : Type 0
WritesTaken =
    (p : Phy) (s : List ℕ) (budget : ℕ) (buffer : List ℕ) → valid_of p ≡ true → budget ≤ length buffer
    → take (run_of p s budget buffer).count (buffer_after p s budget buffer)
    ≡ bytes_of (unstamped p) (taking budget s 0).events

-- a longer buffer changes nothing but its own later bytes, which are kept
pub record SameLonger (p : Phy) (s : List ℕ) (budget : ℕ) (buffer more : List ℕ) : Type 0 where
  pub says : run_of p s budget (buffer ++ more) ≡ run_of p s budget buffer
  pub bytes : buffer_after p s budget (buffer ++ more) ≡ buffer_after p s budget buffer ++ more

abbrev pub LongerBuffer : Type 0
LongerBuffer =
    (p : Phy) (s : List ℕ) (budget : ℕ) (buffer more : List ℕ) → budget ≤ length buffer
    → SameLonger p s budget buffer more

-- each byte of a list is neither 1 nor 2
abbrev pub NeitherOneNorTwo : List ℕ → Type 0
NeitherOneNorTwo [] = Unit
NeitherOneNorTwo (b ∷ bs) = ((b ≡ bad_state → ⊥) × (b ≡ bad_event → ⊥)) × NeitherOneNorTwo bs

-- no byte written is 1 or 2: the phy stays valid, and an event read is known
abbrev pub NoOneNorTwo : Type 0
NoOneNorTwo =
    (p : Phy) (s : List ℕ) (budget : ℕ) → valid_of p ≡ true
    → NeitherOneNorTwo (bytes_of (unstamped p) (taking budget s 0).events)

-- ---- padded numbers (proofs/Padded)

-- two ways to stop are the same but for the place of a fault
pub data StopAlike : Halt → Halt → Type 0 where
  same : {halt : Halt} → StopAlike halt halt
  elsewhere : {n place at : ℕ} → StopAlike (at_fault n place) (at_fault n at)

-- runs over two traces give the same, the place of a fault aside
pub record RunsAlike (p : Phy) (s t : List ℕ) (budget : ℕ) (buffer : List ℕ) : Type 0 where
  pub count : (run_of p s budget buffer).count ≡ (run_of p t budget buffer).count
  pub state : (run_of p s budget buffer).state ≡ (run_of p t budget buffer).state
  pub halt : StopAlike (run_of p s budget buffer).halt (run_of p t budget buffer).halt
  pub bytes : buffer_after p s budget buffer ≡ buffer_after p t budget buffer

-- so it is with traces of the same numbers, padded or not
abbrev pub PaddedRun : Type 0
PaddedRun =
    (p : Phy) (s t : List ℕ) (budget : ℕ) (buffer : List ℕ) → SameNumbers s t 0 0 → RunsAlike p s t budget buffer

-- ---- the answers among the bytes (proofs/Answers)

-- the bytes that are answers, in order
abbrev pub answers_in : List ℕ → List ℕ
answers_in [] = []
answers_in (b ∷ bs) = pick (is_answer b) (b ∷ answers_in bs) (answers_in bs)

-- the codes of answers
abbrev pub codes_of : List Answer → List ℕ
codes_of answers = map (λ a. a.code) answers

-- the bytes that are answers are the answers of the log of the same events
abbrev pub AnswersInOrder : Type 0
AnswersInOrder = (b : Bay) (es : List Event) → answers_in (bytes_of b es) ≡ codes_of (bay_answers (log b es))

-- demand 3 of what a run of a fresh phy writes, a stamp's ticks counted as ticks: accepted Opens equal the answers
-- among the bytes plus the one, if any, still waiting
pub record LawfulRun (s : List ℕ) (budget : ℕ) (buffer : List ℕ) : Type 0 where
  pub lawful : Alike (taking budget s 0).events
  pub answers :
      answers_in (take (run_of fresh_phy s budget buffer).count (buffer_after fresh_phy s budget buffer))
      ≡ codes_of (bay_answers (log fresh_bay (taking budget s 0).events))
  pub balance :
      length (bay_opens (log fresh_bay (taking budget s 0).events))
      ≡ length (answers_in (take (run_of fresh_phy s budget buffer).count (buffer_after fresh_phy s budget buffer)))
      + one_if_waiting (run_of fresh_phy s budget buffer).state.phy

abbrev pub RunsLawful : Type 0
RunsLawful = (s : List ℕ) (budget : ℕ) (buffer : List ℕ) → budget ≤ length buffer → LawfulRun s budget buffer
