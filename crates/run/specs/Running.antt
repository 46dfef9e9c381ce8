-- A run: the events that a trace gives under a budget, and what a phy makes of them, time stamps among them.
use Rattle.std.specs.Prelude.{ℕ, zero, suc, List, [], ◌∷◌, eqb, leb, length}
use Rattle.std.proofs.lemmas.List.Edits.{sets}
use Rattle.table.specs.Choice.{pick}
use Rattle.table.specs.Refusals.{bad_state, no_room, number_of}
use Rattle.event.specs.declared.Event.{Event}
use Rattle.trace.specs.Reading as reading
use Rattle.trace.specs.Reading.{read_event}
use Rattle.phy.specs.State.{valid_of}
use Rattle.phy.specs.declared.Phy.{Phy}
use Rattle.bay.specs.State.{unstamped}
use Rattle.bay.specs.Log.{Entry, log, after}
use Rattle.bay.specs.declared.Bay.{Bay}
use Rattle.bay.specs.declared.Stepped.{Stepped}
use Rattle.run.specs.declared.Ran.{Ran}
use Rattle.run.specs.declared.Stop.{Stop}
use Rattle.run.specs.declared.Stop.TheVariants.{End, Budget, Fault, Refused}

-- how a run stops: at the trace's end, at the budget, at a fault with its number and place, or refused at the start
pub data Halt : Type 0 where
  at_end : Halt
  at_budget : Halt
  at_fault : ℕ → ℕ → Halt
  refused : ℕ → Halt

-- the events taken, in order, and how taking them stopped
pub record Course : Type 0 where
  pub events : List Event
  pub halt : Halt

-- nothing more is taken
abbrev pub stops : Halt → Course
stops halt = record { events = []; halt = halt }

-- one event, and then the rest
abbrev pub first : Event → Course → Course
first e c = record { events = e ∷ c.events; halt = c.halt }

-- what is read at a place with budget left: an event is taken and the rest follows it
abbrev pub onwards : reading.Told → (ℕ → Course) → Course
onwards (reading.event e next) rest = first e (rest next)
onwards reading.end rest = stops at_end
onwards (reading.refused n at) rest = stops (at_fault n at)

-- the events from a place on under a budget; the end is looked for first, then the budget, then a fault
unfoldable pub taking : (budget : ℕ) → List ℕ → ℕ → Course
taking zero s place = stops (pick (leb (length s) place) at_end at_budget)
taking (suc budget) s place = onwards (read_event s place) (taking budget s)

-- a byte: the refusal, or else the answer, or else 0
unfoldable pub byte_for : (refusal answer : ℕ) → ℕ
byte_for refusal answer = pick (eqb refusal 0) answer refusal

-- that of a step
abbrev pub byte_of : Stepped → ℕ
byte_of r = byte_for r.refusal r.answer.code

-- one byte for each entry of a log
abbrev pub bytes_in : List Entry → List ℕ
bytes_in [] = []
bytes_in (x ∷ xs) = byte_of x.result ∷ bytes_in xs

-- one byte for each event of a list
abbrev pub bytes_of : Bay → List Event → List ℕ
bytes_of b es = bytes_in (log b es)

-- what a run tells: the number of events taken, the state after them, and how it stopped
pub record Told : Type 0 where
  pub count : ℕ
  pub state : Bay
  pub halt : Halt

-- these three
abbrev pub told : (count : ℕ) → (state : Bay) → Halt → Told
told count state halt = record { count = count; state = state; halt = halt }

-- a valid bay takes every event of a course
abbrev pub told_of : Bay → Course → Told
told_of b c = told (length c.events) (after b c.events) c.halt

-- a run of any phy, from a base that is not set: refused with 1, then with 10 where the buffer is shorter than the
-- budget, it takes nothing
abbrev pub run_of : Phy → List ℕ → (budget : ℕ) → (buffer : List ℕ) → Told
run_of p s budget buffer =
    pick (valid_of p)
    (pick (leb budget (length buffer)) (told_of (unstamped p) (taking budget s 0))
    (told 0 (unstamped p) (refused no_room)))
    (told 0 (unstamped p) (refused bad_state))

-- the buffer afterwards: the bytes of the events taken, then what stood there; refused, nothing is written
abbrev pub buffer_after : Phy → List ℕ → (budget : ℕ) → (buffer : List ℕ) → List ℕ
buffer_after p s budget buffer =
    pick (valid_of p)
    (pick (leb budget (length buffer)) (sets buffer 0 (bytes_of (unstamped p) (taking budget s 0).events)) buffer)
    buffer

-- what each way to stop says, as the paper numbers it
abbrev pub tells_stop : Stop → Halt
tells_stop End = at_end
tells_stop Budget = at_budget
tells_stop (Fault fault) = at_fault (number_of fault.refusal) fault.place
tells_stop (Refused refusal) = refused (number_of refusal)

-- what a result of the code says
abbrev pub tells : Ran → Told
tells r = told r.count r.next (tells_stop r.stop)
