-- Reading an event of a trace: its code and then its arguments, each a number that is read and then range-checked.
use Rattle.std.specs.Prelude.{ℕ, List, [], ◌∷◌, Option, Some, None, Result, Ok, Err, leb, length}
use Rattle.table.specs.Choice.{pick}
use Rattle.table.specs.Refusals.{bad_event, number_of}
use Rattle.table.specs.declared.Refusal.{Refusal}
use Rattle.number.specs.Reading.{value, read_number}
use Rattle.number.specs.Reading as number
use Rattle.number.specs.declared.Found.{Found}
use Rattle.event.specs.Table.{event_of, arguments_of, within, trace_codes}
use Rattle.event.specs.declared.Event.{Event}
use Rattle.event.specs.declared.Range.{Range}
use Rattle.trace.specs.declared.Fault.{Fault}

-- what reading an event at a place gives, of any kind: one and the place after it, the end, or a fault
abbrev pub ReadOf : Type 0 → Type 0
ReadOf E = Result (Option (Found E)) Fault

-- what reading says: an event and the place after it, the trace's end, or a refusal and where its event starts
pub data Told : Type 0 where
  event : Event → ℕ → Told
  end : Told
  refused : ℕ → ℕ → Told

-- what reading numbers says: what they make and the place after them, or the number of a refusal
pub data Got (A : Type 0) : Type 0 where
  got : A → ℕ → Got A
  fault : ℕ → Got A

-- the first fault is the answer: what follows is read only where there is none
abbrev pub onwards : {A B : Type 0} → Got A → (A → ℕ → Got B) → Got B
onwards (got a next) f = f a next
onwards (fault n) f = fault n

-- what reading one number says, in those words
abbrev pub of_number : number.Told → Got ℕ
of_number (value v next) = got v next
of_number (number.refused n) = fault n

-- a number of a range, at a place
abbrev pub in_range : Range → List ℕ → ℕ → Got ℕ
in_range range s place =
    onwards (of_number (read_number s place)) λ v next. pick (within range v) (got v next) (fault bad_event)

-- numbers end to end from a place on, one of each range
unfoldable pub arguments : List Range → List ℕ → ℕ → Got (List ℕ)
arguments [] s place = got [] place
arguments (range ∷ ranges) s place =
    onwards (in_range range s place) λ v next. onwards (arguments ranges s next) λ vs after. got (v ∷ vs) after

-- the event of a code whose arguments start at a place
abbrev pub after_code : ℕ → List ℕ → ℕ → Got Event
after_code code s place = onwards (arguments (arguments_of code) s place) λ vs next. got (event_of code vs) next

-- the numbers of an event: its code, and its arguments once the code is known
abbrev pub read_numbers : List ℕ → ℕ → Got Event
read_numbers s place = onwards (in_range trace_codes s place) λ code next. after_code code s next

-- a fault is told with the place of the event's first byte
abbrev pub said : (place : ℕ) → Got Event → Told
said place (got e next) = event e next
said place (fault n) = refused n place

-- the event at a place, which may lie anywhere: at the trace's end or past it the trace has ended
unfoldable pub read_event : List ℕ → ℕ → Told
read_event s place = pick (leb (length s) place) end (said place (read_numbers s place))

-- the event that is given: at the end and on a fault a zero event
abbrev pub event_given : Told → Event
event_given (event e next) = e
event_given end = event_of 0 []
event_given (refused n at) = event_of 0 []

-- the place reached: at the end and on a fault it does not move
abbrev pub place_reached : (place : ℕ) → Told → ℕ
place_reached place (event e next) = next
place_reached place end = place
place_reached place (refused n at) = place

-- what each result says, as the paper numbers it
abbrev pub tells : ReadOf Event → Told
tells (Ok (Some found)) = event found.value found.next
tells (Ok None) = end
tells (Err f) = refused (number_of f.refusal) f.place

-- what reading the numbers of an event says, as the paper numbers it
abbrev pub tells_numbers : Result (Found Event) Refusal → Got Event
tells_numbers (Ok found) = got found.value found.next
tells_numbers (Err refusal) = fault (number_of refusal)

-- the place that a result got at a place has reached, whatever is read
abbrev pub reached : {E : Type 0} → (place : ℕ) → ReadOf E → ℕ
reached place (Ok (Some found)) = found.next
reached place (Ok None) = place
reached place (Err f) = place
