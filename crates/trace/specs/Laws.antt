-- What is promised of events of a trace beyond the contracts. A heading names the files of proofs/.
use Rattle.std.specs.Prelude.{ℕ, ◌+◌, ◌≤◌, ◌<◌, true, false, List, [], ◌∷◌}
use Rattle.std.specs.Prelude.{Some, Ok, map, ◌↔◌, ◌⊎◌, ◌≡◌, length, take, drop, replicate}
use Rattle.std.proofs.lemmas.List.Edits.{sets}
use Rattle.std.specs.Borrow.{Bor}
use Rattle.table.specs.Refusals.{bad_event, cut, too_large, no_room}
use Rattle.table.specs.Results.{TellsOnce, Determines, DeterminesLent}
use Rattle.number.specs.Reading.{value, read_number}
use Rattle.number.specs.Reading as number
use Rattle.number.specs.Laws.{EndsEarly, TenthTooLarge}
use Rattle.event.specs.Table.{event_of, arguments_of, within, code_in_trace, known_of, known_in_trace, trace_codes}
use Rattle.event.specs.Laws.{IsStamp}
use Rattle.event.specs.declared.Event.{Event}
use Rattle.event.specs.declared.Range.{Range}
use Rattle.trace.specs.Reading.{ReadOf, event, end, read_event, event_given, place_reached, tells, reached}
use Rattle.trace.specs.Reading as reading
use Rattle.trace.specs.Writing.{wrote, event_bytes, trace_bytes, write_event, buffer_after, length_given, tells_written}
use Rattle.trace.specs.Writing as writing
use Rattle.trace.specs.Promises.{ReadsEvent, ReachesPlace, WritesEvent, StartsReader, TakesNext}
use Rattle.trace.specs.declared.Reader.{Reader}

-- ---- results are determined (proofs/Determined)

-- each result says one thing; two that a function may give coincide, as do the buffers and readers that it leaves
pub record Determined : Type 0 where
  pub read_once : TellsOnce tells
  pub written_once : TellsOnce tells_written
  pub event_at : (s : List ℕ) (place : ℕ) → Determines (ReadsEvent s place)
  pub place_reached : (read : ReadOf Event) (place : ℕ) → Determines (ReachesPlace read place)
  pub write_event : (e : Event) (before : List ℕ) (place : ℕ) → DeterminesLent (WritesEvent e before place)
  pub new : (trace : Bor (List ℕ)) → Determines (StartsReader trace)
  pub next : (before : Reader) → DeterminesLent (TakesNext before)

-- `place_reached` of an event read is the place that what is told of it reaches
abbrev pub ReachesTold : Type 0
ReachesTold = (read : ReadOf Event) (place : ℕ) → reached place read ≡ place_reached place (tells read)

-- ---- one event (proofs/RoundTrip, proofs/Accepted)

-- what is written at a place is read back there to the same event and the place after it
abbrev pub ReadBack : Type 0
ReadBack =
    (e : Event) (buffer : List ℕ) (place n : ℕ) → write_event e buffer place ≡ wrote n
    → read_event (buffer_after e buffer place) place ≡ event e (place + n)

-- bytes before the place and after what is written keep their values
abbrev pub OthersKept : Type 0
OthersKept =
    (e : Event) (buffer : List ℕ) (place n : ℕ) → write_event e buffer place ≡ wrote n
    → (take place (buffer_after e buffer place) ≡ take place buffer)
    × (drop (place + n) (buffer_after e buffer place) ≡ drop (place + n) buffer)

-- numbers vs, each read and in its range, stand end to end from a place on; `next` is the place after the last
pub data ArgumentsStand (s : List ℕ) : List Range → ℕ → List ℕ → ℕ → Type 0 where
  none : {place : ℕ} → ArgumentsStand s [] place [] place
  one :
      {range : Range} {ranges : List Range} {place v after : ℕ} {vs : List ℕ} {next : ℕ}
      → read_number s place ≡ value v after → within range v ≡ true → ArgumentsStand s ranges after vs next
      → ArgumentsStand s (range ∷ ranges) place (v ∷ vs) next

-- an event stands at a place inside the trace: a known code, then its arguments; `next` is the place after them
pub record Stands (s : List ℕ) (place : ℕ) (e : Event) (next : ℕ) : Type 0 where
  pub code : ℕ
  pub after : ℕ
  pub vs : List ℕ
  pub inside : place < length s
  pub reads : read_number s place ≡ value code after
  pub coded : code_in_trace code ≡ true
  pub rest : ArgumentsStand s (arguments_of code) after vs next
  pub made : e ≡ event_of code vs

-- an event is read exactly where it stands
abbrev pub EventExactly : Type 0
EventExactly =
    (s : List ℕ) (place : ℕ) (e : Event) (next : ℕ) → read_event s place ≡ event e next ↔ Stands s place e next

-- an event read is one that `known` accepts
abbrev pub ReadKnown : Type 0
ReadKnown =
    (s : List ℕ) (place : ℕ) (e : Event) (next : ℕ) → read_event s place ≡ event e next → known_in_trace e ≡ true

-- so the writer does not refuse it with 2
abbrev pub ReadWritten : Type 0
ReadWritten =
    (s : List ℕ) (place : ℕ) (e : Event) (next : ℕ) → read_event s place ≡ event e next
    → (buffer : List ℕ) (at : ℕ) → write_event e buffer at ≡ writing.refused bad_event → ⊥

-- an event read moves the place forward, and within the trace
pub record MovesOn (s : List ℕ) (place next : ℕ) : Type 0 where
  pub forward : place < next
  pub within : next ≤ length s

abbrev pub ReadMovesOn : Type 0
ReadMovesOn = (s : List ℕ) (place : ℕ) (e : Event) (next : ℕ) → read_event s place ≡ event e next → MovesOn s place next

-- ---- each refusal of the reader exactly when (proofs/Refusals)

-- reading a number of each range in turn reaches the one at `at`; those before it lie in their ranges
pub data Reaches (s : List ℕ) : List Range → ℕ → Range → ℕ → Type 0 where
  here : {range : Range} {ranges : List Range} {place : ℕ} → Reaches s (range ∷ ranges) place range place
  later :
      {first : Range} {ranges : List Range} {place v next : ℕ} {range : Range} {at : ℕ}
      → read_number s place ≡ value v next → within first v ≡ true → Reaches s ranges next range at
      → Reaches s (first ∷ ranges) place range at

-- reading an event reaches the number at `at`, of the range `range`: its code, or an argument of a known code
pub data Comes (s : List ℕ) (place : ℕ) : Range → ℕ → Type 0 where
  code : place < length s → Comes s place trace_codes place
  argument :
      {code next : ℕ} {range : Range} {at : ℕ}
      → place < length s → read_number s place ≡ value code next → code_in_trace code ≡ true
      → Reaches s (arguments_of code) next range at → Comes s place range at

-- a number that the reader reaches, with a fault in its bytes
pub record Faulty (s : List ℕ) (place : ℕ) (fault : List ℕ → Type 0) : Type 0 where
  pub range : Range
  pub at : ℕ
  pub comes : Comes s place range at
  pub why : fault (drop at s)

-- 7: a number that the reader reaches ends too early
abbrev pub CutExactly : Type 0
CutExactly = (s : List ℕ) (place : ℕ) → read_event s place ≡ reading.refused cut place ↔ Faulty s place EndsEarly

-- 9: a number that the reader reaches is 2^64 or more
abbrev pub TooLargeExactly : Type 0
TooLargeExactly =
    (s : List ℕ) (place : ℕ) → read_event s place ≡ reading.refused too_large place ↔ Faulty s place TenthTooLarge

-- 2: a number that the reader reaches is read and lies out of its range
pub record OutOfRange (s : List ℕ) (place : ℕ) : Type 0 where
  pub range : Range
  pub at : ℕ
  pub comes : Comes s place range at
  pub v : ℕ
  pub next : ℕ
  pub reads : read_number s at ≡ value v next
  pub out : within range v ≡ false

abbrev pub BadEventExactly : Type 0
BadEventExactly = (s : List ℕ) (place : ℕ) → read_event s place ≡ reading.refused bad_event place ↔ OutOfRange s place

-- the reader gives no other refusal
abbrev pub RefusesNoOther : Type 0
RefusesNoOther =
    (s : List ℕ) (place n at : ℕ) → read_event s place ≡ reading.refused n at
    → (n ≡ bad_event) ⊎ ((n ≡ cut) ⊎ (n ≡ too_large))

-- every fault is told with the place of the event's first byte, gives a zero event and does not move the place
pub record AtFirstByte (s : List ℕ) (place at : ℕ) : Type 0 where
  pub first : at ≡ place
  pub zeros : event_given (read_event s place) ≡ event_of 0 []
  pub stays : place_reached place (read_event s place) ≡ place

abbrev pub FaultAtFirst : Type 0
FaultAtFirst = (s : List ℕ) (place n at : ℕ) → read_event s place ≡ reading.refused n at → AtFirstByte s place at

-- the trace has ended at its length and past it
abbrev pub EndExactly : Type 0
EndExactly = (s : List ℕ) (place : ℕ) → read_event s place ≡ end ↔ (length s ≤ place)

-- ---- each refusal of the writer exactly when (proofs/Refusals)

-- 2: the event is not known
abbrev pub WriterBadEventExactly : Type 0
WriterBadEventExactly =
    (e : Event) (buffer : List ℕ) (place : ℕ)
    → write_event e buffer place ≡ writing.refused bad_event ↔ (known_in_trace e ≡ false)

-- 10: the event is known, and its bytes do not fit between the place and the buffer's end
abbrev pub NoRoomExactly : Type 0
NoRoomExactly =
    (e : Event) (buffer : List ℕ) (place : ℕ)
    → write_event e buffer place ≡ writing.refused no_room
    ↔ ((known_in_trace e ≡ true) × (length buffer < place + length (event_bytes e)))

-- refused, the length is 0 and the buffer is as it was
abbrev pub RefusedKeeps : Type 0
RefusedKeeps =
    (e : Event) (buffer : List ℕ) (place n : ℕ) → write_event e buffer place ≡ writing.refused n
    → (length_given (write_event e buffer place) ≡ 0) × (buffer_after e buffer place ≡ buffer)

-- ---- whole traces (proofs/RoundTrip)

-- reading these events one after the other from a place on comes to the place `last`
pub data Passes (s : List ℕ) : ℕ → List Event → ℕ → Type 0 where
  here : {place : ℕ} → Passes s place [] place
  on :
      {place : ℕ} {e : Event} {next : ℕ} {es : List Event} {last : ℕ}
      → read_event s place ≡ event e next → Passes s next es last → Passes s place (e ∷ es) last

-- reading on from a place gives these events and then the trace's end, with no fault
pub data ReadsAll (s : List ℕ) : ℕ → List Event → Type 0 where
  ended : {place : ℕ} → read_event s place ≡ end → ReadsAll s place []
  taken :
      {place : ℕ} {e : Event} {next : ℕ} {es : List Event} → read_event s place ≡ event e next → ReadsAll s next es
      → ReadsAll s place (e ∷ es)

-- each event is known
abbrev pub AllKnown : List Event → Type 0
AllKnown [] = Unit
AllKnown (e ∷ es) = (known_in_trace e ≡ true) × AllKnown es

-- known events written end to end are read back to the same list
abbrev pub TraceBack : Type 0
TraceBack = (es : List Event) → AllKnown es → ReadsAll (trace_bytes es) 0 es

-- each event is one that a phy knows, or a time stamp
abbrev pub PhysAndStamps : List Event → Type 0
PhysAndStamps [] = Unit
PhysAndStamps (e ∷ es) = ((known_of e ≡ true) ⊎ IsStamp e) × PhysAndStamps es

-- so a trace with stamps among a phy's events is read back
abbrev pub StampsBack : Type 0
StampsBack = (es : List Event) → PhysAndStamps es → ReadsAll (trace_bytes es) 0 es

-- a trace is read to one list of events only
abbrev pub ReadsOnce : Type 0
ReadsOnce = (s : List ℕ) (place : ℕ) (es fs : List Event) → ReadsAll s place es → ReadsAll s place fs → es ≡ fs

-- ---- a trace written by calls of `write_event` (proofs/Written)

-- calls that write a list's events, each at the place after the last, take `before` to `after`, the place to `last`
pub data WritesAll : (before : List ℕ) (place : ℕ) → List Event → (after : List ℕ) (last : ℕ) → Type 0 where
  done : {buffer : List ℕ} {place : ℕ} → WritesAll buffer place [] buffer place
  put :
      {e : Event} {es : List Event} {before middle after : List ℕ} {place n last : ℕ}
      → WritesEvent e before place (Ok n) middle → WritesAll middle (place + n) es after last
      → WritesAll before place (e ∷ es) after last

-- the bytes of the events stand at the place, every other byte is as it was, and what was written reads back
pub record WrittenOut (before : List ℕ) (place : ℕ) (es : List Event) (after : List ℕ) (last : ℕ) : Type 0 where
  pub bytes : after ≡ sets before place (trace_bytes es)
  pub far : last ≡ place + length (trace_bytes es)
  pub room : last ≤ length before
  pub earlier : take place after ≡ take place before
  pub later : drop last after ≡ drop last before
  pub back : ReadsAll (take last after) place es

-- such calls, from a place in the buffer or at its end, leave it so
abbrev pub AllWritten : Type 0
AllWritten =
    (es : List Event) (before : List ℕ) (place : ℕ) (after : List ℕ) (last : ℕ)
    → place ≤ length before → WritesAll before place es after last → WrittenOut before place es after last

-- there are such calls: none is refused
pub record Writable (before : List ℕ) (place : ℕ) (es : List Event) : Type 0 where
  pub after : List ℕ
  pub last : ℕ
  pub calls : WritesAll before place es after last

-- there are such calls exactly when every event is known and their bytes fit from the place on
abbrev pub WritableExactly : Type 0
WritableExactly =
    (es : List Event) (before : List ℕ) (place : ℕ) → place ≤ length before
    → Writable before place es ↔ (AllKnown es × (place + length (trace_bytes es) ≤ length before))

-- ---- calls of a reader (proofs/Calls)

-- a fault is told with the reader's place, its event is zero, and the reader is as it was
pub record KeptAtFault (before : Reader) (r : ReadOf Event) (at : ℕ) (after : Reader) : Type 0 where
  pub first : at ≡ before.place
  pub zeros : event_given (tells r) ≡ event_of 0 []
  pub stays : after ≡ before

-- a call that gives a fault gives a zero event and does not move the reader
abbrev pub FaultStays : Type 0
FaultStays =
    (before : Reader) (r : ReadOf Event) (after : Reader) (n at : ℕ)
    → TakesNext before r after → tells r ≡ reading.refused n at → KeptAtFault before r at after

-- calls of `next`, one after the other, take a reader to another; their results are listed
pub data Calls : Reader → List (ReadOf Event) → Reader → Type 0 where
  uncalled : {reader : Reader} → Calls reader [] reader
  called :
      {before middle after : Reader} {r : ReadOf Event} {rs : List (ReadOf Event)}
      → TakesNext before r middle → Calls middle rs after → Calls before (r ∷ rs) after

-- each later result is the same, its event is zero, and the reader is as it was
pub record Stopped (before : Reader) (r : ReadOf Event) (rs : List (ReadOf Event)) (after : Reader) : Type 0 where
  pub same : rs ≡ replicate (length rs) r
  pub zeros : event_given (tells r) ≡ event_of 0 []
  pub stays : after ≡ before

-- once a call gives no event, no later call gives anything else or moves the reader
abbrev pub StaysPut : Type 0
StaysPut =
    (before after : Reader) (r : ReadOf Event) (rs : List (ReadOf Event))
    → Calls before (r ∷ rs) after → ((e : Event) (next : ℕ) → tells r ≡ event e next → ⊥) → Stopped before r rs after

-- the results are events read end to end from a place on, each with the place after it; the last place is `last`
pub data GivesEvents (s : List ℕ) : ℕ → List (ReadOf Event) → List Event → ℕ → Type 0 where
  nothing : {place : ℕ} → GivesEvents s place [] [] place
  given :
      {e : Event} {es : List Event} {rs : List (ReadOf Event)} {place next last : ℕ}
      → read_event s place ≡ event e next → GivesEvents s next rs es last
      → GivesEvents s place (Ok (Some (record { value = e; next = next })) ∷ rs) (e ∷ es) last

-- k results are the first k events of a list, and the others stand from the reader's place on
pub record FirstGiven
    (s : List ℕ) (es : List Event) (last : ℕ) (rs : List (ReadOf Event)) (after : Reader) : Type 0 where
  pub answers : GivesEvents s 0 rs (take (length rs) es) after.place
  pub events : map (λ r. event_given (tells r)) rs ≡ take (length rs) es
  pub others : Passes s after.place (drop (length rs) es) last

-- k calls of a new reader give the first k events of the trace, whatever stands behind these
abbrev pub FirstEvents : Type 0
FirstEvents =
    (trace : Bor (List ℕ)) (start after : Reader) (es : List Event) (last : ℕ) (rs : List (ReadOf Event))
    → StartsReader trace start → Passes trace.now 0 es last → Calls start rs after → length rs ≤ length es
    → FirstGiven trace.now es last rs after

-- what calls of `write_event` wrote from a buffer's start on, as many calls of a new reader give back, and then the end
abbrev pub CalledBack : Type 0
CalledBack =
    (es : List Event) (before after : List ℕ) (last : ℕ) → WritesAll before 0 es after last
    → (trace : Bor (List ℕ)) (start middle there : Reader) (rs : List (ReadOf Event)) (r : ReadOf Event)
    → trace.now ≡ take last after → StartsReader trace start → Calls start rs middle → length rs ≡ length es
    → TakesNext middle r there
    → (map (λ q. event_given (tells q)) rs ≡ es) × (tells r ≡ end)

-- ---- padded numbers (proofs/Padded)

-- the same numbers stand in two traces, padded or not, from a place of each to its end or to one fault in both
pub data SameNumbers (s t : List ℕ) : ℕ → ℕ → Type 0 where
  at_ends : {place at : ℕ} → length s ≤ place → length t ≤ at → SameNumbers s t place at
  in_both :
      {place at v next after : ℕ}
      → read_number s place ≡ value v next → read_number t at ≡ value v after → SameNumbers s t next after
      → SameNumbers s t place at
  at_fault :
      {place at n : ℕ}
      → place < length s → at < length t → read_number s place ≡ number.refused n → read_number t at ≡ number.refused n
      → SameNumbers s t place at

-- what is said of two traces is the same but for the places, and behind an event the same numbers stand
pub data Alike (s t : List ℕ) : reading.Told → reading.Told → Type 0 where
  events : {e : Event} {next after : ℕ} → SameNumbers s t next after → Alike s t (event e next) (event e after)
  ends : Alike s t end end
  faults : {n place at : ℕ} → Alike s t (reading.refused n place) (reading.refused n at)

-- so it is wherever the same numbers stand
abbrev pub ReadAlike : Type 0
ReadAlike =
    (s t : List ℕ) (place at : ℕ) → SameNumbers s t place at → Alike s t (read_event s place) (read_event t at)

-- and a trace is read to the same events whether its numbers are padded or not
abbrev pub PaddedTrace : Type 0
PaddedTrace = (s t : List ℕ) (es : List Event) → SameNumbers s t 0 0 → ReadsAll s 0 es → ReadsAll t 0 es
