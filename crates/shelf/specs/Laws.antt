-- What is promised of events of a shelf trace beyond the contracts. A heading names the files of proofs/.
use Rattle.std.specs.Prelude.{ℕ, ◌+◌, ◌^◌, ◌≤◌, ◌<◌, true, false, List, [], ◌∷◌}
use Rattle.std.specs.Prelude.{map, ◌↔◌, ◌⊎◌, ◌≡◌, length, take, drop, replicate}
use Rattle.std.specs.Borrow.{Bor}
use Rattle.table.specs.Refusals.{bad_event, cut, too_large, no_room}
use Rattle.table.specs.Results.{TellsOnce, Determines, DeterminesLent}
use Rattle.number.specs.Reading.{value, read_number}
use Rattle.number.specs.Laws.{Bytes, EndsEarly, TenthTooLarge}
use Rattle.event.specs.Table.{known_in_trace}
use Rattle.event.specs.declared.ShelfEvent.{ShelfEvent}
use Rattle.trace.specs.Writing.{wrote, refused, length_given}
use Rattle.trace.specs.Promises.{StartsReader, ReachesPlace}
use Rattle.trace.specs.Laws.{Stands, MovesOn, Faulty, OutOfRange, SameNumbers}
use Rattle.trace.specs.declared.Reader.{Reader}
use Rattle.shelf.specs.Reading.{ToldShelf, shelf_event, shelf_end, shelf_refused, read_shelf, zero_shelf, shelf_given}
use Rattle.shelf.specs.Reading.{shelf_reached, tells_shelf}
use Rattle.shelf.specs.Writing.{shelf_bytes, shelf_trace_bytes, write_shelf, shelf_after}
use Rattle.shelf.specs.Promises.{ReadsShelf, ReachesShelf, WritesShelf, TakesShelf}
use Rattle.trace.specs.Reading.{ReadOf}

-- ---- results are determined (proofs/Determined)

-- each result of the reader says one thing; two that a function may give coincide, as does what it leaves
pub record Determined : Type 0 where
  pub read_once : TellsOnce tells_shelf
  pub event_at : (s : List ℕ) (place : ℕ) → Determines (ReadsShelf s place)
  pub place_reached : (read : ReadOf ShelfEvent) (place : ℕ) → Determines (ReachesShelf read place)
  pub write_event : (e : ShelfEvent) (before : List ℕ) (place : ℕ) → DeterminesLent (WritesShelf e before place)
  pub next : (before : Reader) → DeterminesLent (TakesShelf before)

-- `place_reached` of `trace` meets the contract of an event on a shelf
abbrev pub ReachesTold : Type 0
ReachesTold = (read : ReadOf ShelfEvent) (place r : ℕ) → ReachesPlace read place r → ReachesShelf read place r

-- ---- one event (proofs/RoundTrip, proofs/Accepted)

-- what is written at a place, of any phy number of 64 bits, is read back there to the same event and the place after it
abbrev pub ReadBack : Type 0
ReadBack =
    (e : ShelfEvent) (buffer : List ℕ) (place n : ℕ) → e.number < 2 ^ 64 → write_shelf e buffer place ≡ wrote n
    → read_shelf (shelf_after e buffer place) place ≡ shelf_event e (place + n)

-- bytes before the place and after what is written keep their values
abbrev pub OthersKept : Type 0
OthersKept =
    (e : ShelfEvent) (buffer : List ℕ) (place n : ℕ) → write_shelf e buffer place ≡ wrote n
    → (take place (shelf_after e buffer place) ≡ take place buffer)
    × (drop (place + n) (shelf_after e buffer place) ≡ drop (place + n) buffer)

-- the phy's number stands at a place, and behind it the event as in a trace of one phy; `next` is the place after both
pub record StandsOnShelf (s : List ℕ) (place : ℕ) (e : ShelfEvent) (next : ℕ) : Type 0 where
  pub behind : ℕ
  pub reads : read_number s place ≡ value e.number behind
  pub stands : Stands s behind e.event next

-- an event is read exactly where it stands
abbrev pub EventExactly : Type 0
EventExactly =
    (s : List ℕ) (place : ℕ) (e : ShelfEvent) (next : ℕ)
    → read_shelf s place ≡ shelf_event e next ↔ StandsOnShelf s place e next

-- an event read is known in a trace
abbrev pub ReadKnown : Type 0
ReadKnown =
    (s : List ℕ) (place : ℕ) (e : ShelfEvent) (next : ℕ) → read_shelf s place ≡ shelf_event e next
    → known_in_trace e.event ≡ true

-- so the writer does not refuse it with 2
abbrev pub ReadWritten : Type 0
ReadWritten =
    (s : List ℕ) (place : ℕ) (e : ShelfEvent) (next : ℕ) → read_shelf s place ≡ shelf_event e next
    → (buffer : List ℕ) (at : ℕ) → write_shelf e buffer at ≡ refused bad_event → ⊥

-- an event read moves the place forward, and within the trace
abbrev pub ReadMovesOn : Type 0
ReadMovesOn =
    (s : List ℕ) (place : ℕ) (e : ShelfEvent) (next : ℕ) → read_shelf s place ≡ shelf_event e next
    → MovesOn s place next

-- ---- each refusal of the reader exactly when (proofs/Refusals)

-- a number with a fault in its bytes: the phy's, or behind it one of the event that the reader reaches
pub data FaultyOnShelf (s : List ℕ) (place : ℕ) (fault : List ℕ → Type 0) : Type 0 where
  in_number : place < length s → fault (drop place s) → FaultyOnShelf s place fault
  in_event : {v behind : ℕ} → read_number s place ≡ value v behind → Faulty s behind fault → FaultyOnShelf s place fault

-- the trace ends behind the phy's number
pub record EndsBehind (s : List ℕ) (place : ℕ) : Type 0 where
  pub v : ℕ
  pub behind : ℕ
  pub reads : read_number s place ≡ value v behind
  pub ends : length s ≤ behind

-- 7: a number that the reader reaches ends too early, or the trace ends behind the phy's number
abbrev pub CutExactly : Type 0
CutExactly =
    (s : List ℕ) (place : ℕ)
    → read_shelf s place ≡ shelf_refused cut place ↔ (FaultyOnShelf s place EndsEarly ⊎ EndsBehind s place)

-- 9: a number that the reader reaches is 2^64 or more
abbrev pub TooLargeExactly : Type 0
TooLargeExactly =
    (s : List ℕ) (place : ℕ) → read_shelf s place ≡ shelf_refused too_large place ↔ FaultyOnShelf s place TenthTooLarge

-- 2: behind the phy's number, of any value, a number of the event is read and lies out of its range
pub record OutBehind (s : List ℕ) (place : ℕ) : Type 0 where
  pub v : ℕ
  pub behind : ℕ
  pub reads : read_number s place ≡ value v behind
  pub out : OutOfRange s behind

abbrev pub BadEventExactly : Type 0
BadEventExactly = (s : List ℕ) (place : ℕ) → read_shelf s place ≡ shelf_refused bad_event place ↔ OutBehind s place

-- the reader gives no other refusal
abbrev pub RefusesNoOther : Type 0
RefusesNoOther =
    (s : List ℕ) (place n at : ℕ) → read_shelf s place ≡ shelf_refused n at
    → (n ≡ bad_event) ⊎ ((n ≡ cut) ⊎ (n ≡ too_large))

-- every fault is told with the place of the phy number's first byte, gives a zero event and does not move the place
pub record AtFirstByte (s : List ℕ) (place at : ℕ) : Type 0 where
  pub first : at ≡ place
  pub zeros : shelf_given (read_shelf s place) ≡ zero_shelf
  pub stays : shelf_reached place (read_shelf s place) ≡ place

abbrev pub FaultAtFirst : Type 0
FaultAtFirst = (s : List ℕ) (place n at : ℕ) → read_shelf s place ≡ shelf_refused n at → AtFirstByte s place at

-- the trace has ended at its length and past it
abbrev pub EndExactly : Type 0
EndExactly = (s : List ℕ) (place : ℕ) → read_shelf s place ≡ shelf_end ↔ (length s ≤ place)

-- ---- each refusal of the writer exactly when (proofs/Written)

-- 2: the event is not known in a trace, whatever the phy's number
abbrev pub WriterBadEventExactly : Type 0
WriterBadEventExactly =
    (e : ShelfEvent) (buffer : List ℕ) (place : ℕ)
    → write_shelf e buffer place ≡ refused bad_event ↔ (known_in_trace e.event ≡ false)

-- 10: the event is known, and the bytes do not fit between the place and the buffer's end
abbrev pub NoRoomExactly : Type 0
NoRoomExactly =
    (e : ShelfEvent) (buffer : List ℕ) (place : ℕ)
    → write_shelf e buffer place ≡ refused no_room
    ↔ ((known_in_trace e.event ≡ true) × (length buffer < place + length (shelf_bytes e)))

-- refused, the length is 0 and the buffer is as it was
abbrev pub RefusedKeeps : Type 0
RefusedKeeps =
    (e : ShelfEvent) (buffer : List ℕ) (place n : ℕ) → write_shelf e buffer place ≡ refused n
    → (length_given (write_shelf e buffer place) ≡ 0) × (shelf_after e buffer place ≡ buffer)

-- ---- whole traces (proofs/RoundTrip)

-- reading these events one after the other from a place on comes to the place `last`
pub data ShelfPasses (s : List ℕ) : ℕ → List ShelfEvent → ℕ → Type 0 where
  here : {place : ℕ} → ShelfPasses s place [] place
  on :
      {place : ℕ} {e : ShelfEvent} {next : ℕ} {es : List ShelfEvent} {last : ℕ}
      → read_shelf s place ≡ shelf_event e next → ShelfPasses s next es last → ShelfPasses s place (e ∷ es) last

-- reading on from a place gives these events and then the trace's end, with no fault
pub data ShelfReadsAll (s : List ℕ) : ℕ → List ShelfEvent → Type 0 where
  ended : {place : ℕ} → read_shelf s place ≡ shelf_end → ShelfReadsAll s place []
  taken :
      {place : ℕ} {e : ShelfEvent} {next : ℕ} {es : List ShelfEvent}
      → read_shelf s place ≡ shelf_event e next → ShelfReadsAll s next es → ShelfReadsAll s place (e ∷ es)

-- each phy number is of 64 bits, and each event known in a trace
abbrev pub AllOnShelf : List ShelfEvent → Type 0
AllOnShelf [] = Unit
AllOnShelf (e ∷ es) = (e.number < 2 ^ 64) × (known_in_trace e.event ≡ true) × AllOnShelf es

-- such events written end to end are read back to the same list
abbrev pub ShelfTraceBack : Type 0
ShelfTraceBack = (es : List ShelfEvent) → AllOnShelf es → ShelfReadsAll (shelf_trace_bytes es) 0 es

-- a shelf trace is read to one list of events only
abbrev pub ReadsOnce : Type 0
ReadsOnce =
    (s : List ℕ) (place : ℕ) (es fs : List ShelfEvent) → ShelfReadsAll s place es → ShelfReadsAll s place fs → es ≡ fs

-- ---- calls of a reader (proofs/Calls)

-- a fault is told with the reader's place, its event is zero, and the reader is as it was
pub record KeptAtFault (before : Reader) (r : ReadOf ShelfEvent) (at : ℕ) (after : Reader) : Type 0 where
  pub first : at ≡ before.place
  pub zeros : shelf_given (tells_shelf r) ≡ zero_shelf
  pub stays : after ≡ before

-- a call that gives a fault gives a zero event and does not move the reader
abbrev pub FaultStays : Type 0
FaultStays =
    (before : Reader) (r : ReadOf ShelfEvent) (after : Reader) (n at : ℕ)
    → TakesShelf before r after → tells_shelf r ≡ shelf_refused n at → KeptAtFault before r at after

-- calls of `next`, one after the other, take a reader to another; their results are listed
pub data ShelfCalls : Reader → List (ReadOf ShelfEvent) → Reader → Type 0 where
  uncalled : {reader : Reader} → ShelfCalls reader [] reader
  called :
      {before middle after : Reader} {r : ReadOf ShelfEvent} {rs : List (ReadOf ShelfEvent)}
      → TakesShelf before r middle → ShelfCalls middle rs after → ShelfCalls before (r ∷ rs) after

-- each later result is the same, its event is zero, and the reader is as it was
pub record Stopped
    (before : Reader) (r : ReadOf ShelfEvent) (rs : List (ReadOf ShelfEvent)) (after : Reader) : Type 0 where
  pub same : rs ≡ replicate (length rs) r
  pub zeros : shelf_given (tells_shelf r) ≡ zero_shelf
  pub stays : after ≡ before

-- once a call gives no event, no later call gives anything else or moves the reader
abbrev pub StaysPut : Type 0
StaysPut =
    (before after : Reader) (r : ReadOf ShelfEvent) (rs : List (ReadOf ShelfEvent)) → ShelfCalls before (r ∷ rs) after
    → ((e : ShelfEvent) (next : ℕ) → tells_shelf r ≡ shelf_event e next → ⊥) → Stopped before r rs after

-- k results are the first k events of a list that stands at a place, and the others stand from the reader's place on
pub record FirstGiven
    (s : List ℕ) (place : ℕ) (es : List ShelfEvent) (last : ℕ) (rs : List (ReadOf ShelfEvent)) (after : Reader)
    : Type 0 where
  pub events : map (λ r. shelf_given (tells_shelf r)) rs ≡ take (length rs) es
  pub passed : ShelfPasses s place (take (length rs) es) after.place
  pub others : ShelfPasses s after.place (drop (length rs) es) last

-- k calls of a new reader give the first k events of the trace, whatever stands behind these
abbrev pub FirstEvents : Type 0
FirstEvents =
    (trace : Bor (List ℕ)) (start after : Reader) (es : List ShelfEvent) (last : ℕ) (rs : List (ReadOf ShelfEvent))
    → StartsReader trace start → ShelfPasses trace.now 0 es last → ShelfCalls start rs after
    → length rs ≤ length es → FirstGiven trace.now 0 es last rs after

-- ---- the shortest form (proofs/Shortest)

-- bytes that are read to an event, wherever they stand, are at least as many as are written for it
abbrev pub Fewest : Type 0
Fewest =
    (s : List ℕ) (place : ℕ) (e : ShelfEvent) (next : ℕ) → Bytes s → read_shelf s place ≡ shelf_event e next
    → place + length (shelf_bytes e) ≤ next

-- so are those that are read to a list of events
abbrev pub FewestAll : Type 0
FewestAll =
    (s : List ℕ) (es : List ShelfEvent) → Bytes s → ShelfReadsAll s 0 es → length (shelf_trace_bytes es) ≤ length s

-- ---- padded numbers (proofs/Padded)

-- what is said of two traces is the same but for the places, and behind an event the same numbers stand
pub data AlikeOnShelf (s t : List ℕ) : ToldShelf → ToldShelf → Type 0 where
  events :
      {e : ShelfEvent} {next after : ℕ}
      → SameNumbers s t next after → AlikeOnShelf s t (shelf_event e next) (shelf_event e after)
  ends : AlikeOnShelf s t shelf_end shelf_end
  faults : {n place at : ℕ} → AlikeOnShelf s t (shelf_refused n place) (shelf_refused n at)

-- so it is wherever the same numbers stand
abbrev pub ReadAlike : Type 0
ReadAlike =
    (s t : List ℕ) (place at : ℕ) → SameNumbers s t place at → AlikeOnShelf s t (read_shelf s place) (read_shelf t at)

-- and a shelf trace is read to the same events whether its numbers are padded or not
abbrev pub PaddedTrace : Type 0
PaddedTrace =
    (s t : List ℕ) (es : List ShelfEvent) → SameNumbers s t 0 0 → ShelfReadsAll s 0 es → ShelfReadsAll t 0 es
