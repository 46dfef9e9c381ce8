-- What each function promises, cited by its `ensures` and, of the public ones, by `Determined` in Laws.
use Rattle.std.specs.Prelude.{ℕ, ◌+◌, ◌≤◌, true, List, Result, ◌≡◌, length}
use Rattle.std.proofs.lemmas.List.Edits.{sets}
use Rattle.std.specs.Borrow.{Bor}
use Rattle.table.specs.Results.{Leaves}
use Rattle.table.specs.declared.Refusal.{Refusal}
use Rattle.number.specs.declared.Found.{Found}
use Rattle.event.specs.Table.{known_in_trace}
use Rattle.event.specs.declared.Event.{Event}
use Rattle.trace.specs.Reading.{ReadOf, Told, after_code, read_numbers, read_event, place_reached, tells}
use Rattle.trace.specs.Reading.{tells_numbers, reached}
use Rattle.trace.specs.Writing.{event_bytes, write_event, buffer_after, tells_written}
use Rattle.trace.specs.declared.Reader.{Reader}

-- `read_arguments` of a code, from a place of the slice s on
abbrev pub ReadsArguments : List ℕ → (code place : ℕ) → Result (Found Event) Refusal → Type 0
ReadsArguments s code place r = tells_numbers r ≡ after_code code s place

-- `read_numbers` from a place of the slice s on
abbrev pub ReadsNumbers : List ℕ → ℕ → Result (Found Event) Refusal → Type 0
ReadsNumbers s place r = tells_numbers r ≡ read_numbers s place

-- `event_at` of the trace s at a place
abbrev pub ReadsEvent : List ℕ → ℕ → ReadOf Event → Type 0
ReadsEvent s place r = tells r ≡ read_event s place

-- `place_reached` of a result got at a place, whatever is read
abbrev pub ReachesPlace : {E : Type 0} → ReadOf E → ℕ → ℕ → Type 0
ReachesPlace read place r = r ≡ reached place read

-- what `write_numbers` asks: the event is known and its bytes fit
pub record HasRoom (e : Event) (buffer : List ℕ) (place : ℕ) : Type 0 where
  pub known : known_in_trace e ≡ true
  pub room : place + length (event_bytes e) ≤ length buffer

-- `write_numbers` of an event into the buffer `before` at a place, which leaves it as `after`
abbrev pub FillsBuffer : Event → List ℕ → ℕ → List ℕ → Type 0
FillsBuffer e before place after = after ≡ sets before place (event_bytes e)

-- `write_event` of an event into the buffer `before` at a place, which leaves it as `after`
abbrev pub WritesEvent : (e : Event) (before : List ℕ) (place : ℕ) → Result ℕ Refusal → (after : List ℕ) → Type 0
WritesEvent e before place r after =
    Leaves (tells_written r) (write_event e before place) after (buffer_after e before place)

-- `new` of a trace: a reader that holds it, at its first byte
abbrev pub StartsReader : (trace : Bor (List ℕ)) → Reader → Type 0
StartsReader trace r = r ≡ record { trace = trace; place = 0 }

-- the reader gives what is told, keeps its trace, and stands at the place that this reaches
abbrev pub TakesAt : (before : Reader) → Told → ReadOf Event → (after : Reader) → Type 0
TakesAt before told r after =
    Leaves (tells r) told after (record { trace = before.trace; place = place_reached before.place told })

-- `next` of the reader `before`, which leaves it as `after`: what stands at its place, and the place reached
abbrev pub TakesNext : (before : Reader) → ReadOf Event → (after : Reader) → Type 0
TakesNext before r after = TakesAt before (read_event before.trace.now before.place) r after
