-- What is written is read back: the code, then the arguments by induction over their ranges, then the events by induction over the list.
use Prim.Native.Nat.{ℕ, suc, ◌+◌, ◌^◌, ◌≤◌, ◌<◌}
use mathlib.Core.Bool.{true}
use mathlib.Core.List.{List, [], ◌∷◌, ◌++◌, append_assoc}
use mathlib.Core.Path.{◌≡◌, refl, sym, ap, ap₂, subst, ◌∙◌}
use native.Mathlib.Nat.{add_assoc, add-zero}
use native.Mathlib.Omega.{arith}
use lib.ListN.{length, take, drop, get_or, length-append, length-drop}
use lib.Seq.{sets, sets-eq, take_at, length-take-le}
use Rattle.table.proofs.Laws.{apart}
use Rattle.table.proofs.Stores.{stored_from}
use Rattle.number.specs.Writing.{number_bytes}
use Rattle.number.proofs.RoundTrip.{sized, read_wherever}
use Rattle.event.specs.Table.{event_of, arguments_of, argument_count, known_in_trace}
use Rattle.event.specs.declared.Event.{Event}
use Rattle.event.specs.declared.Range.{Range}
use Rattle.event.proofs.InTrace.{in_trace_exactly}
use Rattle.trace.specs.Reading.{event, end, got, arguments, read_event}
use Rattle.trace.specs.Writing.{wrote, bytes_of, event_bytes, trace_bytes, write_event}
use Rattle.trace.specs.Laws.{ReadBack, OthersKept, ReadsAll, ended, taken, AllKnown, TraceBack, PhysAndStamps, StampsBack, ReadsOnce}
use Rattle.trace.proofs.Known.{AllWithin, six_of, is_known, numbers_small, lacks, small, at_most_six}
use Rattle.trace.proofs.Numbers.{behind, inside}
use Rattle.trace.proofs.ReadLoop.{kept, same_event}
use Rattle.trace.proofs.First.{at_end_lem, code_good}
use Rattle.trace.proofs.Room.{Fitted}
use Rattle.trace.proofs.Room as room

-- ---- the arguments

arguments_back : (ranges : List Range) (vs : List ℕ) → AllWithin ranges vs → ((k : ℕ) → get_or vs k 0 < 2 ^ 64) → length ranges ≤ length vs
    → (s : List ℕ) (place : ℕ) (rest : List ℕ) → drop place s ≡ bytes_of (take (length ranges) vs) ++ rest
    → arguments ranges s place ≡ got (take (length ranges) vs) (place + length (bytes_of (take (length ranges) vs)))
unfolding arguments bytes_of
arguments_back [] vs w small l s place rest e = ap (λ (n : ℕ). got [] n) (sym (add-zero place))
arguments_back (range ∷ ranges) [] w small l s place rest e = absurd (omega arith)
arguments_back (range ∷ ranges) (v ∷ vs) w small l s place rest e =
    let later : List ℕ = bytes_of (take (length ranges) vs) in
    let here : drop place s ≡ number_bytes v ++ (later ++ rest) = e ∙ append_assoc (number_bytes v) later rest in
    rw (
      read_wherever v (small 0) s place (later ++ rest) here,
      w 0,
      arguments_back ranges vs (λ k. w (suc k)) (λ k. small (suc k)) (omega arith) s (place + length (number_bytes v)) rest (behind s place (number_bytes v) (later ++ rest) here),
    )
    (ap (λ (n : ℕ). got (v ∷ take (length ranges) vs) n) (rw (length-append (number_bytes v) later) (add_assoc place (length (number_bytes v)) (length later))))

-- ---- the event

-- its bytes are those of its code and then those of the arguments that it has
parts : (e : Event) → event_bytes e ≡ number_bytes e.code ++ bytes_of (take (length (arguments_of e.code)) (six_of e))
unfolding event_bytes bytes_of argument_count
parts e = refl

module _ (e : Event) (k : known_in_trace e ≡ true) where
  abbrev count : ℕ
  count = length (arguments_of e.code)

  abbrev later : List ℕ
  later = bytes_of (take count (six_of e))

  -- those that the event lacks are zero, so those that it has make it
  made : event_of e.code (take count (six_of e)) ≡ e
  made = same_event e.code (take count (six_of e)) (six_of e) (kept count (six_of e) (lacks (arguments_of e.code) (six_of e) (is_known e k).ranged))

  module _ (s : List ℕ) (place : ℕ) (rest : List ℕ) (h : drop place s ≡ event_bytes e ++ rest) where
    here : drop place s ≡ number_bytes e.code ++ (later ++ rest)
    here = h ∙ rw (parts e) (append_assoc (number_bytes e.code) later rest)

    abbrev after : ℕ
    after = place + length (number_bytes e.code)

    some : 0 < length (number_bytes e.code)
    some = (sized e.code (numbers_small e k 0)).0

    arguments_read : arguments (arguments_of e.code) s after ≡ got (take count (six_of e)) (after + length later)
    arguments_read =
        arguments_back (arguments_of e.code) (six_of e) (is_known e k).ranged (small e.code (six_of e) (is_known e k).ranged) (at_most_six e.code) s after rest
        (behind s place (number_bytes e.code) (later ++ rest) here)

    last : after + length later ≡ place + length (event_bytes e)
    last = rw (parts e, length-append (number_bytes e.code) later) (add_assoc place (length (number_bytes e.code)) (length later))

    event_back : read_event s place ≡ event e (place + length (event_bytes e))
    event_back =
        code_good s place (omega (arith, inside s place (number_bytes e.code) (later ++ rest) here some, some))
        (read_wherever e.code (numbers_small e k 0) s place (later ++ rest) here) (is_known e k).coded
        ∙ rw arguments_read (ap₂ event made last)

-- ---- in a buffer

-- a length is told only of an event that is known and fits
abbrev pub Fits : Event → (buffer : List ℕ) → (place n : ℕ) → Type 0
Fits e = Fitted (known_in_trace e) (event_bytes e)

pub fitted : (e : Event) (buffer : List ℕ) (place n : ℕ) → write_event e buffer place ≡ wrote n → Fits e buffer place n
fitted e = room.fitted (known_in_trace e) (event_bytes e)

pub read_back : ReadBack
read_back e buffer place n h =
    let w = fitted e buffer place n h in
    rw (w.left, w.long)
    (event_back e w.known (sets buffer place (event_bytes e)) place (drop (place + length (event_bytes e)) buffer) (stored_from buffer (event_bytes e) place w.room))

-- what is stored at a place with room leaves the bytes before it and those behind it as they were
module _ (buffer bytes : List ℕ) (place : ℕ) (room : place + length bytes ≤ length buffer) where
  pub earlier_kept : take place (sets buffer place bytes) ≡ take place buffer
  earlier_kept =
      ap (take place) (sets-eq bytes buffer place room ∙ append_assoc (take place buffer) bytes (drop (place + length bytes) buffer))
      ∙ take_at (take place buffer) (bytes ++ drop (place + length bytes) buffer) place (length-take-le place buffer (omega arith))

  pub later_kept : drop (place + length bytes) (sets buffer place bytes) ≡ drop (place + length bytes) buffer
  later_kept = behind (sets buffer place bytes) place bytes (drop (place + length bytes) buffer) (stored_from buffer bytes place room)

pub others_kept : OthersKept
others_kept e buffer place n h =
    let w = fitted e buffer place n h in
    rw (w.left, w.long) (earlier_kept buffer (event_bytes e) place w.room, later_kept buffer (event_bytes e) place w.room)

-- ---- whole traces

pub trace_back_from : (es : List Event) → AllKnown es → (s : List ℕ) (place : ℕ) → drop place s ≡ trace_bytes es → ReadsAll s place es
unfolding trace_bytes
trace_back_from [] k s place h = ended (at_end_lem s place (omega (arith, simp length-drop at (ap length h))))
trace_back_from (e ∷ es) k s place h =
    taken (event_back e k.0 s place (trace_bytes es) h)
    (trace_back_from es k.1 s (place + length (event_bytes e)) (behind s place (event_bytes e) (trace_bytes es) h))

pub trace_back : TraceBack
trace_back es k = trace_back_from es k (trace_bytes es) 0 refl

-- such events may all stand in a trace
stand : (es : List Event) → PhysAndStamps es → AllKnown es
stand [] k = tt
stand (e ∷ es) k = ((in_trace_exactly e).1 k.0, stand es k.1)

pub stamps_back : StampsBack
stamps_back es k = trace_back es (stand es k)

event_is : {e f : Event} {m n : ℕ} → event e m ≡ event f n → (e ≡ f) × (m ≡ n)
event_is h = (cc, cc)

not_ended : {e : Event} {n : ℕ} → end ≡ event e n → ⊥
not_ended h = apart cc

pub reads_once : ReadsOnce
reads_once s place es fs (ended a) (ended b) = refl
reads_once s place es fs (ended a) (taken b q) = absurd (not_ended (sym a ∙ b))
reads_once s place es fs (taken a r) (ended b) = absurd (not_ended (sym b ∙ a))
reads_once s place es fs (taken {e = e} {next} {es = es'} a r) (taken {e = f} {next = after} {es = fs'} b q) =
    let i = event_is (sym b ∙ a) in
    ap₂ (λ (x : Event) (l : List Event). x ∷ l) (sym i.0) (reads_once s next es' fs' r (subst (λ (n : ℕ). ReadsAll s n fs') i.1 q))
