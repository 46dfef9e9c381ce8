-- What is written is read back: the phy's number, behind it the event by trace's law, then the events by induction over the list.
use Prim.Native.Nat.{ℕ, ◌+◌, ◌^◌, ◌≤◌, ◌<◌}
use mathlib.Core.Bool.{true}
use mathlib.Core.List.{List, [], ◌∷◌, ◌++◌, append_assoc}
use mathlib.Core.Path.{◌≡◌, refl, sym, ap, ap₂, subst, ◌∙◌}
use native.Mathlib.Omega.{arith}
use lib.ListN.{length, take, drop, length-append, length-drop, take-append-drop}
use lib.Seq.{sets, sets-eq}
use Rattle.table.proofs.Laws.{apart}
use Rattle.table.proofs.Stores.{stored_from}
use Rattle.number.specs.Writing.{number_bytes}
use Rattle.number.proofs.RoundTrip.{sized, read_wherever}
use Rattle.event.specs.Table.{known_in_trace}
use Rattle.event.specs.declared.Event.{Event}
use Rattle.event.specs.declared.ShelfEvent.{ShelfEvent}
use Rattle.trace.specs.Reading.{event, read_event}
use Rattle.trace.specs.Writing.{event_bytes}
use Rattle.trace.proofs.Numbers.{behind, inside}
use Rattle.trace.proofs.WriteLoop.{with_room}
use Rattle.trace.proofs.RoundTrip.{earlier_kept, later_kept}
use Rattle.trace.proofs.RoundTrip as trace
use Rattle.shelf.specs.Reading.{shelf_event, shelf_end, read_shelf}
use Rattle.shelf.specs.Writing.{shelf_bytes, shelf_trace_bytes}
use Rattle.shelf.specs.Laws.{ReadBack, OthersKept, ShelfReadsAll, ended, taken, AllOnShelf, ShelfTraceBack, ReadsOnce}
use Rattle.shelf.proofs.First.{at_end_lem, number_read}
use Rattle.shelf.proofs.WriteOrder.{long}
use Rattle.shelf.proofs.Written.{fitted}

-- ---- the event

-- bytes that stand at a place change nothing where they are stored there
stored_same : (s : List ℕ) (place : ℕ) (bytes rest : List ℕ) → drop place s ≡ bytes ++ rest → place + length bytes ≤ length s → sets s place bytes ≡ s
stored_same s place bytes rest e h =
    sets-eq bytes s place h ∙ append_assoc (take place s) bytes (drop (place + length bytes) s) ∙ rw (behind s place bytes rest e, ← e) (take-append-drop place s)

-- so an event is read wherever its bytes stand, as it is read back where it was written
event_back : (e : Event) → known_in_trace e ≡ true → (s : List ℕ) (place : ℕ) (rest : List ℕ) → place ≤ length s → drop place s ≡ event_bytes e ++ rest
    → read_event s place ≡ event e (place + length (event_bytes e))
event_back e k s place rest h b =
    let room : place + length (event_bytes e) ≤ length s = omega (arith, simp (length-drop, length-append) at (ap length b)) in
    let written = with_room e s place k room refl refl in
    rw (← written.leaves, stored_same s place (event_bytes e) rest b room) at (trace.read_back e s place (length (event_bytes e)) (sym written.says))

shelf_back : (e : ShelfEvent) → e.number < 2 ^ 64 → known_in_trace e.event ≡ true → (s : List ℕ) (place : ℕ) (rest : List ℕ) → drop place s ≡ shelf_bytes e ++ rest
    → read_shelf s place ≡ shelf_event e (place + length (shelf_bytes e))
unfolding shelf_bytes
shelf_back e h k s place rest b =
    let here : drop place s ≡ number_bytes e.number ++ (event_bytes e.event ++ rest) = b ∙ append_assoc (number_bytes e.number) (event_bytes e.event) rest in
    number_read s place (read_wherever e.number h s place (event_bytes e.event ++ rest) here)
    (event_back e.event k s (place + length (number_bytes e.number)) rest
    (inside s place (number_bytes e.number) (event_bytes e.event ++ rest) here (sized e.number h).0)
    (behind s place (number_bytes e.number) (event_bytes e.event ++ rest) here))
    ∙ ap (shelf_event e) (omega (arith, long e))

-- ---- in a buffer

pub read_back : ReadBack
read_back e buffer place n h t =
    let w = fitted e buffer place n t in
    rw (w.left, w.long)
    (shelf_back e h w.known (sets buffer place (shelf_bytes e)) place (drop (place + length (shelf_bytes e)) buffer) (stored_from buffer (shelf_bytes e) place w.room))

pub others_kept : OthersKept
others_kept e buffer place n t =
    let w = fitted e buffer place n t in
    rw (w.left, w.long) (earlier_kept buffer (shelf_bytes e) place w.room, later_kept buffer (shelf_bytes e) place w.room)

-- ---- whole traces

trace_back_from : (es : List ShelfEvent) → AllOnShelf es → (s : List ℕ) (place : ℕ) → drop place s ≡ shelf_trace_bytes es → ShelfReadsAll s place es
unfolding shelf_trace_bytes
trace_back_from [] k s place h = ended (at_end_lem s place (omega (arith, simp length-drop at (ap length h))))
trace_back_from (e ∷ es) k s place h =
    taken (shelf_back e k.0 k.1 s place (shelf_trace_bytes es) h)
    (trace_back_from es k.2 s (place + length (shelf_bytes e)) (behind s place (shelf_bytes e) (shelf_trace_bytes es) h))

pub shelf_trace_back : ShelfTraceBack
shelf_trace_back es k = trace_back_from es k (shelf_trace_bytes es) 0 refl

event_is : {e f : ShelfEvent} {m n : ℕ} → shelf_event e m ≡ shelf_event f n → (e ≡ f) × (m ≡ n)
event_is h = (cc, cc)

not_ended : {e : ShelfEvent} {n : ℕ} → shelf_end ≡ shelf_event e n → ⊥
not_ended h = apart cc

pub reads_once : ReadsOnce
reads_once s place es fs (ended a) (ended b) = refl
reads_once s place es fs (ended a) (taken b q) = absurd (not_ended (sym a ∙ b))
reads_once s place es fs (taken a r) (ended b) = absurd (not_ended (sym b ∙ a))
reads_once s place es fs (taken {next = next} {es = es'} a r) (taken {es = fs'} b q) =
    let i = event_is (sym b ∙ a) in
    ap₂ (λ (x : ShelfEvent) (l : List ShelfEvent). x ∷ l) (sym i.0) (reads_once s next es' fs' r (subst (λ (n : ℕ). ShelfReadsAll s n fs') i.1 q))
