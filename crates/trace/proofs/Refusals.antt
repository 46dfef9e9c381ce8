-- Each refusal exactly when the paper says: forwards by why the reader said it, backwards by computing it there.
use Prim.Native.Nat.{ℕ}
use mathlib.Core.Bool.{false}
use mathlib.Core.List.{List}
use mathlib.Core.Logic.{◌↔◌, ◌⊎◌, inl, inr, ⊎_elim}
use mathlib.Core.Path.{◌≡◌, refl, ◌∙◌}
use native.Mathlib.Omega.{arith}
use lib.ListN.{drop}
use Rattle.table.specs.Refusals.{bad_event, cut, too_large}
use Rattle.number.specs.Reading.{value, read_number}
use Rattle.number.specs.Reading as number
use Rattle.number.proofs.Refusals as number-laws
use Rattle.event.specs.Table.{within, known_in_trace}
use Rattle.event.specs.declared.Range.{Range}
use Rattle.trace.specs.Reading.{refused, fault, in_range, arguments, read_event}
use Rattle.trace.specs.Writing.{event_bytes}
use Rattle.trace.specs.Laws.{Reaches, Comes, Faulty, CutExactly, TooLargeExactly, BadEventExactly, RefusesNoOther, FaultAtFirst, EndExactly, WriterBadEventExactly, NoRoomExactly, RefusedKeeps}
use Rattle.trace.proofs.First.{at_end_lem, code_fault, code_bad, code_good}
use Rattle.trace.proofs.Room as room
use Rattle.trace.proofs.Why.{Stops, unread, outside, because}

-- ---- backwards

stops_there : {s : List ℕ} {range : Range} {at n : ℕ} → Stops s range at n → in_range range s at ≡ fault n
stops_there (unread e) = rw e refl
stops_there (outside e w) = rw (e, w) refl

reached : {s : List ℕ} {ranges : List Range} {place : ℕ} {range : Range} {at n : ℕ} → Reaches s ranges place range at → Stops s range at n → arguments ranges s place ≡ fault n
unfolding arguments
reached Reaches.here stop = rw (stops_there stop) refl
reached (Reaches.later e w r) stop = rw (e, w, reached r stop) refl

come_to : {s : List ℕ} {place : ℕ} {range : Range} {at n : ℕ} → Comes s place range at → Stops s range at n → read_event s place ≡ refused n place
come_to {s} {place} (Comes.code h) (unread e) = code_fault s place h e
come_to {s} {place} (Comes.code h) (outside e w) = code_bad s place h e w
come_to {s} {place} (Comes.argument h e w r) stop = code_good s place h e w ∙ rw (reached r stop) refl

-- ---- what stopped the reader, by the number of its refusal

unread_of : {s : List ℕ} {range : Range} {at n : ℕ} → Stops s range at n → (n ≡ bad_event → ⊥) → read_number s at ≡ number.refused n
unread_of (unread e) h = e
unread_of (outside e w) h = absurd (h refl)

outside_of : {s : List ℕ} {range : Range} {at n : ℕ} → Stops s range at n → n ≡ bad_event → (v : ℕ) × (next : ℕ) × (read_number s at ≡ value v next) × (within range v ≡ false)
outside_of {s} {at = at} {n} (unread e) h =
    absurd (⊎_elim (λ p. omega arith) (λ p. omega arith) (number-laws.refuses_no_other s at n e))
outside_of (outside {v} {next} e w) h = (v, next, e, w)

-- ---- exactly when: a refusal of the event is one of the number that is come to

exactly : (n : ℕ) {why : List ℕ → Type 0} → (n ≡ bad_event → ⊥) → ((s : List ℕ) (at : ℕ) → read_number s at ≡ number.refused n ↔ why (drop at s))
    → (s : List ℕ) (place : ℕ) → read_event s place ≡ refused n place ↔ Faulty s place why
exactly n ne law s place = (
  λ e. let y = because s place e in record { range = y.1; at = y.2; comes = y.3; why = (law s y.2).0 (unread_of y.4 ne) },
  λ f. come_to f.comes (unread ((law s f.at).1 f.why)),
)

pub cut_exactly : CutExactly
cut_exactly = exactly cut (λ p. omega arith) number-laws.cut_exactly

pub too_large_exactly : TooLargeExactly
too_large_exactly = exactly too_large (λ p. omega arith) number-laws.too_large_exactly

pub bad_event_exactly : BadEventExactly
bad_event_exactly s place = (
  λ e.
      let y = because s place e in
      let o = outside_of y.4 refl in
      record { range = y.1; at = y.2; comes = y.3; v = o.0; next = o.1; reads = o.2; out = o.3 },
  λ o. come_to o.comes (outside o.reads o.out),
)

stopped_by : {s : List ℕ} {range : Range} {at n : ℕ} → Stops s range at n → (n ≡ bad_event) ⊎ ((n ≡ cut) ⊎ (n ≡ too_large))
stopped_by {s} {at = at} {n} (unread e) = inr (number-laws.refuses_no_other s at n e)
stopped_by (outside e w) = inl refl

pub refuses_no_other : RefusesNoOther
refuses_no_other s place n at e = stopped_by (because s place e).4

pub fault_at_first : FaultAtFirst
fault_at_first s place n at e = record { first = (because s place e).0; zeros = rw e refl; stays = rw e refl }

pub end_exactly : EndExactly
end_exactly s place = (because s place, at_end_lem s place)

-- ---- the writer

pub writer_bad_event_exactly : WriterBadEventExactly
writer_bad_event_exactly e = room.bad_event_exactly (known_in_trace e) (event_bytes e)

pub no_room_exactly : NoRoomExactly
no_room_exactly e = room.no_room_exactly (known_in_trace e) (event_bytes e)

pub refused_keeps : RefusedKeeps
refused_keeps e = room.refused_keeps (known_in_trace e) (event_bytes e)
