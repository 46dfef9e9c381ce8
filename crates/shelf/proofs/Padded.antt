-- Where the same numbers stand in two traces, the same is said of both: the phy's number is read to one value in both, and behind it the events are read alike.
use Prim.Native.Nat.{ℕ}
use mathlib.Core.List.{List}
use mathlib.Core.Path.{◌≡◌, refl, subst}
use Rattle.event.specs.declared.ShelfEvent.{ShelfEvent}
use Rattle.trace.specs.Reading.{Told}
use Rattle.trace.specs.Laws.{SameNumbers, at_ends, in_both, at_fault, Alike}
use Rattle.trace.proofs.Padded as trace
use Rattle.shelf.specs.Reading.{ToldShelf, shelf_event, shelf_end, read_shelf}
use Rattle.shelf.specs.Laws.{AlikeOnShelf, events, ends, faults, ShelfReadsAll, ended, taken, ReadAlike, PaddedTrace}
use Rattle.shelf.proofs.First.{at_end_lem, number_fault, behind_number, number_read}

behind_alike : {s t : List ℕ} (place at v : ℕ) {a b : Told} → Alike s t a b → AlikeOnShelf s t (behind_number place v a) (behind_number at v b)
behind_alike place at v (Alike.events r) = events r
behind_alike place at v Alike.ends = faults
behind_alike place at v Alike.faults = faults

pub read_alike : ReadAlike
read_alike s t place at (at_ends h k) = rw (at_end_lem s place h, at_end_lem t at k) ends
read_alike s t place at (in_both {v = v} {next} {after} e f r) =
    rw (number_read s place e refl, number_read t at f refl) (behind_alike place at v (trace.read_alike s t next after r))
read_alike s t place at (at_fault h k e f) = rw (number_fault s place h e, number_fault t at k f) faults

-- ---- whole traces

module _ {s t : List ℕ} where
  ends_too : {u : ToldShelf} → AlikeOnShelf s t shelf_end u → u ≡ shelf_end
  ends_too ends = refl

  event_too : {e : ShelfEvent} {next : ℕ} {u : ToldShelf} → AlikeOnShelf s t (shelf_event e next) u → (after : ℕ) × (u ≡ shelf_event e after) × SameNumbers s t next after
  event_too (events {after = after} r) = (after, refl, r)

  padded_from : {place at : ℕ} {es : List ShelfEvent} → SameNumbers s t place at → ShelfReadsAll s place es → ShelfReadsAll t at es
  padded_from {place} {at} r (ended e) = ended (ends_too (subst (λ (u : ToldShelf). AlikeOnShelf s t u (read_shelf t at)) e (read_alike s t place at r)))
  padded_from {place} {at} r (taken e q) =
      let a = event_too (subst (λ (u : ToldShelf). AlikeOnShelf s t u (read_shelf t at)) e (read_alike s t place at r)) in
      taken a.1 (padded_from a.2 q)

pub padded_trace : PaddedTrace
padded_trace s t es r q = padded_from r q
