-- Where the same numbers stand in two traces, the same is said of both: the code and each argument are read to one value in both, and so are judged alike.
use Prim.Native.Nat.{ℕ, ◌<◌}
use mathlib.Core.List.{List, [], ◌∷◌}
use mathlib.Core.Path.{◌≡◌, refl, subst}
use native.Mathlib.Omega.{arith}
use lib.ListN.{length}
use Rattle.table.proofs.Laws.{by_test}
use Rattle.number.specs.Reading.{value, read_number}
use Rattle.number.proofs.Loops.{first_cut}
use Rattle.number.proofs.Refusals.{read_moves_on}
use Rattle.event.specs.Table.{event_of, arguments_of, within, code_in_trace}
use Rattle.event.specs.declared.Event.{Event}
use Rattle.event.specs.declared.Range.{Range}
use Rattle.trace.specs.Reading.{Told, event, end, Got, got, fault, onwards, arguments, read_event, said}
use Rattle.trace.specs.Laws.{SameNumbers, at_ends, in_both, at_fault, Alike, events, ends, faults, ReadsAll, ended, taken, ReadAlike, PaddedTrace}
use Rattle.trace.proofs.First.{at_end_lem, code_fault, code_bad, code_good}

-- where a number is read it is not the end
pub inside : (s : List ℕ) (place : ℕ) {v next : ℕ} → read_number s place ≡ value v next → place < length s
inside s place {v} {next} e = let m = read_moves_on s place v next e in omega arith

-- ---- the arguments

data AlikeGot (s t : List ℕ) : Got (List ℕ) → Got (List ℕ) → Type 0 where
  both : {vs : List ℕ} {next after : ℕ} → SameNumbers s t next after → AlikeGot s t (got vs next) (got vs after)
  neither : {n : ℕ} → AlikeGot s t (fault n) (fault n)

module _ {s t : List ℕ} where
  longer : (v : ℕ) {g h : Got (List ℕ)} → AlikeGot s t g h → AlikeGot s t (onwards g λ vs next. got (v ∷ vs) next) (onwards h λ vs next. got (v ∷ vs) next)
  longer v (both r) = both r
  longer v neither = neither

  arguments_alike : (ranges : List Range) {place at : ℕ} → SameNumbers s t place at → AlikeGot s t (arguments ranges s place) (arguments ranges t at)
  unfolding arguments
  arguments_alike [] r = both r
  arguments_alike (range ∷ ranges) (at_ends {place} {at} h k) = rw (first_cut s place h, first_cut t at k) neither
  arguments_alike (range ∷ ranges) (in_both {v = v} e f r) =
      by_test (within range v)
      (λ w. rw (e, f, w) (longer v (arguments_alike ranges r)))
      (λ w. rw (e, f, w) neither)
  arguments_alike (range ∷ ranges) (at_fault h k e f) = rw (e, f) neither

  -- ---- the event

  said_alike : (place at code : ℕ) {g h : Got (List ℕ)} → AlikeGot s t g h
      → Alike s t (said place (onwards g λ vs next. got (event_of code vs) next)) (said at (onwards h λ vs next. got (event_of code vs) next))
  said_alike place at code (both r) = events r
  said_alike place at code neither = faults

pub read_alike : ReadAlike
read_alike s t place at (at_ends h k) = rw (at_end_lem s place h, at_end_lem t at k) ends
read_alike s t place at (in_both {v = v} e f r) =
    by_test (code_in_trace v)
    (λ w. rw (code_good s place (inside s place e) e w, code_good t at (inside t at f) f w) (said_alike place at v (arguments_alike (arguments_of v) r)))
    (λ w. rw (code_bad s place (inside s place e) e w, code_bad t at (inside t at f) f w) faults)
read_alike s t place at (at_fault h k e f) = rw (code_fault s place h e, code_fault t at k f) faults

-- ---- whole traces

module _ {s t : List ℕ} where
  ends_too : {u : Told} → Alike s t end u → u ≡ end
  ends_too ends = refl

  event_too : {e : Event} {next : ℕ} {u : Told} → Alike s t (event e next) u → (after : ℕ) × (u ≡ event e after) × SameNumbers s t next after
  event_too (events {after = after} r) = (after, refl, r)

  padded_from : {place at : ℕ} {es : List Event} → SameNumbers s t place at → ReadsAll s place es → ReadsAll t at es
  padded_from {place} {at} r (ended e) = ended (ends_too (subst (λ (u : Told). Alike s t u (read_event t at)) e (read_alike s t place at r)))
  padded_from {place} {at} r (taken e q) =
      let a = event_too (subst (λ (u : Told). Alike s t u (read_event t at)) e (read_alike s t place at r)) in
      taken a.1 (padded_from a.2 q)

pub padded_trace : PaddedTrace
padded_trace s t es r q = padded_from r q
