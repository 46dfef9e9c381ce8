-- Why the reader says what it says: the numbers that it read, or the number at which it stopped. One case analysis, from which the laws follow.
use Prim.Native.Nat.{ℕ, ◌≤◌, ◌<◌}
use mathlib.Core.Bool.{true, false}
use mathlib.Core.List.{List, [], ◌∷◌}
use mathlib.Core.Path.{◌≡◌, refl, subst}
use lib.ListN.{length}
use Rattle.table.specs.Refusals.{bad_event}
use Rattle.table.proofs.Laws.{by_test, by_order}
use Rattle.number.specs.Reading.{value, read_number}
use Rattle.number.specs.Reading as number
use Rattle.event.specs.Table.{event_of, arguments_of, within, code_in_trace, trace_codes}
use Rattle.event.specs.declared.Range.{Range}
use Rattle.trace.specs.Reading.{Told, event, end, refused, Got, got, fault, onwards, arguments, read_event, said}
use Rattle.trace.specs.Laws.{ArgumentsStand, none, one, Stands, Reaches, Comes}
use Rattle.trace.proofs.First.{at_end_lem, code_fault, code_bad, code_good}

-- what stops the reader at a number
pub data Stops (s : List ℕ) (range : Range) (at : ℕ) : ℕ → Type 0 where
  unread : {n : ℕ} → read_number s at ≡ number.refused n → Stops s range at n
  outside : {v next : ℕ} → read_number s at ≡ value v next → within range v ≡ false → Stops s range at bad_event

-- ---- the arguments

abbrev WhyArguments : (s : List ℕ) → List Range → ℕ → Got (List ℕ) → Type 0
WhyArguments s ranges place (got vs next) = ArgumentsStand s ranges place vs next
WhyArguments s ranges place (fault n) = (range : Range) × (at : ℕ) × Reaches s ranges place range at × Stops s range at n

module _ (s : List ℕ) (range : Range) (ranges : List Range) (place : ℕ) where
  passed : {v after : ℕ} → read_number s place ≡ value v after → within range v ≡ true → (g : Got (List ℕ)) → WhyArguments s ranges after g
      → WhyArguments s (range ∷ ranges) place (onwards g λ vs next. got (v ∷ vs) next)
  passed e w (got vs next) a = one e w a
  passed e w (fault n) a = (a.0, a.1, Reaches.later e w a.2, a.3)

why_one : (s : List ℕ) (range : Range) (ranges : List Range) (place : ℕ) (t : number.Told) → read_number s place ≡ t
    → ((after : ℕ) → WhyArguments s ranges after (arguments ranges s after)) → WhyArguments s (range ∷ ranges) place (arguments (range ∷ ranges) s place)
unfolding arguments
why_one s range ranges place (value v after) e rest =
    by_test (within range v)
    (λ w. rw (e, w) (passed s range ranges place e w (arguments ranges s after) (rest after)))
    (λ w. rw (e, w) (range, place, Reaches.here, outside e w))
why_one s range ranges place (number.refused n) e rest = rw e (range, place, Reaches.here, unread e)

why_arguments : (s : List ℕ) (ranges : List Range) (place : ℕ) → WhyArguments s ranges place (arguments ranges s place)
unfolding arguments
why_arguments s [] place = none
why_arguments s (range ∷ ranges) place = why_one s range ranges place (read_number s place) refl (why_arguments s ranges)

-- ---- the event

abbrev pub WhyEvent : List ℕ → ℕ → Told → Type 0
WhyEvent s place (event e next) = Stands s place e next
WhyEvent s place end = length s ≤ place
WhyEvent s place (refused n first) = (first ≡ place) × (range : Range) × (at : ℕ) × Comes s place range at × Stops s range at n

module _ (s : List ℕ) (place : ℕ) (h : place < length s) where
  why_rest : {code after : ℕ} → read_number s place ≡ value code after → code_in_trace code ≡ true → (g : Got (List ℕ)) → WhyArguments s (arguments_of code) after g
      → WhyEvent s place (said place (onwards g λ vs next. got (event_of code vs) next))
  why_rest {code} {after} e w (got vs next) a = record { code = code; after = after; vs = vs; inside = h; reads = e; coded = w; rest = a; made = refl }
  why_rest e w (fault n) a = (refl, a.0, a.1, Comes.argument h e w a.2, a.3)

  why_first : (t : number.Told) → read_number s place ≡ t → WhyEvent s place (read_event s place)
  why_first (value code after) e =
      by_test (code_in_trace code)
      (λ w. rw (code_good s place h e w) (why_rest e w (arguments (arguments_of code) s after) (why_arguments s (arguments_of code) after)))
      (λ w. rw (code_bad s place h e w) (refl, trace_codes, place, Comes.code h, outside e w))
  why_first (number.refused n) e = rw (code_fault s place h e) (refl, trace_codes, place, Comes.code h, unread e)

pub because : (s : List ℕ) (place : ℕ) {t : Told} → read_event s place ≡ t → WhyEvent s place t
because s place e =
    subst (WhyEvent s place) e
    (by_order place (length s) (λ h. why_first s place h (read_number s place) refl) (λ g. rw (at_end_lem s place g) g))
