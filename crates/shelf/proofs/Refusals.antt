-- Each refusal of the reader exactly when the paper says: forwards by why the reader said it, backwards by computing it there.
use Prim.Native.Nat.{ℕ}
use mathlib.Core.List.{List}
use mathlib.Core.Logic.{◌↔◌, ◌⊎◌, inl, inr, ⊎_elim}
use mathlib.Core.Path.{◌≡◌, refl, sym}
use native.Mathlib.Omega.{arith}
use lib.ListN.{drop}
use Rattle.table.specs.Refusals.{bad_event, cut, too_large}
use Rattle.number.specs.Reading.{read_number}
use Rattle.number.specs.Reading as number
use Rattle.number.proofs.Refusals as number-laws
use Rattle.trace.specs.Reading.{refused, read_event}
use Rattle.trace.specs.Laws.{Faulty}
use Rattle.trace.proofs.Refusals as event-laws
use Rattle.shelf.specs.Reading.{shelf_refused, read_shelf}
use Rattle.shelf.specs.Laws.{FaultyOnShelf, in_number, in_event, EndsBehind, CutExactly, TooLargeExactly, OutBehind, BadEventExactly, RefusesNoOther, FaultAtFirst, EndExactly}
use Rattle.shelf.proofs.First.{at_end_lem, number_fault, number_read}
use Rattle.shelf.proofs.Why.{StopsAt, unread, ends, faulty, because}

-- ---- a fault in the bytes of a number: of the phy's, or of one of the event

module _ {n : ℕ} {why : List ℕ → Type 0} (of_number : (s : List ℕ) (at : ℕ) → read_number s at ≡ number.refused n ↔ why (drop at s)) (of-event : (s : List ℕ) (at : ℕ) → read_event s at ≡ refused n at ↔ Faulty s at why) where
  -- either there is such a fault, or the trace ends behind the phy's number
  forwards : {s : List ℕ} {place m : ℕ} → StopsAt s place m → m ≡ n → FaultyOnShelf s place why ⊎ ((n ≡ cut) × EndsBehind s place)
  forwards {s} {place} (unread h e) i = inl (in_number h ((of_number s place).0 (rw i at e)))
  forwards (ends {v} {behind} e h) i = inr (sym i, record { v = v; behind = behind; reads = e; ends = h })
  forwards {s} (faulty {behind = behind} e f) i = inl (in_event e ((of-event s behind).0 (rw i at f)))

  backwards : {s : List ℕ} {place : ℕ} → FaultyOnShelf s place why → read_shelf s place ≡ shelf_refused n place
  backwards {s} {place} (in_number h f) = number_fault s place h ((of_number s place).1 f)
  backwards {s} {place} (in_event {behind = behind} e f) = number_read s place e ((of-event s behind).1 f)

ends_behind : {s : List ℕ} {place : ℕ} → EndsBehind s place → read_shelf s place ≡ shelf_refused cut place
ends_behind {s} {place} b = number_read s place b.reads ((event-laws.end_exactly s b.behind).1 b.ends)

pub cut_exactly : CutExactly
cut_exactly s place = (
  λ e. ⊎_elim inl (λ p. inr p.1) (forwards number-laws.cut_exactly event-laws.cut_exactly (because s place e).1 refl),
  ⊎_elim (backwards number-laws.cut_exactly event-laws.cut_exactly) ends_behind,
)

pub too_large_exactly : TooLargeExactly
too_large_exactly s place = (
  λ e. ⊎_elim (λ f. f) (λ p. absurd (omega (arith, p.0))) (forwards number-laws.too_large_exactly event-laws.too_large_exactly (because s place e).1 refl),
  backwards number-laws.too_large_exactly event-laws.too_large_exactly,
)

-- ---- a number out of its range: of the event alone

out_behind : {s : List ℕ} {place n : ℕ} → StopsAt s place n → n ≡ bad_event → OutBehind s place
out_behind {s} {place} {n} (unread h e) b =
    absurd (⊎_elim (λ p. omega arith) (λ p. omega arith) (number-laws.refuses_no_other s place n e))
out_behind (ends e h) b = absurd (omega arith)
out_behind {s} (faulty {v = v} {behind} e f) b =
    record { v = v; behind = behind; reads = e; out = (event-laws.bad_event_exactly s behind).0 (rw b at f) }

pub bad_event_exactly : BadEventExactly
bad_event_exactly s place = (
  λ e. out_behind (because s place e).1 refl,
  λ o. number_read s place o.reads ((event-laws.bad_event_exactly s o.behind).1 o.out),
)

-- ---- no other, the place, the end

stopped_by : {s : List ℕ} {place n : ℕ} → StopsAt s place n → (n ≡ bad_event) ⊎ ((n ≡ cut) ⊎ (n ≡ too_large))
stopped_by {s} {place} {n} (unread h e) = inr (number-laws.refuses_no_other s place n e)
stopped_by (ends e h) = inr (inl refl)
stopped_by {s} {n = n} (faulty {behind = behind} e f) = event-laws.refuses_no_other s behind n behind f

pub refuses_no_other : RefusesNoOther
refuses_no_other s place n at e = stopped_by (because s place e).1

pub fault_at_first : FaultAtFirst
fault_at_first s place n at e = record { first = (because s place e).0; zeros = rw e refl; stays = rw e refl }

pub end_exactly : EndExactly
end_exactly s place = (because s place, at_end_lem s place)
