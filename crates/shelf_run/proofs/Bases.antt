-- A run that takes no event leaves the port with which it begins: that of the row with every base unset, and of the numbers lent.
use Prim.Native.Nat.{ℕ, zero, suc}
use mathlib.Core.Bool.{true}
use mathlib.Core.List.{List, [], ◌∷◌}
use mathlib.Core.Path.{◌≡◌, refl, sym, ap, ◌∙◌}
use native.Mathlib.Omega.{arith}
use borrow.Author.Tests.{le-leb}
use lib.Dec.{leb}
use lib.ListN.{length}
use lib.Seq.{sets}
use Rattle.table.proofs.Laws.{parts}
use Rattle.event.specs.declared.ShelfEvent.{ShelfEvent}
use Rattle.queue.specs.Lent.{good_lent, lent_as}
use Rattle.queue.proofs.Lending.{good_is_lent}
use Rattle.shelf.specs.Laws.{ShelfPasses, here, on}
use Rattle.run.specs.Running.{Halt}
use Rattle.port.specs.Names.{most_phys}
use Rattle.port.specs.State.{Port, valid_of}
use Rattle.port.specs.Log.{after}
use Rattle.port.specs.Lent.{port_in}
use Rattle.shelf_run.specs.Running.{Course, bytes_of, started, taken}
use Rattle.shelf_run.specs.Laws.{Why, ended, spent, faulty, NoneToTake, no_budget, no_trace, first_faulty, TakesNoneExactly, UnsetsBases}
use Rattle.shelf_run.proofs.Taking.{taking_ended, taking_fault}
use Rattle.shelf_run.proofs.Stopping.{stops_well_always}
use Rattle.shelf_run.proofs.Refusals.{not_refused_exactly}

-- ---- none to take

none_passed : {s : List ℕ} {place : ℕ} {es : List ShelfEvent} {last : ℕ} → ShelfPasses s place es last → length es ≡ 0 → last ≡ place
none_passed here z = refl
none_passed (on r p) z = absurd (omega arith)

none_because : {s : List ℕ} {budget last count : ℕ} {halt : Halt} → Why s budget count last halt → count ≡ 0 → last ≡ 0 → NoneToTake s budget
none_because (ended h) z o = no_trace (omega arith)
none_because (spent h e) z o = no_budget (sym e ∙ z)
none_because (faulty h l e) z o = first_faulty (rw o at e)

none_taken : (s : List ℕ) (budget : ℕ) → NoneToTake s budget → length (taken s budget) ≡ 0
none_taken s budget (no_budget z) = omega (arith, (stops_well_always s budget).few)
none_taken s budget (no_trace z) = ap (λ (c : Course). length c.events) (taking_ended s 0 budget (omega arith))
none_taken s zero (first_faulty e) = omega (arith, (stops_well_always s zero).few)
none_taken s (suc budget) (first_faulty e) = ap (λ (c : Course). length c.events) (taking_fault s 0 budget e)

pub takes_none_exactly : TakesNoneExactly
takes_none_exactly s budget = (
  λ z. let w = stops_well_always s budget in none_because w.why z (none_passed w.passes z),
  none_taken s budget,
)

-- ---- none taken

empty : {A : Type 0} (l : List A) → length l ≡ 0 → l ≡ []
empty [] z = refl
empty (a ∷ l) z = absurd (omega arith)

pub unsets_bases : UnsetsBases
unsets_bases row numbers s budget buffer h z =
    let t = (not_refused_exactly row numbers s budget buffer).0 h in
    let r : leb budget (length buffer) ≡ true = le-leb budget (length buffer) t.1 in
    let none : taken s budget ≡ [] = empty (taken s budget) (rw (t.0, r) at z) in
    let p : Port = started (port_in row numbers) in
    let good : good_lent numbers ≡ true = (parts (good_lent numbers) (valid_of most_phys (port_in row numbers)) t.0).0 in
    record {
      bases = rw (t.0, r) (ap (λ (es : List ShelfEvent). (after most_phys p es).bays) none);
      same_numbers = rw (t.0, r) (ap (λ (es : List ShelfEvent). lent_as (after most_phys p es).queue) none ∙ sym (good_is_lent numbers good));
      same_bytes = rw (t.0, r) (ap (λ (es : List ShelfEvent). sets buffer 0 (bytes_of p es)) none);
    }
