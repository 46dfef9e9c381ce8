-- A course stops well: by induction over the budget, and by what stands at each place.
use Prim.Native.Nat.{ℕ, zero, suc, ◌≤◌, ◌<◌}
use mathlib.Core.List.{List}
use mathlib.Core.Path.{◌≡◌, refl, sym, ap, subst, ◌∙◌}
use native.Mathlib.Omega.{arith}
use lib.ListN.{length}
use Rattle.table.proofs.Laws.{by_order}
use Rattle.event.specs.declared.ShelfEvent.{ShelfEvent}
use Rattle.shelf.specs.Reading.{ToldShelf, shelf_event, shelf_end, shelf_refused, read_shelf}
use Rattle.shelf.specs.Laws.{here, on, ShelfReadsAll, ended, taken}
use Rattle.shelf.proofs.Refusals.{end_exactly, fault_at_first}
use Rattle.run.specs.Running.{Halt, at_end}
use Rattle.shelf_run.specs.Running.{Course, stops, first, taking}
use Rattle.shelf_run.specs.Laws.{Why, spent, faulty, StopsWell, StopsWellAlways, TakesAll}
use Rattle.shelf_run.specs.Laws as laws
use Rattle.shelf_run.proofs.Taking.{taking_ended, taking_spent, taking_event, taking_fault}

-- ---- one event more, and none more

why_on : {s : List ℕ} {budget count last : ℕ} {halt : Halt} → Why s budget count last halt → Why s (suc budget) (suc count) last halt
why_on (laws.ended h) = laws.ended h
why_on (spent h e) = spent h (ap suc e)
why_on (faulty h l e) = faulty h (omega arith) e

one_more : {s : List ℕ} {budget place : ℕ} {e : ShelfEvent} {next : ℕ} {c : Course} → read_shelf s place ≡ shelf_event e next → StopsWell s budget next c → StopsWell s (suc budget) place (first e c)
one_more r w = record { last = w.last; passes = on r w.passes; few = omega (arith, w.few); why = why_on w.why }

none_more : {s : List ℕ} {budget place : ℕ} {halt : Halt} → Why s budget 0 place halt → StopsWell s budget place (stops halt)
none_more {place = place} w = record { last = place; passes = here; few = omega arith; why = w }

-- ---- the whole course

-- by what is read inside the trace with budget left
read_on :
    (budget : ℕ) (s : List ℕ) (place : ℕ) → ((next : ℕ) → StopsWell s budget next (taking budget s next)) → place < length s
    → (t : ToldShelf) → read_shelf s place ≡ t → StopsWell s (suc budget) place (taking (suc budget) s place)
read_on budget s place rest h (shelf_event e next) r =
    subst (StopsWell s (suc budget) place) (sym (taking_event s place budget r)) (one_more r (rest next))
read_on budget s place rest h shelf_end r = absurd (omega (arith, (end_exactly s place).0 r))
read_on budget s place rest h (shelf_refused n at) r =
    let f : read_shelf s place ≡ shelf_refused n place = r ∙ ap (shelf_refused n) (fault_at_first s place n at r).first in
    subst (StopsWell s (suc budget) place) (sym (taking_fault s place budget f)) (none_more (faulty h (omega arith) f))

stops_from : (budget : ℕ) (s : List ℕ) (place : ℕ) → StopsWell s budget place (taking budget s place)
stops_from zero s place =
    by_order place (length s)
    (λ h. subst (StopsWell s zero place) (sym (taking_spent s place h)) (none_more (spent h refl)))
    (λ h. subst (StopsWell s zero place) (sym (taking_ended s place zero h)) (none_more (laws.ended h)))
stops_from (suc budget) s place =
    by_order place (length s)
    (λ h. read_on budget s place (stops_from budget s) h (read_shelf s place) refl)
    (λ h. subst (StopsWell s (suc budget) place) (sym (taking_ended s place (suc budget) h)) (none_more (laws.ended h)))

pub stops_well_always : StopsWellAlways
stops_well_always s budget = stops_from budget s 0

-- ---- a trace without fault

takes_from : (s : List ℕ) (budget place : ℕ) (es : List ShelfEvent) → ShelfReadsAll s place es → length es ≤ budget → taking budget s place ≡ record { events = es; halt = at_end }
takes_from s budget place es (ended r) h = taking_ended s place budget ((end_exactly s place).0 r)
takes_from s zero place es (taken r t) h = absurd (omega arith)
takes_from s (suc budget) place es (taken {e = e} {next} {es = later} r t) h = taking_event s place budget r ∙ ap (first e) (takes_from s budget next later t (omega arith))

pub takes_all : TakesAll
takes_all s budget es r h = takes_from s budget 0 es r h
