-- Each result says one thing, so a contract that gives what is said gives the result.
use mathlib.Core.Path.{◌≡◌, refl, ap}
use Rattle.std.specs.Prelude.{Some, None, Ok, Err}
use Rattle.table.specs.declared.Refusal.{Refusal}
use Rattle.table.specs.Results.{TellsOnce}
use Rattle.table.proofs.Results.{leads_back, refusal_of, refusal_back, by_telling, by_equation, with_lent}
use Rattle.trace.proofs.Determined.{written_once}
use Rattle.event.specs.declared.ShelfEvent.{ShelfEvent}
use Rattle.trace.specs.Reading.{ReadOf}
use Rattle.shelf.specs.Reading.{ToldShelf, shelf_event, shelf_end, shelf_refused, tells_shelf}
use Rattle.shelf.specs.Laws.{Determined, ReachesTold}

-- what is said tells which result said it
answer : ToldShelf → ReadOf ShelfEvent
answer (shelf_event e next) = Ok (Some (record { value = e; next = next }))
answer shelf_end = Ok None
answer (shelf_refused n at) = Err (record { refusal = refusal_of n; place = at })

answers : (r : ReadOf ShelfEvent) → answer (tells_shelf r) ≡ r
unfolding answer
answers (Ok (Some found)) = refl
answers (Ok None) = refl
answers (Err f) = ap (λ (refusal : Refusal). Err (record { refusal = refusal; place = f.place })) (refusal_back f.refusal)

pub read_once : TellsOnce tells_shelf
read_once = leads_back answer answers

pub reaches_told : ReachesTold
reaches_told (Ok (Some found)) place r h = h
reaches_told (Ok None) place r h = h
reaches_told (Err f) place r h = h

pub determined : Determined
determined =
    record {
      read_once = read_once;
      event_at = λ s place. by_telling read_once _;
      place_reached = λ read place. by_equation _;
      write_event = λ e before place. with_lent written_once _ _;
      next = λ before. with_lent read_once _ _;
    }
