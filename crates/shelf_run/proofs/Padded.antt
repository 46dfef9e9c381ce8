-- Of traces of the same numbers the same events are taken, by induction over the budget; so a port makes the same of them.
use Prim.Native.Nat.{ℕ, zero, suc}
use mathlib.Core.List.{List, ◌∷◌}
use mathlib.Core.Path.{◌≡◌, refl, ap}
use borrow.Author.Tests.{le-leb, lt-leb}
use lib.Dec.{leb}
use lib.ListN.{length}
use lib.Seq.{sets}
use Rattle.event.specs.declared.ShelfEvent.{ShelfEvent}
use Rattle.trace.specs.Laws.{SameNumbers, at_ends, in_both, at_fault}
use Rattle.trace.proofs.Padded.{inside}
use Rattle.queue.specs.Lent.{lent_as}
use Rattle.shelf.specs.Reading.{ToldShelf}
use Rattle.shelf.specs.Laws.{AlikeOnShelf, events, ends, faults}
use Rattle.shelf.proofs.Padded.{read_alike}
use Rattle.replies.specs.Replies.{stop_reply}
use Rattle.port.specs.Names.{most_phys}
use Rattle.port.specs.State.{Port}
use Rattle.port.specs.Log.{after}
use Rattle.port.specs.Lent.{port_in}
use Rattle.shelf_run.specs.Running.{Course, onwards, taking, bytes_of, started}
use Rattle.shelf_run.specs.Laws.{StopAlike, same, elsewhere, PaddedRun}
use Rattle.shelf_run.proofs.Refusals.{by_tests}

-- two courses take the same events and stop alike
abbrev AlikeTaken : Course → Course → Type 0
AlikeTaken c d = (c.events ≡ d.events) × StopAlike (stop_reply c.halt) (stop_reply d.halt)

module _ {s t : List ℕ} where
  ended_alike : {place at : ℕ} → SameNumbers s t place at → leb (length s) place ≡ leb (length t) at
  ended_alike (at_ends {place} {at} h k) = rw (le-leb (length s) place h, le-leb (length t) at k)
  ended_alike (in_both {place} {at} e f r) = rw (lt-leb (length s) place (inside s place e), lt-leb (length t) at (inside t at f))
  ended_alike (at_fault {place} {at} h k e f) = rw (lt-leb (length s) place h, lt-leb (length t) at k)

  on_alike : {x y : ToldShelf} (f g : ℕ → Course) → ((next at : ℕ) → SameNumbers s t next at → AlikeTaken (f next) (g at)) → AlikeOnShelf s t x y → AlikeTaken (onwards x f) (onwards y g)
  on_alike f g h (events {e} {next} {after} r) = let a = h next after r in (ap (λ (es : List ShelfEvent). e ∷ es) a.0, a.1)
  on_alike f g h ends = (refl, same)
  on_alike f g h faults = (refl, elsewhere)

  taken_alike : (budget place at : ℕ) → SameNumbers s t place at → AlikeTaken (taking budget s place) (taking budget t at)
  unfolding taking
  taken_alike zero place at r = rw (ended_alike r) (refl, same)
  taken_alike (suc budget) place at r = on_alike (taking budget s) (taking budget t) (taken_alike budget) (read_alike s t place at r)

pub padded_run : PaddedRun
padded_run row numbers s t budget buffer r =
    let a = taken_alike budget 0 0 r in
    let p : Port = started (port_in row numbers) in
    by_tests row numbers budget buffer
    (λ v. record { count = rw v refl; stop = rw v same; row_same = rw v refl; numbers_same = rw v refl; bytes_same = rw v refl })
    (λ v l. record { count = rw (v, l) refl; stop = rw (v, l) same; row_same = rw (v, l) refl; numbers_same = rw (v, l) refl; bytes_same = rw (v, l) refl })
    (λ v l. record {
      count = rw (v, l) (ap length a.0);
      stop = rw (v, l) a.1;
      row_same = rw (v, l) (ap (λ (es : List ShelfEvent). (after most_phys p es).bays) a.0);
      numbers_same = rw (v, l) (ap (λ (es : List ShelfEvent). lent_as (after most_phys p es).queue) a.0);
      bytes_same = rw (v, l) (ap (λ (es : List ShelfEvent). sets buffer 0 (bytes_of p es)) a.0);
    })
