-- Of traces of the same numbers the same events are taken, by induction over the budget; so a phy makes the same of them.
use Prim.Native.Nat.{ℕ, zero, suc}
use mathlib.Core.List.{List, ◌∷◌}
use mathlib.Core.Path.{◌≡◌, refl, ap}
use borrow.Author.Tests.{le-leb, lt-leb}
use lib.Dec.{leb}
use lib.ListN.{length}
use lib.Seq.{sets}
use Rattle.event.specs.declared.Event.{Event}
use Rattle.trace.specs.Reading as reading
use Rattle.trace.specs.Laws.{SameNumbers, at_ends, in_both, at_fault, Alike, events, ends, faults}
use Rattle.trace.proofs.Padded.{inside, read_alike}
use Rattle.bay.specs.State.{unstamped}
use Rattle.bay.specs.Log as log
use Rattle.run.specs.Running.{Course, onwards, taking, bytes_of}
use Rattle.run.specs.Laws.{StopAlike, same, elsewhere, PaddedRun}
use Rattle.run.proofs.Refusals.{by_tests}

-- two courses take the same events and stop alike
abbrev AlikeTaken : Course → Course → Type 0
AlikeTaken c d = (c.events ≡ d.events) × StopAlike c.halt d.halt

module _ {s t : List ℕ} where
  ended_alike : {place at : ℕ} → SameNumbers s t place at → leb (length s) place ≡ leb (length t) at
  ended_alike (at_ends {place} {at} h k) = rw (le-leb (length s) place h, le-leb (length t) at k)
  ended_alike (in_both {place} {at} e f r) = rw (lt-leb (length s) place (inside s place e), lt-leb (length t) at (inside t at f))
  ended_alike (at_fault {place} {at} h k e f) = rw (lt-leb (length s) place h, lt-leb (length t) at k)

  on_alike : {x y : reading.Told} (f g : ℕ → Course) → ((next at : ℕ) → SameNumbers s t next at → AlikeTaken (f next) (g at)) → Alike s t x y → AlikeTaken (onwards x f) (onwards y g)
  on_alike f g h (events {e} {next} {after} r) = let a = h next after r in (ap (λ (es : List Event). e ∷ es) a.0, a.1)
  on_alike f g h ends = (refl, same)
  on_alike f g h faults = (refl, elsewhere)

  taken_alike : (budget place at : ℕ) → SameNumbers s t place at → AlikeTaken (taking budget s place) (taking budget t at)
  unfolding taking
  taken_alike zero place at r = rw (ended_alike r) (refl, same)
  taken_alike (suc budget) place at r = on_alike (taking budget s) (taking budget t) (taken_alike budget) (read_alike s t place at r)

pub padded_run : PaddedRun
padded_run p s t budget buffer r =
    let a = taken_alike budget 0 0 r in
    by_tests p budget buffer
    (λ v. record { count = rw v refl; state = rw v refl; halt = rw v same; bytes = rw v refl })
    (λ v l. record { count = rw (v, l) refl; state = rw (v, l) refl; halt = rw (v, l) same; bytes = rw (v, l) refl })
    (λ v l. record {
      count = rw (v, l) (ap length a.0);
      state = rw (v, l) (ap (log.after (unstamped p)) a.0);
      halt = rw (v, l) a.1;
      bytes = rw (v, l) (ap (λ (es : List Event). sets buffer 0 (bytes_of (unstamped p) es)) a.0);
    })
