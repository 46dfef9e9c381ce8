-- What each public function promises, cited by its `ensures` and by `Determined` in Laws.
use Rattle.std.specs.Prelude.{ℕ, List, Result, ◌≡◌}
use Rattle.table.specs.Results.{Leaves}
use Rattle.table.specs.declared.Refusal.{Refusal}
use Rattle.event.specs.declared.ShelfEvent.{ShelfEvent}
use Rattle.trace.specs.Writing.{tells_written}
use Rattle.trace.specs.Reading.{ReadOf}
use Rattle.trace.specs.declared.Reader.{Reader}
use Rattle.shelf.specs.Reading.{ToldShelf, read_shelf, shelf_reached, tells_shelf}
use Rattle.shelf.specs.Writing.{write_shelf, shelf_after}

-- `event_at` of the shelf trace s at a place
abbrev pub ReadsShelf : List ℕ → ℕ → ReadOf ShelfEvent → Type 0
ReadsShelf s place r = tells_shelf r ≡ read_shelf s place

-- `place_reached` of `trace`, of a result got at a place
abbrev pub ReachesShelf : ReadOf ShelfEvent → ℕ → ℕ → Type 0
ReachesShelf read place r = r ≡ shelf_reached place (tells_shelf read)

-- the reader gives what is told, keeps its trace, and stands at the place that this reaches
abbrev pub TakesShelfAt : (before : Reader) → ToldShelf → ReadOf ShelfEvent → (after : Reader) → Type 0
TakesShelfAt before told r after =
    Leaves (tells_shelf r) told after (record { trace = before.trace; place = shelf_reached before.place told })

-- `next` of the reader `before`, which leaves it as `after`: what stands at its place, and the place reached
abbrev pub TakesShelf : (before : Reader) → ReadOf ShelfEvent → (after : Reader) → Type 0
TakesShelf before r after = TakesShelfAt before (read_shelf before.trace.now before.place) r after

-- `write_event` of an event into the buffer `before` at a place, which leaves it as `after`
abbrev pub WritesShelf : (e : ShelfEvent) (before : List ℕ) (place : ℕ) → Result ℕ Refusal → (after : List ℕ) → Type 0
WritesShelf e before place r after =
    Leaves (tells_written r) (write_shelf e before place) after (shelf_after e before place)
