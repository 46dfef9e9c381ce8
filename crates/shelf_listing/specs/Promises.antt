-- What each function promises, cited by its `ensures` and, of the public ones, by `Determined` in Laws.
use Rattle.std.specs.Prelude.{◌≡◌, ℕ, List}
use Rattle.event.specs.declared.ShelfEvent.{ShelfEvent}
use Rattle.lines.specs.Promises as lines
use Rattle.lines.specs.declared.Progress.{Progress}
use Rattle.lines.specs.declared.listing.Listed.{Listed}
use Rattle.shelf_listing.specs.Held.{fresh_shelf, step_held, held_after, columns_held, of_shelf}
use Rattle.shelf_listing.specs.declared.Shelf.{Shelf}
use Rattle.shelf_listing.specs.declared.Turn.{Turn}

-- `fresh` of any number of phys
abbrev pub Freshly : (phys : ℕ) → Shelf → Type 0
Freshly phys r = r ≡ fresh_shelf phys

-- `turned`: the shelf after an event, and the event's columns
pub record Turns (h : Shelf) (e : ShelfEvent) (r : Turn) : Type 0 where
  pub shelf : r.shelf ≡ held_after h (step_held h e)
  pub columns : r.columns ≡ columns_held h e (step_held h e)

-- `next_line` of the shelf trace s at a progress, with a shelf
abbrev pub WritesLine :
    (s : List ℕ) → Progress → Shelf → (before : List ℕ) → (at : ℕ) → Listed Shelf → (after : List ℕ) → Type 0
WritesLine s progress h before at r after = lines.WritesLine of_shelf s progress h before at r after
