-- What is promised of a shelf's listing beyond the contracts. A heading names the files of proofs/.
use Rattle.std.specs.Prelude.{◌≡◌, ℕ, ◌≤◌, Bool, true, ◌↔◌, List, length}
use Rattle.table.specs.Results.{Determines, DeterminesLent}
use Rattle.event.specs.declared.ShelfEvent.{ShelfEvent}
use Rattle.port.specs.Names.{most_phys}
use Rattle.shelf.specs.Laws.{ShelfReadsAll}
use Rattle.lines.specs.Lines.{end_line}
use Rattle.lines.specs.Listing.{most_trace, start_of}
use Rattle.lines.specs.Laws.{Listing, Lines, LinesFrom, EndsWith}
use Rattle.lines.specs.declared.Progress.{Progress}
use Rattle.shelf_listing.specs.Listing.{of_port, Lists}
use Rattle.shelf_listing.specs.Held.{fresh_shelf, of_shelf}
use Rattle.shelf_listing.specs.Promises.{Freshly, WritesLine}
use Rattle.shelf_listing.specs.declared.Shelf.{Shelf}

-- ---- results are determined (proofs/Determined)

-- two results that a function may give coincide, as do the buffers that it may leave
pub record Determined : Type 0 where
  pub fresh : (phys : ℕ) → Determines (Freshly phys)
  pub next_line :
      (s : List ℕ) (progress : Progress) (h : Shelf) (before : List ℕ) (at : ℕ)
      → DeterminesLent (WritesLine s progress h before at)

-- ---- the whole listing (proofs/Whole)

-- what holds of every listing holds of a port's: it exists, once; its lines are it; its last line and its outcome tell
abbrev pub PortListing : Type 0
PortListing = Listing of_port

-- the lines that the code makes from a fresh shelf on, one after the other, are the listing, and nothing else is
abbrev pub LinesAreListing : Type 0
LinesAreListing =
    (n : ℕ) (s bytes : List ℕ) → 1 ≤ n → n ≤ most_phys
    → LinesFrom of_shelf s (start_of (length s)) (fresh_shelf n) bytes ↔ Lists n s bytes

-- ---- in the reader's words (proofs/Outcome)

-- a shelf trace that is not too long and is read to its end without a fault
pub record Whole (s : List ℕ) : Type 0 where
  pub short : length s ≤ most_trace
  pub events : List ShelfEvent
  pub read : ShelfReadsAll s 0 events

-- the outcome after the lines from the start on tells whether the trace is whole
abbrev pub WholeExactly : Type 0
WholeExactly =
    (h : Shelf) (s bytes : List ℕ) (whole : Bool) → Lines of_shelf s (start_of (length s)) h whole bytes
    → whole ≡ true ↔ Whole s

-- the listing of a trace that is read without a fault ends with the trace's length and its number of events
abbrev pub EndTells : Type 0
EndTells =
    (n : ℕ) (s bytes : List ℕ) (es : List ShelfEvent) → length s ≤ most_trace → ShelfReadsAll s 0 es → Lists n s bytes
    → EndsWith bytes (end_line (length s) (length es))
