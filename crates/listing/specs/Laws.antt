-- What is promised of a phy's listing beyond the contracts. A heading names the files of proofs/.
use Rattle.std.specs.Prelude.{◌≡◌, ℕ, ◌≤◌, Bool, true, ◌↔◌, List, length}
use Rattle.table.specs.Results.{DeterminesLent}
use Rattle.event.specs.declared.Event.{Event}
use Rattle.trace.specs.Laws.{ReadsAll}
use Rattle.bay.specs.State.{fresh_bay}
use Rattle.bay.specs.declared.Bay.{Bay}
use Rattle.lines.specs.Lines.{end_line}
use Rattle.lines.specs.Listing.{most_trace, start_of}
use Rattle.lines.specs.Laws.{Listing, Lines, EndsWith}
use Rattle.lines.specs.declared.Progress.{Progress}
use Rattle.listing.specs.Listing.{of_phy, Lists}
use Rattle.listing.specs.Promises.{WritesLine}

-- ---- results are determined (proofs/Determined)

-- two results that `next_line` may give coincide, as do the buffers that it may leave
pub record Determined : Type 0 where
  pub next_line :
      (s : List ℕ) (progress : Progress) (b : Bay) (before : List ℕ) (at : ℕ)
      → DeterminesLent (WritesLine s progress b before at)

-- ---- the whole listing (proofs/Whole)

-- what holds of every listing holds of a phy's: it exists, once; its lines are it; its last line and its outcome tell
abbrev pub PhyListing : Type 0
PhyListing = Listing of_phy

-- ---- in the reader's words (proofs/Outcome)

-- a trace that is not too long and is read to its end without a fault
pub record Whole (s : List ℕ) : Type 0 where
  pub short : length s ≤ most_trace
  pub events : List Event
  pub read : ReadsAll s 0 events

-- the outcome after the lines from the start on tells whether the trace is whole
abbrev pub WholeExactly : Type 0
WholeExactly =
    (s bytes : List ℕ) (whole : Bool)
    → Lines of_phy s (start_of (length s)) fresh_bay whole bytes → whole ≡ true ↔ Whole s

-- the listing of a trace that is read without a fault ends with the trace's length and its number of events
abbrev pub EndTells : Type 0
EndTells =
    (s bytes : List ℕ) (es : List Event) → length s ≤ most_trace → ReadsAll s 0 es → Lists s bytes
    → EndsWith bytes (end_line (length s) (length es))
