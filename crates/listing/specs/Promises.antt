-- What `next_line` promises of a phy's listing, cited by `Determined` in Laws.
use Rattle.std.specs.Prelude.{ℕ, List}
use Rattle.bay.specs.declared.Bay.{Bay}
use Rattle.lines.specs.Promises as lines
use Rattle.lines.specs.declared.Progress.{Progress}
use Rattle.lines.specs.declared.listing.Listed.{Listed}
use Rattle.listing.specs.Listing.{of_phy}

-- `next_line` of the trace s at a progress, with a bay
abbrev pub WritesLine :
    (s : List ℕ) → Progress → Bay → (before : List ℕ) → (at : ℕ) → Listed Bay → (after : List ℕ) → Type 0
WritesLine s progress b before at r after = lines.WritesLine of_phy s progress b before at r after
