-- The kinds of a case by number.
use Rattle.std.specs.Prelude.{ℕ, List, [], ◌∷◌, ◌≡◌, Result, Ok, Err}
use Rattle.table.specs.Choice.{Row, ◌⇒◌, rows}
use Rattle.trace_cases.specs.declared.Kind.{Kind}
use Rattle.trace_cases.specs.declared.Kind.TheVariants.{ReadEvent, WriteEvent, WholeTrace, Runs, Listing}
use Rattle.casefile.specs.declared.cases.UnknownKind.{UnknownKind}

-- the number of each, among those of all case programs
abbrev pub kind_rows : List (Row (Result Kind UnknownKind))
kind_rows =
    (6 ⇒ Ok ReadEvent)
    ∷ (7 ⇒ Ok WriteEvent)
    ∷ (8 ⇒ Ok WholeTrace)
    ∷ (9 ⇒ Ok Runs)
    ∷ (10 ⇒ Ok Listing)
    ∷ []

-- the kind of a number, or that there is none
abbrev pub NamesKind : ℕ → Result Kind UnknownKind → Type 0
NamesKind n r = r ≡ rows n kind_rows (Err (record {}))
