-- The kinds of a case by number.
use Rattle.std.specs.Prelude.{ℕ, List, [], ◌∷◌, ◌≡◌, Result, Ok, Err}
use Rattle.table.specs.Choice.{Row, ◌⇒◌, rows}
use Rattle.shelf_cases.specs.declared.Kind.{Kind}
use Rattle.shelf_cases.specs.declared.Kind.TheVariants.{ReadEvent, WriteEvent, PortWalk, Runs}
use Rattle.casefile.specs.declared.cases.UnknownKind.{UnknownKind}

-- the number of each, among those of all case programs
abbrev pub kind_rows : List (Row (Result Kind UnknownKind))
kind_rows = (12 ⇒ Ok ReadEvent) ∷ (13 ⇒ Ok WriteEvent) ∷ (14 ⇒ Ok PortWalk) ∷ (15 ⇒ Ok Runs) ∷ []

-- the kind of a number, or that there is none
abbrev pub NamesKind : ℕ → Result Kind UnknownKind → Type 0
NamesKind n r = r ≡ rows n kind_rows (Err (record {}))
