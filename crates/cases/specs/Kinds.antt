-- The kinds of a case by number.
use Rattle.std.specs.Prelude.{ℕ, List, [], ◌∷◌, ◌≡◌, Result, Ok, Err}
use Rattle.table.specs.Choice.{Row, ◌⇒◌, rows}
use Rattle.cases.specs.declared.Kind.{Kind}
use Rattle.cases.specs.declared.Kind.TheVariants.{ReadNumber, WriteNumber, DwsWalk, IdentifyWalk, PhyWalk, BayWalk}
use Rattle.casefile.specs.declared.cases.UnknownKind.{UnknownKind}

-- the number of each, among those of all case programs
abbrev pub kind_rows : List (Row (Result Kind UnknownKind))
kind_rows =
    (1 ⇒ Ok ReadNumber)
    ∷ (2 ⇒ Ok WriteNumber)
    ∷ (3 ⇒ Ok DwsWalk)
    ∷ (4 ⇒ Ok IdentifyWalk)
    ∷ (5 ⇒ Ok PhyWalk)
    ∷ (11 ⇒ Ok BayWalk)
    ∷ []

-- the kind of a number, or that there is none
abbrev pub NamesKind : ℕ → Result Kind UnknownKind → Type 0
NamesKind n r = r ≡ rows n kind_rows (Err (record {}))
