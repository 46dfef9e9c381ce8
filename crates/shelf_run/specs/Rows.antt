-- A row's records in a table of fixed length, and a table's in a row.
use Rattle.std.specs.Prelude.{ℕ, List, ◌++◌, ltb, length, take, drop}
use Rattle.table.specs.Choice.{pick}
use Rattle.bay.specs.declared.Bay.{Bay}
use Rattle.port.specs.Names.{most_phys}

-- how many records of a row of n a table holds
unfoldable pub fitting : ℕ → ℕ
fitting n = pick (ltb n most_phys) n most_phys

-- a list whose first n records are another's
abbrev pub fronted : (n : ℕ) (news olds : List Bay) → List Bay
fronted n news olds = take n news ++ drop n olds

-- a table's records with those of a row put in front
unfoldable pub loaded : (row bays : List Bay) → List Bay
loaded row bays = fronted (fitting (length row)) row bays

-- a row's records with those of a table put in front
unfoldable pub stored : (row bays : List Bay) → List Bay
stored row bays = fronted (fitting (length row)) bays row
