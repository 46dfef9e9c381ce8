-- A row of bays, held by value: how many it has, and which of them make a port.
use Rattle.std.specs.Prelude.{ℕ, suc, min, List, take, drop}
use Rattle.bay.specs.declared.Bay.{Bay}
use Rattle.port.specs.Names.{most_phys}

-- the bays of a row: one more than a port may have
abbrev pub most_held : ℕ
most_held = suc most_phys

-- how many of them count, where so many are asked for
abbrev pub shown : (count : ℕ) → ℕ
shown count = min count most_held

-- the bays that count: they make a port
abbrev pub front : (count : ℕ) → List Bay → List Bay
front count bays = take (shown count) bays

-- those that do not
abbrev pub behind : (count : ℕ) → List Bay → List Bay
behind count bays = drop (shown count) bays
