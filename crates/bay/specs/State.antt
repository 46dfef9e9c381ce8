-- A bay is a phy with its recorder's clock: which records are valid, and the fresh one.
use Rattle.std.specs.Prelude.{ℕ, Bool, ◌&&◌, ◌==◌, nat_le}
use Rattle.table.specs.Choice.{split}
use Rattle.table.specs.Flags.{off, is_flag, is_on}
use Rattle.event.specs.Names.{most_counter}
use Rattle.phy.specs.Shapes.{fresh_phy}
use Rattle.phy.specs.State as phy
use Rattle.phy.specs.declared.Phy.{Phy}
use Rattle.bay.specs.declared.Bay.{Bay}

-- whether the base is set is a flag
abbrev pub valid_base_set : (baseSet : ℕ) → Bool
valid_base_set baseSet = is_flag baseSet

-- the base is in use where it is set, a counter of 32 bits; else it is zero
abbrev pub valid_base : (base baseSet : ℕ) → Bool
valid_base base baseSet = split (is_on baseSet) (nat_le base most_counter) (base == 0)

-- every rule holds
unfoldable pub valid_of : Bay → Bool
valid_of b = phy.valid_of b.phy && valid_base_set b.baseSet && valid_base b.base b.baseSet

-- a phy to which no stamp has come: the base is not set
abbrev pub unstamped : Phy → Bay
unstamped p = record { phy = p; base = 0; baseSet = off }

-- a fresh bay
abbrev pub fresh_bay : Bay
fresh_bay = unstamped fresh_phy
