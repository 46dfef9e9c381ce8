-- A port: its bays, the Opens that wait, and which ports are valid.
use Rattle.std.specs.Prelude.{ℕ, Bool, true, ◌&&◌, ◌||◌, List, [], ◌∷◌, map, eqb, leb, length, replicate}
use Rattle.event.specs.Table.{open_known}
use Rattle.event.specs.declared.Open.{Open}
use Rattle.phy.specs.Names.{L0, P1}
use Rattle.bay.specs.State as bay
use Rattle.bay.specs.State.{fresh_bay}
use Rattle.bay.specs.declared.Bay.{Bay}
use Rattle.queue.specs.Lent.{most_waiting}
use Rattle.port.specs.Flags.{how_many}

-- its bays, and the Opens that wait, the oldest first
pub record Port : Type 0 where
  pub bays : List Bay
  pub queue : List Open

-- a free phy: P1 with L0
unfoldable pub is_free : Bay → Bool
is_free b = eqb b.phy.link L0 && eqb b.phy.port P1

-- of each phy, whether it is free
abbrev pub free_of : List Bay → List Bool
free_of bays = map is_free bays

-- how many are free
abbrev pub free_phys : List Bay → ℕ
free_phys bays = how_many (free_of bays)

-- each of a list passes a test
abbrev pub all_pass : {A : Type 0} → (A → Bool) → List A → Bool
all_pass test [] = true
all_pass test (a ∷ rest) = test a && all_pass test rest

-- at least one phy, and no more than a limit
abbrev pub valid_count : (limit : ℕ) → List Bay → Bool
valid_count limit bays = leb 1 (length bays) && leb (length bays) limit

-- at most 32 Opens wait, each with its arguments in range
abbrev pub valid_queue : List Open → Bool
valid_queue queue = leb (length queue) most_waiting && all_pass open_known queue

-- no Open waits beside a free phy
abbrev pub none_beside : Port → Bool
none_beside p = eqb (length p.queue) 0 || eqb (free_phys p.bays) 0

-- every rule holds
unfoldable pub valid_of : (limit : ℕ) → Port → Bool
valid_of limit p =
    valid_count limit p.bays && all_pass bay.valid_of p.bays && valid_queue p.queue && none_beside p

-- a fresh port of n phys: every bay is fresh, and no Open waits
abbrev pub fresh_port : (n : ℕ) → Port
fresh_port n = record { bays = replicate n fresh_bay; queue = [] }
