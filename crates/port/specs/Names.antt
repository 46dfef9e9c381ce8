-- The paper's numbers of a port.
use Rattle.std.specs.Prelude.{ℕ}

-- the most phys of a port
abbrev pub most_phys : ℕ
most_phys = 8

-- the number of the port itself
abbrev pub the_port : ℕ
the_port = 127
