-- A flag is a number, so that a record lent by a C caller has its type whatever it holds.
use Rattle.std.specs.Prelude.{ℕ, Bool, eqb, leb}
use Rattle.table.specs.Choice.{pick}

-- what a flag says does not hold
abbrev pub off : ℕ
off = 0

-- it holds
abbrev pub on : ℕ
on = 1

-- no other number is a flag
abbrev pub is_flag : ℕ → Bool
is_flag n = leb n on

-- a flag is on
abbrev pub is_on : ℕ → Bool
is_on n = eqb n on

-- the flag that is on exactly where a test holds
abbrev pub flag_of : Bool → ℕ
flag_of test = pick test on off
