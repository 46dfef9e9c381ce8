-- Numbers as text.
use Rattle.std.specs.Prelude.{ℕ, zero, suc, ◌+◌, ◌/◌, ◌%◌, List, [], ◌∷◌, ◌++◌, ltb}
use Rattle.table.specs.Choice.{pick}

-- the ASCII code of a digit, from 0 on
abbrev pub digit : ℕ → ℕ
digit d = 48 + d

-- the decimal digits of n, the last one and at most `more` before it
unfoldable pub digits_of : (more : ℕ) → ℕ → List ℕ
digits_of zero n = digit n ∷ []
digits_of (suc more) n = pick (ltb n 10) (digit n ∷ []) (digits_of more (n / 10) ++ (digit (n % 10) ∷ []))

-- n in decimal, with no zero in front: it has no more than n digits before its last
unfoldable pub decimal : ℕ → List ℕ
decimal n = digits_of n n
