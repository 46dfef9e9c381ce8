-- A row of flags: how many are set, the lowest of them, and all of them as one number.
use Rattle.std.specs.Prelude.{ℕ, suc, ◌+◌, ◌*◌, Bool, true, false, List, [], ◌∷◌}
use Rattle.table.specs.Flags.{flag_of}

-- how many are set
abbrev pub how_many : List Bool → ℕ
how_many [] = 0
how_many (b ∷ bs) = flag_of b + how_many bs

-- the number of the lowest that is set; where none is, as many as there are
abbrev pub lowest : List Bool → ℕ
lowest [] = 0
lowest (true ∷ bs) = 0
lowest (false ∷ bs) = suc (lowest bs)

-- as a number, a mask: a bit for each, the first the lowest
unfoldable pub mask_of : List Bool → ℕ
mask_of [] = 0
mask_of (b ∷ bs) = mask_of bs * 2 + flag_of b
