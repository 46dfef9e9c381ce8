-- Buffers of pieces, each a byte string that stands there a number of times; and a buffer in few numbers.
use Rattle.std.specs.Prelude.{ℕ, zero, suc, ◌+◌, ◌-◌, Bool, true, not, List, [], ◌∷◌, ◌++◌, eqb, take, drop}
use Rattle.table.specs.Choice.{pick}
use Rattle.casefile.specs.Reading.{Part, taken, part_at}

-- a byte string so many times
unfoldable pub repeated : (times : ℕ) → List ℕ → List ℕ
repeated zero piece = []
repeated (suc times) piece = piece ++ repeated times piece

-- the bytes of a part
abbrev pub bytes_of : List ℕ → Part → List ℕ
bytes_of s part = take (part.to - part.from) (drop part.from s)

-- a piece in a case file: how many times, and the byte string
abbrev pub string_at : List ℕ → ℕ → Part
string_at s place = part_at s (taken s place).next

abbrev pub piece_at : List ℕ → ℕ → List ℕ
piece_at s place = repeated (taken s place).value (bytes_of s (string_at s place))

-- so many pieces from a place on, end to end
unfoldable pub pieces_at : (count : ℕ) → List ℕ → ℕ → List ℕ
pieces_at zero s place = []
pieces_at (suc count) s place = piece_at s place ++ pieces_at count s (string_at s place).to

-- the place after so many pieces
unfoldable pub place_behind : (count : ℕ) → List ℕ → ℕ → ℕ
place_behind zero s place = place
place_behind (suc count) s place = place_behind count s (string_at s place).to

-- the pieces at a place, after their count
abbrev pub all_pieces : List ℕ → ℕ → List ℕ
all_pieces s place = pieces_at (taken s place).value s (taken s place).next

-- whether no further b follows
abbrev pub ends_run : ℕ → List ℕ → Bool
ends_run b [] = true
ends_run b (x ∷ xs) = not (eqb x b)

-- how many equal bytes stand together, and which, where so many have passed already
unfoldable pub pairs_after : (passed : ℕ) → List ℕ → List ℕ
pairs_after passed [] = []
pairs_after passed (b ∷ bytes) =
    pick (ends_run b bytes) ((passed + 1) ∷ b ∷ pairs_after 0 bytes) (pairs_after (passed + 1) bytes)
