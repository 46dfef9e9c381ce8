-- Reading a number of a trace: groups of seven bits, lowest first, the high bit set if another follows.
use Rattle.std.specs.Prelude.{ℕ, zero, suc, ◌+◌, ◌-◌, ◌*◌, List, [], ◌∷◌, Result, Ok, Err, drop, ltb}
use Rattle.table.specs.Choice.{pick}
use Rattle.table.specs.Refusals.{cut, too_large, number_of}
use Rattle.table.specs.declared.Refusal.{Refusal}
use Rattle.number.specs.declared.Found.{Found}

-- what reading a number says: its value and the place after it, or the number of a refusal
pub data Told : Type 0 where
  value : ℕ → ℕ → Told
  refused : ℕ → Told

-- a group's weight against the one before it; as a byte, the high bit, set where another group follows
abbrev pub high : ℕ
high = 128

-- a number has at most this many groups after its first
abbrev pub most_later : ℕ
most_later = 9

-- the tenth byte b, judged whole: 0 and 1 end the number, above 1 it is Too large
unfoldable pub tenth_byte : (b next : ℕ) → Told
tenth_byte b next = pick (ltb 1 b) (refused too_large) (value b next)

-- the group g below all that the later groups say
abbrev pub below : ℕ → Told → Told
below g (value v next) = value (g + high * v) next
below g (refused n) = refused n

-- the groups from a place on, of which `later` may follow the one that stands there; the last may be zero
unfoldable pub groups : (later place : ℕ) → List ℕ → Told
groups later place [] = refused cut
groups zero place (b ∷ bs) = tenth_byte b (suc place)
groups (suc later) place (b ∷ bs) =
    pick (ltb b high) (value b (suc place)) (below (b - high) (groups later (suc place) bs))

-- the number at a place, which may lie anywhere
unfoldable pub read_number : List ℕ → ℕ → Told
read_number s place = groups most_later place (drop place s)

-- what each result says, as the paper numbers it
abbrev pub tells : Result (Found ℕ) Refusal → Told
tells (Ok found) = value found.value found.next
tells (Err refusal) = refused (number_of refusal)
