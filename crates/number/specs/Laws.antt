-- What is promised of numbers beyond the contracts. A heading names the files of proofs/.
use Rattle.std.specs.Prelude.{ℕ, ◌+◌, ◌*◌, ◌%◌, ◌^◌, ◌≤◌, ◌<◌, List, [], ◌∷◌, ◌++◌, map, ◌↔◌, ◌⊎◌, ◌≡◌, ltb, length}
use Rattle.std.specs.Prelude.{drop, replicate}
use Rattle.table.specs.Choice.{pick}
use Rattle.table.specs.Refusals.{cut, too_large, no_room}
use Rattle.table.specs.Results.{TellsOnce, Determines, DeterminesLent}
use Rattle.number.specs.Reading.{value, high, most_later, read_number, tells}
use Rattle.number.specs.Reading as reading
use Rattle.number.specs.Writing.{wrote, number_bytes, write_number, buffer_after, tells_written}
use Rattle.number.specs.Writing as writing
use Rattle.number.specs.Promises.{ReadsNumber, CountsBytes, WritesNumber}

-- ---- results are determined (proofs/Determined)

-- each result says one thing; two that a function may give coincide, as do the buffers that it may leave
pub record Determined : Type 0 where
  pub read_once : TellsOnce tells
  pub written_once : TellsOnce tells_written
  pub read_number : (s : List ℕ) (place : ℕ) → Determines (ReadsNumber s place)
  pub number_length : (v : ℕ) → Determines (CountsBytes v)
  pub write_number : (v : ℕ) (before : List ℕ) (place : ℕ) → DeterminesLent (WritesNumber v before place)

-- ---- reading and writing (proofs/RoundTrip, proofs/Refusals)

-- what is written at a place that has room is read back there, with the place after it
abbrev pub ReadBack : Type 0
ReadBack =
    (v : ℕ) (buffer : List ℕ) (place n : ℕ) → v < 2 ^ 64 → write_number v buffer place ≡ wrote n
    → read_number (buffer_after v buffer place) place ≡ value v (place + n)

-- a number read moves the place forward, by ten bytes at most, and stays within the slice
pub record MovesOn (s : List ℕ) (place next : ℕ) : Type 0 where
  pub forward : place < next
  pub few : next ≤ place + (most_later + 1)
  pub within : next ≤ length s

abbrev pub ReadMovesOn : Type 0
ReadMovesOn = (s : List ℕ) (place v next : ℕ) → read_number s place ≡ value v next → MovesOn s place next

-- ---- the shortest form (proofs/Shortest)

-- the value of groups, lowest first
abbrev pub value_of : List ℕ → ℕ
value_of [] = 0
value_of (g ∷ gs) = g + high * value_of gs

-- each group is of seven bits
abbrev pub Sevens : List ℕ → Type 0
Sevens [] = Unit
Sevens (g ∷ gs) = (g < high) × Sevens gs

-- a byte without its high bit
abbrev pub group : ℕ → ℕ
group b = b % high

-- groups as bytes: each but the last says that another follows
abbrev pub as_bytes : List ℕ → List ℕ
as_bytes [] = []
as_bytes (g ∷ []) = g ∷ []
as_bytes (g ∷ h ∷ gs) = (high + g) ∷ as_bytes (h ∷ gs)

-- the groups that are written for a value have that value
abbrev pub WritesValue : Type 0
WritesValue = (v : ℕ) → v < 2 ^ 64 → value_of (map group (number_bytes v)) ≡ v

-- one group or more that have a value are at least as many as are written for it
abbrev pub Fewest : Type 0
Fewest = (g : ℕ) (gs : List ℕ) → Sevens (g ∷ gs) → length (number_bytes (value_of (g ∷ gs))) ≤ length (g ∷ gs)

-- and where they are as few they are those: the shortest form is one
abbrev pub OneShortest : Type 0
OneShortest =
    (g : ℕ) (gs : List ℕ) → Sevens (g ∷ gs) → value_of (g ∷ gs) < 2 ^ 64
    → length (number_bytes (value_of (g ∷ gs))) ≡ length (g ∷ gs) → number_bytes (value_of (g ∷ gs)) ≡ as_bytes (g ∷ gs)

-- ---- whatever groups stand there (proofs/Padded, proofs/Refusals)

-- one to ten groups of seven bits stand at a place, zero groups at the end or none, whatever follows them
pub record GroupsStand (s : List ℕ) (place : ℕ) (gs : List ℕ) : Type 0 where
  pub some : 0 < length gs
  pub few : length gs ≤ most_later + 1
  pub sevens : Sevens gs
  pub rest : List ℕ
  pub whole : drop place s ≡ as_bytes gs ++ rest

-- they are read to their value, with the place after them; a value of 2^64 or more is Too large
abbrev pub GroupsRead : Type 0
GroupsRead =
    (s : List ℕ) (place : ℕ) (gs : List ℕ) → GroupsStand s place gs
    → read_number s place
    ≡ pick (ltb (value_of gs) (2 ^ 64)) (value (value_of gs) (place + length gs)) (reading.refused too_large)

-- groups that differ only by n zero groups at the end are read to the same value, each with the place after its own
abbrev pub PaddedAlike : Type 0
PaddedAlike =
    (s t : List ℕ) (place at : ℕ) (gs : List ℕ) (n v : ℕ)
    → GroupsStand s place gs → GroupsStand t at (gs ++ replicate n 0)
    → read_number s place ≡ value v (place + length gs) ↔ read_number t at ≡ value v (at + (length gs + n))

-- each is a byte
abbrev pub Bytes : List ℕ → Type 0
Bytes [] = Unit
Bytes (b ∷ bs) = (b < 256) × Bytes bs

-- groups of seven bits, as bytes, are bytes
abbrev pub GroupsAreBytes : Type 0
GroupsAreBytes = (gs : List ℕ) → Sevens gs → Bytes (as_bytes gs)

-- the value v, under 2^64, of groups that stand at a place, before the place `next`
pub record IsValue (s : List ℕ) (place v next : ℕ) : Type 0 where
  pub gs : List ℕ
  pub stands : GroupsStand s place gs
  pub says : v ≡ value_of gs
  pub small : v < 2 ^ 64
  pub far : next ≡ place + length gs

-- whatever is read without fault is the value of the groups that stand there
abbrev pub ReadIsValue : Type 0
ReadIsValue = (s : List ℕ) (place v next : ℕ) → Bytes s → read_number s place ≡ value v next → IsValue s place v next

-- ---- each refusal exactly when (proofs/Refusals)

-- each byte says that another follows
abbrev pub Followed : List ℕ → Type 0
Followed [] = Unit
Followed (b ∷ bs) = (high ≤ b) × Followed bs

-- 7: the bytes to the end are fewer than ten, and each says that another follows
pub record EndsEarly (bytes : List ℕ) : Type 0 where
  pub followed : Followed bytes
  pub few : length bytes ≤ most_later

abbrev pub CutExactly : Type 0
CutExactly = (s : List ℕ) (place : ℕ) → read_number s place ≡ reading.refused cut ↔ EndsEarly (drop place s)

-- 9: nine bytes say that another follows, and the tenth is 2 or more
pub record TenthTooLarge (bytes : List ℕ) : Type 0 where
  pub others : List ℕ
  pub tenth : ℕ
  pub rest : List ℕ
  pub whole : bytes ≡ others ++ (tenth ∷ rest)
  pub followed : Followed others
  pub nine : length others ≡ most_later
  pub large : 1 < tenth

abbrev pub TooLargeExactly : Type 0
TooLargeExactly =
    (s : List ℕ) (place : ℕ) → read_number s place ≡ reading.refused too_large ↔ TenthTooLarge (drop place s)

-- the reader gives no other refusal
abbrev pub RefusesNoOther : Type 0
RefusesNoOther =
    (s : List ℕ) (place n : ℕ) → read_number s place ≡ reading.refused n → (n ≡ cut) ⊎ (n ≡ too_large)

-- 10: the bytes of the value do not fit between the place and the buffer's end
abbrev pub NoRoomExactly : Type 0
NoRoomExactly =
    (v : ℕ) (buffer : List ℕ) (place : ℕ)
    → write_number v buffer place ≡ writing.refused no_room ↔ (length buffer < place + length (number_bytes v))

-- without room the buffer is as it was
abbrev pub NoRoomKeeps : Type 0
NoRoomKeeps =
    (v : ℕ) (buffer : List ℕ) (place : ℕ) → write_number v buffer place ≡ writing.refused no_room
    → buffer_after v buffer place ≡ buffer
