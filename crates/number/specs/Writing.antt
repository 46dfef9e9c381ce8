-- Writing a number of a trace: the one shortest form, at a place of a lent buffer.
use Rattle.std.specs.Prelude.{ℕ, zero, suc, ◌+◌, ◌/◌, ◌%◌, Bool, List, [], ◌∷◌, Result, Ok, Err, length, leb, ltb}
use Rattle.std.proofs.lemmas.List.Edits.{sets}
use Rattle.table.specs.Choice.{pick}
use Rattle.table.specs.Refusals.{no_room, number_of}
use Rattle.table.specs.declared.Refusal.{Refusal}
use Rattle.number.specs.Reading.{high, most_later}

-- what writing a number says: how many bytes it wrote, or the number of a refusal
pub data ToldWritten : Type 0 where
  wrote : ℕ → ToldWritten
  refused : ℕ → ToldWritten

-- the bytes of v in at most `later` groups after the first: no further group once what is left is below 128
unfoldable pub bytes_of : (later : ℕ) → ℕ → List ℕ
bytes_of zero v = v ∷ []
bytes_of (suc later) v = pick (ltb v high) (v ∷ []) ((high + v % high) ∷ bytes_of later (v / high))

-- the bytes of a value
unfoldable pub number_bytes : ℕ → List ℕ
number_bytes v = bytes_of most_later v

-- whether the bytes of v fit into a buffer from a place on
abbrev pub fits : ℕ → List ℕ → ℕ → Bool
fits v buffer place = leb (place + length (number_bytes v)) (length buffer)

-- what the writer says
abbrev pub write_number : ℕ → List ℕ → ℕ → ToldWritten
write_number v buffer place = pick (fits v buffer place) (wrote (length (number_bytes v))) (refused no_room)

-- the buffer afterwards: the bytes of v at the place, all others as before; without room nothing is written
abbrev pub buffer_after : ℕ → List ℕ → ℕ → List ℕ
buffer_after v buffer place = pick (fits v buffer place) (sets buffer place (number_bytes v)) buffer

-- what each result says, as the paper numbers it
abbrev pub tells_written : Result ℕ Refusal → ToldWritten
tells_written (Ok n) = wrote n
tells_written (Err refusal) = refused (number_of refusal)
