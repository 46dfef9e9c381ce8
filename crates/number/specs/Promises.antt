-- What each function promises, cited by its `ensures` and, of the public ones, by `Determined` in Laws.
use Rattle.std.specs.Prelude.{ℕ, List, ◌≡◌, Result, length}
use Rattle.table.specs.Results.{Leaves}
use Rattle.table.specs.declared.Refusal.{Refusal}
use Rattle.number.specs.Reading.{read_number, tells}
use Rattle.number.specs.Writing.{number_bytes, write_number, buffer_after, tells_written}
use Rattle.number.specs.declared.Found.{Found}

-- `read_number` of the slice s at a place
abbrev pub ReadsNumber : List ℕ → ℕ → Result (Found ℕ) Refusal → Type 0
ReadsNumber s place r = tells r ≡ read_number s place

-- `number_length` of v
abbrev pub CountsBytes : ℕ → ℕ → Type 0
CountsBytes v r = r ≡ length (number_bytes v)

-- `write_number` of v into the buffer `before` at a place, which leaves it as `after`
abbrev pub WritesNumber : (v : ℕ) (before : List ℕ) (place : ℕ) → Result ℕ Refusal → (after : List ℕ) → Type 0
WritesNumber v before place r after =
    Leaves (tells_written r) (write_number v before place) after (buffer_after v before place)
