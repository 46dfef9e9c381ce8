-- What stands in a case file: numbers in the trace's own form, and byte strings, each its length and then its bytes.
use Rattle.std.specs.Prelude.{ℕ, zero, suc, List, [], ◌∷◌, length}
use Rattle.number.specs.Reading.{Told, value, refused, read_number}
use Rattle.output.specs.Writing.{reached}
use Rattle.number.specs.declared.Found.{Found}

-- a part of a case file
pub record Part : Type 0 where
  pub from : ℕ
  pub to : ℕ

-- a number with the place after it; a fault is 0, and then comes the end of the file
abbrev pub taken_of : (end : ℕ) → Told → Found ℕ
taken_of end (value v next) = record { value = v; next = next }
taken_of end (refused n) = record { value = 0; next = end }

-- the number at a place
unfoldable pub taken : List ℕ → ℕ → Found ℕ
taken s place = taken_of (length s) (read_number s place)

-- the byte string at a place: after its length that many bytes, as far as the file has them
abbrev pub part_at : List ℕ → ℕ → Part
part_at s place =
    record {
      from = (taken s place).next;
      to = reached (length s) (taken s place).next (taken s place).value;
    }

-- so many numbers from a place on
unfoldable pub numbers_at : (count : ℕ) → List ℕ → ℕ → List ℕ
numbers_at zero s place = []
numbers_at (suc count) s place = (taken s place).value ∷ numbers_at count s (taken s place).next

-- the place after so many numbers
unfoldable pub place_after : (count : ℕ) → List ℕ → ℕ → ℕ
place_after zero s place = place
place_after (suc count) s place = place_after count s (taken s place).next
