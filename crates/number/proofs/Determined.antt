-- Each result says one thing, so a contract that gives what is said gives the result.
use Prim.Native.Nat.{ℕ}
use mathlib.Core.Path.{◌≡◌, refl, ap}
use Rattle.std.specs.Prelude.{Result, Ok, Err}
use Rattle.table.specs.Results.{TellsOnce}
use Rattle.table.proofs.Results.{leads_back, refusal_of, refusal_back, by_telling, by_equation, with_lent}
use Rattle.table.specs.declared.Refusal.{Refusal}
use Rattle.number.specs.Reading.{Told, value, tells}
use Rattle.number.specs.Reading as reading
use Rattle.number.specs.Writing.{ToldWritten, wrote, tells_written}
use Rattle.number.specs.Writing as writing
use Rattle.number.specs.Laws.{Determined}
use Rattle.number.specs.declared.Found.{Found}

-- what is said tells which result said it
answer : Told → Result (Found ℕ) Refusal
answer (value v next) = Ok (record { value = v; next = next })
answer (reading.refused n) = Err (refusal_of n)

answers : (r : Result (Found ℕ) Refusal) → answer (tells r) ≡ r
unfolding answer
answers (Ok found) = refl
answers (Err refusal) = ap Err (refusal_back refusal)

pub read_once : TellsOnce tells
read_once = leads_back answer answers

answer_written : ToldWritten → Result ℕ Refusal
answer_written (wrote n) = Ok n
answer_written (writing.refused n) = Err (refusal_of n)

answers_written : (r : Result ℕ Refusal) → answer_written (tells_written r) ≡ r
unfolding answer_written
answers_written (Ok n) = refl
answers_written (Err refusal) = ap Err (refusal_back refusal)

pub written_once : TellsOnce tells_written
written_once = leads_back answer_written answers_written

pub determined : Determined
determined =
    record {
      read_once = read_once;
      written_once = written_once;
      read_number = λ s place. by_telling read_once _;
      number_length = λ v. by_equation _;
      write_number = λ v before place. with_lent written_once _ _;
    }
