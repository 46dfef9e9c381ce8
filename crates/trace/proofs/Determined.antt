-- Each result says one thing, so a contract that gives what is said gives the result.
use Prim.Native.Nat.{ℕ}
use mathlib.Core.Path.{◌≡◌, refl, ap}
use Rattle.std.specs.Prelude.{Some, None, Result, Ok, Err}
use Rattle.table.specs.Results.{TellsOnce}
use Rattle.table.specs.declared.Refusal.{Refusal}
use Rattle.table.proofs.Results.{leads_back, refusal_of, refusal_back, by_telling, by_equation, with_lent}
use Rattle.event.specs.declared.Event.{Event}
use Rattle.trace.specs.Reading.{ReadOf, Told, event, end, tells}
use Rattle.trace.specs.Reading as reading
use Rattle.trace.specs.Writing.{ToldWritten, wrote, tells_written}
use Rattle.trace.specs.Writing as writing
use Rattle.trace.specs.Laws.{Determined, ReachesTold}

-- what is said tells which result said it
answer : Told → ReadOf Event
answer (event e next) = Ok (Some (record { value = e; next = next }))
answer end = Ok None
answer (reading.refused n at) = Err (record { refusal = refusal_of n; place = at })

answers : (r : ReadOf Event) → answer (tells r) ≡ r
unfolding answer
answers (Ok (Some found)) = refl
answers (Ok None) = refl
answers (Err f) = ap (λ (refusal : Refusal). Err (record { refusal = refusal; place = f.place })) (refusal_back f.refusal)

pub read_once : TellsOnce tells
read_once = leads_back answer answers

answer_written : ToldWritten → Result ℕ Refusal
answer_written (wrote n) = Ok n
answer_written (writing.refused n) = Err (refusal_of n)

answers_written : (r : Result ℕ Refusal) → answer_written (tells_written r) ≡ r
unfolding answer_written
answers_written (Ok n) = refl
answers_written (Err refusal) = ap Err (refusal_back refusal)

pub written_once : TellsOnce tells_written
written_once = leads_back answer_written answers_written

pub reaches_told : ReachesTold
reaches_told (Ok (Some found)) place = refl
reaches_told (Ok None) place = refl
reaches_told (Err f) place = refl

pub determined : Determined
determined =
    record {
      read_once = read_once;
      written_once = written_once;
      event_at = λ s place. by_telling read_once _;
      place_reached = λ read place. by_equation _;
      write_event = λ e before place. with_lent written_once _ _;
      new = λ trace. by_equation _;
      next = λ before. with_lent read_once _ _;
    }
