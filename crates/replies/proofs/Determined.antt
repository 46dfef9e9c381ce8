-- Each contract gives its result, and the buffer, as one value of a definition, so two are equal to it and to each other.
use Rattle.table.proofs.Results.{by_equation, by_equation_lent}
use Rattle.replies.specs.Laws.{Determined}

pub determined : Determined
determined =
    record {
      read_number = λ s place. by_equation _;
      write_number = λ v before place. by_equation_lent _ _;
      read_event = λ s place. by_equation _;
      write_event = λ e before place. by_equation_lent _ _;
      write_reply = λ written. by_equation _;
      stop_reply = λ stop. by_equation _;
      run = λ p s budget before. by_equation_lent _ _;
    }
