-- Each contract gives its result as one value of a definition, so two results are equal to it and to each other.
use Rattle.table.proofs.Results.{by_equation}
use Rattle.event.specs.Laws.{Determined}

pub determined : Determined
determined =
    record {
      known = λ e. by_equation _;
      known_in_trace = λ e. by_equation _;
      code_in_trace = λ code. by_equation _;
      argument_count = λ code. by_equation _;
      argument_range = λ code i. by_equation _;
      open_known = λ o. by_equation _;
      open_of = λ e. by_equation _;
      tx_open_of = λ o. by_equation _;
      numbers_of = λ o. by_equation _;
    }
