-- Each contract gives its result as one value of a definition, so two results are equal to it and to each other.
use Rattle.table.proofs.Results.{by_equation}
use Rattle.bay.specs.Laws.{Determined}

pub determined : Determined
determined =
    record {
      unstamped = λ p. by_equation _;
      fresh = by_equation _;
      valid = λ b. by_equation _;
      stamped = λ b counter. by_equation _;
      moved = λ b e. by_equation _;
      step = λ b e. by_equation _;
      last_notice = λ first second. by_equation _;
    }
