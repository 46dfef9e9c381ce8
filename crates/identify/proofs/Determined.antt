-- Each contract gives its result as one value of a definition, so two results are equal to it and to each other.
use Rattle.table.proofs.Results.{by_equation}
use Rattle.identify.specs.Laws.{Determined}

pub determined : Determined
determined =
    record {
      fresh = by_equation _;
      valid = λ i. by_equation _;
      step = λ i event argument. by_equation _;
    }
