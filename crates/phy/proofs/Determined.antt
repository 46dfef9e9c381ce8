-- Each contract gives its result as one value of a definition, so two results are equal to it and to each other.
use Rattle.table.proofs.Results.{by_equation}
use Rattle.phy.specs.Laws.{Determined}

pub determined : Determined
determined =
    record {
      fresh = by_equation _;
      quiet = λ p. by_equation _;
      valid = λ p. by_equation _;
      last_tick = λ p. by_equation _;
      moved = λ p e. by_equation _;
      step = λ p e. by_equation _;
    }
