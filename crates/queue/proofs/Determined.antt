-- Each contract gives its result, or what it leaves, as one value of a definition, so two are equal to it and to each other.
use Rattle.table.proofs.Results.{by_equation}
use Rattle.queue.specs.Laws.{Determined}

pub determined : Determined
determined =
    record {
      judged = λ ns. by_equation _;
      oldest = λ ns. by_equation _;
      join = λ before waiting o. by_equation _;
      advance = λ before waiting. by_equation _;
    }
