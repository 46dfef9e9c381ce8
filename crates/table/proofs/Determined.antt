-- A refusal's number leads back to it.
use Rattle.table.specs.Laws.{Determined}
use Rattle.table.proofs.Results.{by_equation, leads_back, refusal_of, refusal_back}

pub determined : Determined
determined = record { number = λ refusal. by_equation _; numbered_once = leads_back refusal_of refusal_back }
