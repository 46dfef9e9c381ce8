-- What is promised of the refusals' numbers.
use Rattle.table.specs.Refusals.{number_of, TellsNumber}
use Rattle.table.specs.Results.{TellsOnce, Determines}
use Rattle.table.specs.declared.Refusal.{Refusal}

-- ---- results are determined (proofs/Determined)

-- a refusal has one number, and no two have the same
pub record Determined : Type 0 where
  pub number : (refusal : Refusal) → Determines (TellsNumber refusal)
  pub numbered_once : TellsOnce number_of
