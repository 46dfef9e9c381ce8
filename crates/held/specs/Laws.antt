-- What is promised of a row beyond the contracts: they leave one result. A heading names the file of proofs/.
use Rattle.std.specs.Prelude.{ℕ, List}
use Rattle.table.specs.Results.{Determines, DeterminesLent}
use Rattle.event.specs.declared.Event.{Event}
use Rattle.bay.specs.declared.Bay.{Bay}
use Rattle.port.specs.declared.Stepped.{Stepped}
use Rattle.held.specs.Promises.{FreshRow, StepsRow}

-- ---- results are determined (proofs/Determined)

-- two results that a function may give coincide, as do the whole rows and the queues that it leaves
pub record Determined : Type 0 where
  pub fresh : Determines FreshRow
  pub step :
      (bays : List Bay) (count : ℕ) (queue : List ℕ) (number : ℕ) (e : Event)
      → DeterminesLent (λ (r : Stepped) (left : List Bay × List ℕ). StepsRow bays count queue number e r left.0 left.1)
