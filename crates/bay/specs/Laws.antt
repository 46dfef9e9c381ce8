-- What is promised of a bay beyond the contracts: each determines its result (proofs/Determined). What holds of every
-- step, and of every gap, stands in the crate `bay_laws`.
use Rattle.std.specs.Prelude.{ℕ}
use Rattle.table.specs.Results.{Determines}
use Rattle.event.specs.declared.Event.{Event}
use Rattle.phy.specs.declared.Phy.{Phy}
use Rattle.bay.specs.Promises.{MakesUnstamped, StartsFresh, TellsValid, TakesStamp, Moves, Steps, GivesLast}
use Rattle.bay.specs.declared.Bay.{Bay}
use Rattle.bay.specs.declared.Report.{Report}

-- two results that a function may give coincide
pub record Determined : Type 0 where
  pub unstamped : (p : Phy) → Determines (MakesUnstamped p)
  pub fresh : Determines StartsFresh
  pub valid : (b : Bay) → Determines (TellsValid b)
  pub stamped : (b : Bay) (counter : ℕ) → Determines (TakesStamp b counter)
  pub moved : (b : Bay) (e : Event) → Determines (Moves b e)
  pub step : (b : Bay) (e : Event) → Determines (Steps b e)
  pub last_notice : (first second : Report) → Determines (GivesLast first second)
