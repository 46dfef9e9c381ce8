-- What is promised of a phy beyond the contracts: each determines its result (proofs/Determined). What holds of every
-- step stands in the crate `phy_laws`.
use Rattle.table.specs.Results.{Determines}
use Rattle.event.specs.declared.Event.{Event}
use Rattle.phy.specs.Promises.{StartsFresh, StaysQuiet, TellsValid, EndsState, Moves, Steps}
use Rattle.phy.specs.declared.Phy.{Phy}

-- two results that a function may give coincide
pub record Determined : Type 0 where
  pub fresh : Determines StartsFresh
  pub quiet : (p : Phy) → Determines (StaysQuiet p)
  pub valid : (p : Phy) → Determines (TellsValid p)
  pub last_tick : (p : Phy) → Determines (EndsState p)
  pub moved : (p : Phy) (e : Event) → Determines (Moves p e)
  pub step : (p : Phy) (e : Event) → Determines (Steps p e)
