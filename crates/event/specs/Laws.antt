-- What is promised of events beyond the contracts. A heading names the file of proofs/.
use Rattle.std.specs.Prelude.{ℕ, ◌≤◌, true, false, ◌↔◌, ◌⊎◌, ◌≡◌}
use Rattle.table.specs.Results.{Determines}
use Rattle.event.specs.Names.{most_counter}
use Rattle.event.specs.Table.{known_of, known_in_trace, stamp_of}
use Rattle.event.specs.Promises.{TellsKnown, TellsKnownInTrace, TellsCodeInTrace, CountsArguments, GivesRange}
use Rattle.event.specs.Promises.{TellsOpenKnown, MakesOpen, MakesTxOpen, ListsOpen}
use Rattle.event.specs.declared.Event.{Event}
use Rattle.event.specs.declared.Open.{Open}

-- ---- results are determined (proofs/Determined)

-- two results that a function may give coincide
pub record Determined : Type 0 where
  pub known : (e : Event) → Determines (TellsKnown e)
  pub known_in_trace : (e : Event) → Determines (TellsKnownInTrace e)
  pub code_in_trace : (code : ℕ) → Determines (TellsCodeInTrace code)
  pub argument_count : (code : ℕ) → Determines (CountsArguments code)
  pub argument_range : (code i : ℕ) → Determines (GivesRange code i)
  pub open_known : (o : Open) → Determines (TellsOpenKnown o)
  pub open_of : (e : Event) → Determines (MakesOpen e)
  pub tx_open_of : (o : Open) → Determines (MakesTxOpen o)
  pub numbers_of : (o : Open) → Determines (ListsOpen o)

-- ---- events of a trace and of a phy (proofs/InTrace)

-- a time stamp: its counter has 32 bits, and there is no other argument
pub record IsStamp (e : Event) : Type 0 where
  pub nothing_else : e ≡ stamp_of e.first
  pub counter : e.first ≤ most_counter

-- an event may stand in a trace exactly where a phy knows it or it is a time stamp
abbrev pub InTraceExactly : Type 0
InTraceExactly = (e : Event) → known_in_trace e ≡ true ↔ ((known_of e ≡ true) ⊎ IsStamp e)

-- and no phy knows a time stamp
abbrev pub NoPhyKnowsStamps : Type 0
NoPhyKnowsStamps = (counter : ℕ) → known_of (stamp_of counter) ≡ false
