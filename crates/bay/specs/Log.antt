-- The log of a bay on any list of events: what a run writes, and what demand 3 is carried to.
use Rattle.std.specs.Prelude.{List, [], ◌∷◌}
use Rattle.event.specs.declared.Event.{Event}
use Rattle.bay.specs.Step.{step_of}
use Rattle.bay.specs.declared.Bay.{Bay}
use Rattle.bay.specs.declared.Stepped.{Stepped}

-- one event that came to a bay, and what the step gave
pub record Entry : Type 0 where
  pub event : Event
  pub result : Stepped

-- a bay on a list of events, one entry each
abbrev pub log : Bay → List Event → List Entry
log b [] = []
log b (e ∷ es) = record { event = e; result = step_of b e } ∷ log (step_of b e).next es

-- the bay after a list of events
abbrev pub after : Bay → List Event → Bay
after b [] = b
after b (e ∷ es) = after (step_of b e).next es
