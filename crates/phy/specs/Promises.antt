-- What each public function promises, cited by its `ensures` and by `Determined` in Laws.
use Rattle.std.specs.Prelude.{Bool, ◌≡◌}
use Rattle.event.specs.declared.Event.{Event}
use Rattle.phy.specs.Shapes.{fresh_phy, quiet}
use Rattle.phy.specs.State.{valid_of}
use Rattle.phy.specs.Ticks.{last_tick}
use Rattle.phy.specs.Step.{move_of, step_of}
use Rattle.phy.specs.declared.Phy.{Phy}
use Rattle.phy.specs.declared.Stepped.{Stepped}

-- `fresh`
abbrev pub StartsFresh : Phy → Type 0
StartsFresh r = r ≡ fresh_phy

-- `quiet` of a phy
abbrev pub StaysQuiet : Phy → Stepped → Type 0
StaysQuiet p r = r ≡ quiet p

-- `valid` of a phy
abbrev pub TellsValid : Phy → Bool → Type 0
TellsValid p r = r ≡ valid_of p

-- `moved`, the total move under a step
abbrev pub Moves : Phy → Event → Stepped → Type 0
Moves p e r = r ≡ move_of p e

-- `last_tick` of a phy whose wait has risen
abbrev pub EndsState : Phy → Stepped → Type 0
EndsState p r = r ≡ last_tick p

-- `step` of any phy and any event
abbrev pub Steps : Phy → Event → Stepped → Type 0
Steps p e r = r ≡ step_of p e
