-- What each public function promises, cited by its `ensures` and by `Determined` in Laws.
use Rattle.std.specs.Prelude.{◌≡◌, ℕ, Bool}
use Rattle.event.specs.Table.{stamp_of}
use Rattle.event.specs.declared.Event.{Event}
use Rattle.phy.specs.declared.Phy.{Phy}
use Rattle.bay.specs.State.{valid_of, unstamped, fresh_bay}
use Rattle.bay.specs.Step.{last_notice, step_of, move_of}
use Rattle.bay.specs.declared.Bay.{Bay}
use Rattle.bay.specs.declared.Report.{Report}
use Rattle.bay.specs.declared.Stepped.{Stepped}

-- the bay from a phy
abbrev pub MakesUnstamped : Phy → Bay → Type 0
MakesUnstamped p r = r ≡ unstamped p

-- `fresh`
abbrev pub StartsFresh : Bay → Type 0
StartsFresh r = r ≡ fresh_bay

-- `valid` of a bay
abbrev pub TellsValid : Bay → Bool → Type 0
TellsValid b r = r ≡ valid_of b

-- `step` of any bay and any event
abbrev pub Steps : Bay → Event → Stepped → Type 0
Steps b e r = r ≡ step_of b e

-- `moved`, the total move under a step
abbrev pub Moves : Bay → Event → Stepped → Type 0
Moves b e r = r ≡ move_of b e

-- `stamped` of any bay and any counter
abbrev pub TakesStamp : Bay → ℕ → Stepped → Type 0
TakesStamp b counter r = r ≡ step_of b (stamp_of counter)

-- `last_notice` of two
abbrev pub GivesLast : (first second : Report) → ℕ → Type 0
GivesLast first second r = r ≡ last_notice first second
