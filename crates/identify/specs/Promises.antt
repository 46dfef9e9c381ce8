-- What each public function promises, cited by its `ensures` and by `Determined` in Laws.
use Rattle.std.specs.Prelude.{ℕ, Bool, ◌≡◌}
use Rattle.identify.specs.State.{valid_of}
use Rattle.identify.specs.Step as paper
use Rattle.identify.specs.declared.Identification.{Identification}
use Rattle.identify.specs.declared.Stepped.{Stepped}

-- `fresh`
abbrev pub StartsFresh : Identification → Type 0
StartsFresh r = r ≡ paper.fresh

-- `valid` of i
abbrev pub TellsValid : Identification → Bool → Type 0
TellsValid i r = r ≡ valid_of i

-- `step` of i by an event
abbrev pub Steps : Identification → (event argument : ℕ) → Stepped → Type 0
Steps i event argument r = r ≡ paper.step_of i event argument
