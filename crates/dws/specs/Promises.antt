-- What each public function promises, cited by its `ensures` and by `Determined` in Laws.
use Rattle.std.specs.Prelude.{ℕ, ◌≡◌}
use Rattle.dws.specs.Step.{fresh_state, step_of}
use Rattle.dws.specs.declared.Stepped.{Stepped}

-- `fresh`
abbrev pub StartsFresh : ℕ → Type 0
StartsFresh r = r ≡ fresh_state

-- `step` of a state and an event
abbrev pub Steps : ℕ → ℕ → Stepped → Type 0
Steps s event r = r ≡ step_of s event
