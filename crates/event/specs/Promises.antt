-- What each public function promises, cited by its `ensures` and by `Determined` in Laws.
use Rattle.std.specs.Prelude.{ℕ, Bool, List, ◌≡◌}
use Rattle.event.specs.Table.{argument_count, argument_range, code_in_trace, known_of, known_in_trace, open_known}
use Rattle.event.specs.Table.{open_of, numbers_of, tx_open_of}
use Rattle.event.specs.declared.Range.{Range}
use Rattle.event.specs.declared.Event.{Event}
use Rattle.event.specs.declared.Open.{Open}

-- `known` of an event
abbrev pub TellsKnown : Event → Bool → Type 0
TellsKnown e r = r ≡ known_of e

-- `known_in_trace` of an event
abbrev pub TellsKnownInTrace : Event → Bool → Type 0
TellsKnownInTrace e r = r ≡ known_in_trace e

-- `code_in_trace` of a code
abbrev pub TellsCodeInTrace : ℕ → Bool → Type 0
TellsCodeInTrace code r = r ≡ code_in_trace code

-- `argument_count` of a code
abbrev pub CountsArguments : ℕ → ℕ → Type 0
CountsArguments code r = r ≡ argument_count code

-- `argument_range` of a code's argument, counted from 0
abbrev pub GivesRange : ℕ → ℕ → Range → Type 0
GivesRange code i r = r ≡ argument_range code i

-- `open_known` of an Open
abbrev pub TellsOpenKnown : Open → Bool → Type 0
TellsOpenKnown o r = r ≡ open_known o

-- the Open from an event
abbrev pub MakesOpen : Event → Open → Type 0
MakesOpen e r = r ≡ open_of e

-- the numbers from an Open
abbrev pub ListsOpen : Open → List ℕ → Type 0
ListsOpen o r = r ≡ numbers_of o

-- the Tx Open from an Open
abbrev pub MakesTxOpen : Open → Event → Type 0
MakesTxOpen o r = r ≡ tx_open_of o
