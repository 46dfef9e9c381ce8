-- Identification over a list of events, any numbers among them.
use Rattle.std.specs.Prelude.{ℕ, zero, suc, ◌+◌, Bool, false, ◌&&◌, List, [], ◌∷◌, ◌≡◌, eqb, leb}
use Rattle.table.specs.Choice.{pick}
use Rattle.identify.specs.Names.{complete, own_frame_sent, tick, enable}
use Rattle.identify.specs.Step.{known_of, step_of}
use Rattle.identify.specs.declared.Identification.{Identification}
use Rattle.identify.specs.declared.Stepped.{Stepped}

-- an event's code and its argument
pub record Event : Type 0 where
  pub code : ℕ
  pub argument : ℕ

-- the step by an event
abbrev pub step_by : Identification → Event → Stepped
step_by i e = step_of i e.code e.argument

-- what each event gives, each from the state that the one before it left
unfoldable pub results : Identification → List Event → List Stepped
results i [] = []
results i (e ∷ es) = step_by i e ∷ results (step_by i e).next es

-- how many of the results report an outcome
abbrev pub outcomes_in : List Stepped → ℕ
outcomes_in [] = 0
outcomes_in (s ∷ ss) = pick (leb complete s.report) 1 0 + outcomes_in ss

-- a known Enable; with an argument it is refused
abbrev pub is_enable : Event → Bool
is_enable e = eqb e.code enable && known_of e.code e.argument

-- no Enable is among the events
abbrev pub NoEnable : List Event → Type 0
NoEnable [] = Unit
NoEnable (e ∷ es) = (is_enable e ≡ false) × NoEnable es

-- the state when our own frame has been sent
abbrev pub after_sent : Identification → Identification
after_sent i = (step_of i own_frame_sent 0).next

-- the state after n ticks
unfoldable pub after_ticks : ℕ → Identification → Identification
after_ticks zero i = i
after_ticks (suc n) i = (step_of (after_ticks n i) tick 0).next
