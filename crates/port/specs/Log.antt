-- The log of a port on any list of shelf events.
use Rattle.std.specs.Prelude.{ℕ, List, [], ◌∷◌}
use Rattle.event.specs.declared.ShelfEvent.{ShelfEvent}
use Rattle.port.specs.State.{Port}
use Rattle.port.specs.Step.{PortStepped, port_step_of}

-- the step of a shelf event
abbrev pub step_on : (limit : ℕ) → Port → ShelfEvent → PortStepped
step_on limit p e = port_step_of limit p e.number e.event

-- one event that came to a port, and what the step gave
pub record Entry : Type 0 where
  pub event : ShelfEvent
  pub result : PortStepped

-- a port on a list of shelf events, one entry each
abbrev pub log : (limit : ℕ) → Port → List ShelfEvent → List Entry
log limit p [] = []
log limit p (e ∷ es) = record { event = e; result = step_on limit p e } ∷ log limit (step_on limit p e).next es

-- the port after a list of shelf events
abbrev pub after : (limit : ℕ) → Port → List ShelfEvent → Port
after limit p [] = p
after limit p (e ∷ es) = after limit (step_on limit p e).next es
