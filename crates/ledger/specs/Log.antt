-- The log of a phy on any list of events: what demand 3 is stated over.
use Rattle.std.specs.Prelude.{ℕ, ◌+◌, Bool, ◌&&◌, not, List, [], ◌∷◌, eqb}
use Rattle.table.specs.Choice.{pick}
use Rattle.event.specs.Names.{tx_open, aip_received, tick}
use Rattle.event.specs.declared.Event.{Event}
use Rattle.phy.specs.Names.{P2}
use Rattle.phy.specs.declared.Phy.{Phy}
use Rattle.phy.specs.declared.Stepped.{Stepped}

-- one event: the event, what the step gave, and the port state when it came
pub record Entry : Type 0 where
  pub event : Event
  pub result : Stepped
  pub port : ℕ

-- a step of a phy by an event; ours, or another's
abbrev pub Step : Type 0
Step = Phy → Event → Stepped

-- the entry of an event that comes to a phy
abbrev pub entry : Step → Phy → Event → Entry
entry step p e = record { event = e; result = step p e; port = p.port }

-- a phy on a list of events, one entry each
abbrev pub log : Step → Phy → List Event → List Entry
log step p [] = []
log step p (e ∷ es) = entry step p e ∷ log step (step p e).next es

-- the phy after a list of events
abbrev pub after : Step → Phy → List Event → Phy
after step p [] = p
after step p (e ∷ es) = after step (step p e).next es

-- an event that was not refused and has this code
abbrev pub not_refused : (code : ℕ) → Entry → Bool
not_refused code x = eqb x.event.code code && eqb x.result.refusal 0

-- an Open is accepted; an Open is answered
abbrev pub accepted : Entry → Bool
accepted x = not_refused tx_open x

abbrev pub answered : Entry → Bool
answered x = not (eqb x.result.answer 0)

-- how many entries of a list pass a test
abbrev pub many : (Entry → Bool) → List Entry → ℕ
many test [] = 0
many test (x ∷ xs) = pick (test x) 1 0 + many test xs

-- ticks, ticks that came in P2, and AIPs; refused events count as none of these
abbrev pub ticked : Entry → Bool
ticked x = not_refused tick x

abbrev pub ticked_in_p2 : Entry → Bool
ticked_in_p2 x = not_refused tick x && eqb x.port P2

abbrev pub heard_aip : Entry → Bool
heard_aip x = not_refused aip_received x
