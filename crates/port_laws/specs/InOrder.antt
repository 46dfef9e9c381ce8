-- The Opens that a port accepts are handed out in the order in which they came. The statement is proved in
-- proofs/InOrder.
use Rattle.std.specs.Prelude.{ℕ, List, [], ◌++◌, map, ◌≡◌}
use Rattle.table.specs.Choice.{pick}
use Rattle.event.specs.declared.Open.{Open}
use Rattle.event.specs.declared.ShelfEvent.{ShelfEvent}
use Rattle.bay_laws.specs.Spelled.{open_if, gathered}
use Rattle.port.specs.State.{fresh_port}
use Rattle.port.specs.Step.{HandOut, is_ports}
use Rattle.port.specs.Log.{Entry, log, after}

-- the Open of an event to the port itself that was not refused
abbrev pub ports_open : Entry → List Open
ports_open x = pick (is_ports x.event.number) (open_if x.event.event x.result.reports.refusal) []

-- the Opens that the port accepted, in order
abbrev pub accepted_by_port : List Entry → List Open
accepted_by_port xs = gathered ports_open xs

-- the Opens of hand-outs
abbrev pub requests_of : List HandOut → List Open
requests_of hs = map (λ h. h.request) hs

-- the Opens that were handed out, in order
abbrev pub handed_out : List Entry → List Open
handed_out xs = gathered (λ x. requests_of x.result.hand_outs) xs

-- what the port accepted is what was handed out and then what waits: each Open goes once, in its turn, and with the
-- arguments, the wait among them, that it came with
abbrev pub InOrder : Type 0
InOrder =
    (limit n : ℕ) (es : List ShelfEvent)
    → accepted_by_port (log limit (fresh_port n) es)
    ≡ handed_out (log limit (fresh_port n) es) ++ (after limit (fresh_port n) es).queue
