-- A port as it is lent: a row of records, and a queue as numbers. What a step gives then, in numbers.
use Rattle.std.specs.Prelude.{ℕ, List, [], ◌∷◌, eqb}
use Rattle.table.specs.Choice.{pick}
use Rattle.table.specs.Refusals.{bad_state}
use Rattle.event.specs.declared.Event.{Event}
use Rattle.bay.specs.declared.Bay.{Bay}
use Rattle.queue.specs.Lent.{lent_as, queue_in, good_lent}
use Rattle.port.specs.Names.{most_phys, the_port}
use Rattle.port.specs.State.{Port}
use Rattle.port.specs.Step.{HandOut, PortStepped, refused, port_step_of}
use Rattle.port.specs.declared.Reports.{Reports}
use Rattle.port.specs.declared.Stepped.{Stepped}

-- the port of a row and of lent numbers
abbrev pub port_in : List Bay → List ℕ → Port
port_in bays numbers = record { bays = bays; queue = queue_in numbers }

-- its step: numbers that are no queue make it a bad state
unfoldable pub lent_step : List Bay → List ℕ → (number : ℕ) → Event → PortStepped
lent_step bays numbers number e =
    pick (good_lent numbers) (port_step_of most_phys (port_in bays numbers) number e)
    (refused (port_in bays numbers) bad_state)

-- the numbers afterwards; refused, they are as they were
abbrev pub numbers_after : List ℕ → PortStepped → List ℕ
numbers_after numbers r = pick (eqb r.reports.refusal 0) (lent_as r.next.queue) numbers

-- the phy that received an Open, 127 where none did, and what it sent
abbrev pub handed_to : List HandOut → ℕ
handed_to [] = the_port
handed_to (h ∷ hs) = h.phy

abbrev pub handedSent : List HandOut → ℕ
handedSent [] = 0
handedSent (h ∷ hs) = h.sent

-- what a step tells in numbers
abbrev pub tells_in : Reports → (handed handedSent : ℕ) → Stepped
tells_in reports handed handedSent = record { reports = reports; handed = handed; handedSent = handedSent }

abbrev pub tells : PortStepped → Stepped
tells r = tells_in r.reports (handed_to r.hand_outs) (handedSent r.hand_outs)
