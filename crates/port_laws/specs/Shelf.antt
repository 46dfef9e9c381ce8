-- The whole shelf in one balance. The statement is proved in proofs/Shelf.
use Rattle.std.specs.Prelude.{ℕ, ◌+◌, List, [], ◌∷◌, ◌≡◌, length}
use Rattle.table.specs.Choice.{pick}
use Rattle.event.specs.declared.Open.{Open}
use Rattle.event.specs.declared.ShelfEvent.{ShelfEvent}
use Rattle.ledger.specs.Demand.{one_if_waiting}
use Rattle.bay.specs.declared.Bay.{Bay}
use Rattle.bay_laws.specs.Spelled.{Answer, open_if, answer_if, gathered}
use Rattle.port.specs.State.{fresh_port}
use Rattle.port.specs.Step.{is_ports}
use Rattle.port.specs.Log.{Entry, log, after}
use Rattle.port_laws.specs.InOrder.{accepted_by_port}

-- the Open of a Tx Open straight to a phy that was not refused
abbrev pub straight_open : Entry → List Open
straight_open x = pick (is_ports x.event.number) [] (open_if x.event.event x.result.reports.refusal)

-- the Opens that phys accepted straight, in order
abbrev pub accepted_straight : List Entry → List Open
accepted_straight xs = gathered straight_open xs

-- every answer, in order
abbrev pub all_answers : List Entry → List Answer
all_answers xs = gathered (λ x. answer_if x.result.reports.answer.code x.result.reports.answered) xs

-- how many phys hold an Open that waits for its answer
abbrev pub held : List Bay → ℕ
held [] = 0
held (b ∷ bays) = one_if_waiting b.phy + held bays

-- the Opens that the port accepted and those that phys accepted straight are as many as the answers, the Opens that
-- phys hold and those in the queue
abbrev pub ShelfBalances : Type 0
ShelfBalances =
    (limit n : ℕ) (es : List ShelfEvent)
    → length (accepted_by_port (log limit (fresh_port n) es)) + length (accepted_straight (log limit (fresh_port n) es))
    ≡ length (all_answers (log limit (fresh_port n) es)) + held (after limit (fresh_port n) es).bays
    + length (after limit (fresh_port n) es).queue
