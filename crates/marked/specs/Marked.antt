-- The marked cases M1 to M12, as one list: what the definitions give beside what the paper says.
use Rattle.std.specs.Prelude.{ℕ, ◌+◌, List, [], ◌∷◌, ◌++◌, map, ◌≡◌, replicate}
use Rattle.table.specs.Choice.{pick}
use Rattle.table.specs.Refusals.{busy}
use Rattle.number.specs.Reading.{Told, value, refused, read_number}
use Rattle.number.specs.Writing.{number_bytes}
use Rattle.dws.specs.Names.{sync_acquired, acquire_sync, invalid_dword, data_dword, primitive}
use Rattle.dws.specs.Laws.{run}
use Rattle.event.specs.Table.{event_of}
use Rattle.event.specs.Names.{SSP, cancel_open, accept_opens, open_received, aip_received, break_received, tick}
use Rattle.event.specs.declared.Event.{Event}
use Rattle.phy.specs.Names.{answer_collided, answer_opened_by_destination, answer_opened_by_other, answer_open_timeout}
use Rattle.phy.specs.Names.{answer_port_layer_request}
use Rattle.ledger.specs.Log.{Entry, answered, ticked}
use Rattle.ledger.specs.Demand.{plain, open_to, log_of}

-- a case: its number, what the definitions give, what the paper says
pub record Case : Type 0 where
  pub number : ℕ
  pub given : List ℕ
  pub said : List ℕ

-- a case as it is written
abbrev pub gives : (number : ℕ) (given said : List ℕ) → Case
gives number given said = record { number = number; given = given; said = said }

-- ---- events

-- an OPEN received from a source
abbrev pub open_from : ℕ → Event
open_from source = event_of open_received (source ∷ SSP ∷ [])

abbrev pub ticks : ℕ → List Event
ticks n = replicate n (plain tick)

-- ---- what is read off a log

-- the code and the wait of each answer
abbrev pub answers_in : List Entry → List ℕ
answers_in [] = []
answers_in (x ∷ xs) = pick (answered x) (x.result.answer ∷ x.result.answered.wait ∷ []) [] ++ answers_in xs

-- the code of each answer, and the tick at which it came, after n ticks
abbrev pub answers_at : (n : ℕ) → List Entry → List ℕ
answers_at n [] = []
answers_at n (x ∷ xs) =
    pick (answered x) (x.result.answer ∷ (n + pick (ticked x) 1 0) ∷ []) [] ++ answers_at (n + pick (ticked x) 1 0) xs

-- each refusal
abbrev pub refusals_in : List Entry → List ℕ
refusals_in xs = map (λ x. x.result.refusal) xs

-- what reading a number says, as numbers
abbrev pub numbers_of : Told → List ℕ
numbers_of (value v next) = 0 ∷ v ∷ next ∷ []
numbers_of (refused n) = n ∷ []

-- the answers, with their waits, to events from a fresh phy
unfoldable pub answers_to : List Event → List ℕ
answers_to es = answers_in (log_of es)

-- the answers, each with its tick
unfoldable pub answers_timed : List Event → List ℕ
answers_timed es = answers_at 0 (log_of es)

-- the refusals
unfoldable pub refusals_to : List Event → List ℕ
refusals_to es = refusals_in (log_of es)

-- ---- the cases

-- DWS at 3: invalid, valid, valid is 3
abbrev pub M1 : Case
M1 = gives 1 (run sync_acquired (invalid_dword ∷ data_dword ∷ primitive ∷ []) ∷ []) (sync_acquired ∷ [])

-- DWS at 3: the pair invalid, valid three times, then invalid, is 0
abbrev pub M2 : Case
M2 =
    gives 2
    (run sync_acquired
    (invalid_dword ∷ data_dword ∷ invalid_dword ∷ data_dword ∷ invalid_dword ∷ data_dword ∷ invalid_dword ∷ []) ∷ [])
    (acquire_sync ∷ [])

-- Tx Open and 1,999 ticks: no answer
abbrev pub M3 : Case
M3 = gives 3 (answers_to (open_to 5 ∷ ticks 1999)) []

-- one tick more: 69, with a wait of 1,000
abbrev pub M4 : Case
M4 = gives 4 (answers_to (open_to 5 ∷ ticks 2000)) (answer_open_timeout ∷ 1000 ∷ [])

-- Tx Open, 999 ticks, an AIP, 2,000 ticks: 69 at tick 2,999
abbrev pub M5 : Case
M5 =
    gives 5 (answers_timed (open_to 5 ∷ (ticks 999 ++ (plain aip_received ∷ ticks 2000))))
    (answer_open_timeout ∷ 2999 ∷ [])

-- Accept, OPEN from 7, Tx Open to 7, tick: 52, with a wait of 1
abbrev pub M6 : Case
M6 =
    gives 6
    (answers_to (plain accept_opens ∷ open_from 7 ∷ open_to 7 ∷ plain tick ∷ []))
    (answer_opened_by_destination ∷ 1 ∷ [])

-- the same with a Tx Open to 8: 53
abbrev pub M7 : Case
M7 =
    gives 7 (answers_to (plain accept_opens ∷ open_from 7 ∷ open_to 8 ∷ plain tick ∷ []))
    (answer_opened_by_other ∷ 1 ∷ [])

-- OPEN, BREAK, Tx Open, tick: 51
abbrev pub M8 : Case
M8 = gives 8 (answers_to (open_from 7 ∷ plain break_received ∷ open_to 5 ∷ plain tick ∷ [])) (answer_collided ∷ 1 ∷ [])

-- Tx Open, Cancel, BREAK: 71
abbrev pub M9 : Case
M9 =
    gives 9 (answers_to (open_to 5 ∷ plain cancel_open ∷ plain break_received ∷ []))
    (answer_port_layer_request ∷ 0 ∷ [])

-- Tx Open twice: the second is refused with 3
abbrev pub M10 : Case
M10 = gives 10 (refusals_to (open_to 5 ∷ open_to 5 ∷ [])) (0 ∷ busy ∷ [])

-- 300 is AC 02: written so, and read back with the place after it
abbrev pub M11 : Case
M11 = gives 11 (number_bytes 300 ++ numbers_of (read_number (0xAC ∷ 0x02 ∷ []) 0)) (0xAC ∷ 0x02 ∷ 0 ∷ 300 ∷ 2 ∷ [])

-- 80 00 is 0, padded: read with the place after it
abbrev pub M12 : Case
M12 = gives 12 (numbers_of (read_number (0x80 ∷ 0x00 ∷ []) 0)) (0 ∷ 0 ∷ 2 ∷ [])

abbrev pub marked : List Case
marked = M1 ∷ M2 ∷ M3 ∷ M4 ∷ M5 ∷ M6 ∷ M7 ∷ M8 ∷ M9 ∷ M10 ∷ M11 ∷ M12 ∷ []

-- in every case the definitions give what the paper says
abbrev pub AllMarked : Type 0
AllMarked = map (λ c. c.given) marked ≡ map (λ c. c.said) marked
