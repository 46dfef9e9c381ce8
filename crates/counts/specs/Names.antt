-- The numbers of the counters: their rows, their columns, and where each stops.
use Rattle.std.specs.Prelude.{ℕ, suc, List, [], ◌∷◌, eqb, get_or}
use Rattle.table.specs.Choice.{pick}
use Rattle.phy.specs.Names.{answer_opened, answer_retry, answer_no_destination, answer_pathway_blocked, answer_collided}
use Rattle.phy.specs.Names.{answer_opened_by_destination, answer_opened_by_other, answer_bad_destination, answer_rate}
use Rattle.phy.specs.Names.{answer_protocol, answer_stp_busy, answer_wrong_destination, answer_open_timeout}
use Rattle.phy.specs.Names.{answer_break_received, answer_port_layer_request, answer_terminated}
use Rattle.port.specs.Names.{most_phys}

-- a row for each bay that a port may have
abbrev pub row_count : ℕ
row_count = most_phys

-- a counter for each answer
abbrev pub column_count : ℕ
column_count = 16

-- a counter stops here
abbrev pub ceiling : ℕ
ceiling = 4294967295

-- the answers, one for each column, in ascending order of their codes
abbrev pub answers : List ℕ
answers =
    answer_opened ∷ answer_retry ∷ answer_no_destination ∷ answer_pathway_blocked ∷ answer_collided
    ∷ answer_opened_by_destination ∷ answer_opened_by_other ∷ answer_bad_destination ∷ answer_rate ∷ answer_protocol
    ∷ answer_stp_busy ∷ answer_wrong_destination ∷ answer_open_timeout ∷ answer_break_received
    ∷ answer_port_layer_request
    ∷ answer_terminated ∷ []

-- the place of a number in a list; that behind the last where it is not there
abbrev pub place_in : ℕ → List ℕ → ℕ
place_in n [] = 0
place_in n (a ∷ rest) = pick (eqb n a) 0 (suc (place_in n rest))

-- the column of an answer; 16 for a code that is none
unfoldable pub column_of : (answer : ℕ) → ℕ
column_of answer = place_in answer answers

-- the answer of a column
abbrev pub answer_at : (column : ℕ) → ℕ
answer_at column = get_or answers column 0
