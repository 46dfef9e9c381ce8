-- A run over a shelf trace: the shelf events that it gives under a budget, and what a port makes of them.
use Rattle.std.specs.Prelude.{ℕ, zero, suc, Bool, ◌&&◌, List, [], ◌∷◌, map, leb, length}
use Rattle.std.proofs.lemmas.List.Edits.{sets}
use Rattle.table.specs.Choice.{pick}
use Rattle.table.specs.Refusals.{bad_state, no_room}
use Rattle.event.specs.declared.ShelfEvent.{ShelfEvent}
use Rattle.bay.specs.State.{unstamped}
use Rattle.bay.specs.declared.Bay.{Bay}
use Rattle.queue.specs.Lent.{lent_as, good_lent}
use Rattle.shelf.specs.Reading.{ToldShelf, shelf_event, shelf_end, shelf_refused, read_shelf}
use Rattle.run.specs.Running.{Halt, at_end, at_budget, at_fault, refused, byte_for}
use Rattle.replies.specs.Replies.{stop_reply}
use Rattle.port.specs.Names.{most_phys}
use Rattle.port.specs.State.{Port, valid_of}
use Rattle.port.specs.Step.{PortStepped}
use Rattle.port.specs.Log.{Entry, log, after}
use Rattle.port.specs.Lent.{port_in}
use Rattle.shelf_run.specs.declared.Ran.{Ran}

-- the shelf events taken, in order, and how taking them stopped
pub record Course : Type 0 where
  pub events : List ShelfEvent
  pub halt : Halt

-- nothing more is taken
abbrev pub stops : Halt → Course
stops halt = record { events = []; halt = halt }

-- one event, and then the rest
abbrev pub first : ShelfEvent → Course → Course
first e c = record { events = e ∷ c.events; halt = c.halt }

-- what is read at a place with budget left: an event is taken and the rest follows it
abbrev pub onwards : ToldShelf → (ℕ → Course) → Course
onwards (shelf_event e next) rest = first e (rest next)
onwards shelf_end rest = stops at_end
onwards (shelf_refused n at) rest = stops (at_fault n at)

-- the budget is spent at a place: the end is looked for first
abbrev pub spent_at : (place long : ℕ) → Halt
spent_at place long = pick (leb long place) at_end at_budget

-- the events from a place on under a budget; the end is looked for first, then the budget, then a fault
unfoldable pub taking : (budget : ℕ) → List ℕ → ℕ → Course
taking zero s place = stops (spent_at place (length s))
taking (suc budget) s place = onwards (read_shelf s place) (taking budget s)

-- a byte for each event: its refusal, or else the answer of its phy, or else 0
abbrev pub byte_of : PortStepped → ℕ
byte_of r = byte_for r.reports.refusal r.reports.answer.code

-- one for each entry of a log
abbrev pub bytes_in : List Entry → List ℕ
bytes_in [] = []
bytes_in (x ∷ xs) = byte_of x.result ∷ bytes_in xs

-- one for each event of a list
abbrev pub bytes_of : Port → List ShelfEvent → List ℕ
bytes_of p es = bytes_in (log most_phys p es)

-- a bay with its base unset
abbrev pub unset : Bay → Bay
unset b = unstamped b.phy

-- the port with which a run begins: every base is unset
abbrev pub started : Port → Port
started p = record { bays = map unset p.bays; queue = p.queue }

-- the row and the numbers that are lent make a valid port
abbrev pub sound_lent : List Bay → List ℕ → Bool
sound_lent row numbers = good_lent numbers && valid_of most_phys (port_in row numbers)

-- a run is refused with 1, then with 10 where the buffer is shorter than the budget; else it goes
abbrev pub if_runs : {A : Type 0} → List Bay → List ℕ → (budget : ℕ) → (buffer : List ℕ) → A → (ℕ → A) → A
if_runs row numbers budget buffer runs refuses =
    pick (sound_lent row numbers) (pick (leb budget (length buffer)) runs (refuses no_room)) (refuses bad_state)

-- the events that it takes
abbrev pub taken : List ℕ → (budget : ℕ) → List ShelfEvent
taken s budget = (taking budget s 0).events

-- the port after them
abbrev pub port_after : List Bay → List ℕ → List ℕ → (budget : ℕ) → Port
port_after row numbers s budget = after most_phys (started (port_in row numbers)) (taken s budget)

-- what a run tells: the number of events taken, and how it stopped
abbrev pub ran : (count : ℕ) → Halt → Ran
ran count halt = record { count = count; stop = stop_reply halt }

abbrev pub ran_of : List Bay → List ℕ → List ℕ → (budget : ℕ) → (buffer : List ℕ) → Ran
ran_of row numbers s budget buffer =
    if_runs row numbers budget buffer (ran (length (taken s budget)) (taking budget s 0).halt) λ n. ran 0 (refused n)

-- the row afterwards, with its bases; refused, it is as given
abbrev pub row_after : List Bay → List ℕ → List ℕ → (budget : ℕ) → (buffer : List ℕ) → List Bay
row_after row numbers s budget buffer =
    if_runs row numbers budget buffer (port_after row numbers s budget).bays λ n. row

-- the numbers of the queue afterwards; refused, they are as given
abbrev pub numbers_after : List Bay → List ℕ → List ℕ → (budget : ℕ) → (buffer : List ℕ) → List ℕ
numbers_after row numbers s budget buffer =
    if_runs row numbers budget buffer (lent_as (port_after row numbers s budget).queue) λ n. numbers

-- the buffer afterwards: the bytes of the events taken, then what stood there; refused, it is as given
abbrev pub buffer_after : List Bay → List ℕ → List ℕ → (budget : ℕ) → (buffer : List ℕ) → List ℕ
buffer_after row numbers s budget buffer =
    if_runs row numbers budget buffer (sets buffer 0 (bytes_of (started (port_in row numbers)) (taken s budget)))
    λ n. buffer
