-- How the code goes through a run: with the records in a table and where the port stands carried along. What a run is
-- stands in Running; here is what the code's own functions promise each other.
use Rattle.std.specs.Prelude.{ℕ, zero, suc, ◌%◌, Bool, ◌&&◌, List, [], ◌∷◌, map, leb, ltb, length, set, get_or}
use Rattle.std.specs.Prelude.{replicate}
use Rattle.std.proofs.lemmas.List.Edits.{sets}
use Rattle.table.specs.Choice.{pick}
use Rattle.table.specs.Refusals.{bad_state, no_room}
use Rattle.event.specs.declared.ShelfEvent.{ShelfEvent}
use Rattle.bay.specs.State.{fresh_bay}
use Rattle.bay.specs.declared.Bay.{Bay}
use Rattle.shelf.specs.Reading.{ToldShelf, shelf_event, shelf_end, shelf_refused, read_shelf}
use Rattle.run.specs.Running.{Halt, at_end, at_fault, refused, byte_for}
use Rattle.port.specs.Names.{most_phys}
use Rattle.port.specs.Stages as port
use Rattle.port.specs.Stages.{sound_scan, standing_in, concerned, taken_of}
use Rattle.port.specs.declared.Reports.{Reports}
use Rattle.port.specs.declared.Scan.{Scan}
use Rattle.port.specs.declared.Standing.{Standing}
use Rattle.shelf_run.specs.Rows.{fronted}
use Rattle.shelf_run.specs.Running.{unset, spent_at, ran}
use Rattle.shelf_run.specs.declared.Gone.{Gone}
use Rattle.shelf_run.specs.declared.Ran.{Ran}
use Rattle.shelf_run.specs.declared.Table.{Table}

-- a table of fresh bays
abbrev pub empty : Table
empty = record { bays = replicate most_phys fresh_bay }

-- its records, every base unset
abbrev pub all_unset : List Bay → List Bay
all_unset bays = fronted most_phys (map unset bays) bays

-- the record of an event is in use: that of a phy of the port
abbrev pub in_use : Standing → (at : ℕ) → Bool
in_use s at = ltb at s.count && ltb at most_phys

-- where the records, the port and the queue have come to, the bytes on the way, and how it stops
pub record Went : Type 0 where
  pub bays : List Bay
  pub queue : List ℕ
  pub bytes : List ℕ
  pub halt : Halt

-- nothing more is taken
abbrev pub rests : List Bay → List ℕ → Halt → Went
rests bays queue halt = record { bays = bays; queue = queue; bytes = []; halt = halt }

-- one byte, and then the rest
abbrev pub one_more : ℕ → Went → Went
one_more byte w = record { bays = w.bays; queue = w.queue; bytes = byte ∷ w.bytes; halt = w.halt }

-- the byte of what an event reports
abbrev pub byte_in : Reports → ℕ
byte_in r = byte_for r.refusal r.answer.code % 256

-- what the port makes of an event, by the record that it concerns
abbrev pub takes : Standing → List Bay → List ℕ → ShelfEvent → (at : ℕ) → port.Course
takes s bays queue e at = taken_of s (pick (in_use s at) (get_or bays at fresh_bay) fresh_bay) queue e.number e.event

-- the records, that one put back
abbrev pub puts : Standing → List Bay → (at : ℕ) → Bay → List Bay
puts s bays at b = pick (in_use s at) (set bays at b) bays

-- an event taken, and then the rest
abbrev pub goes_on :
    (rest : Standing → List Bay → List ℕ → Went) → Standing → List Bay → (at : ℕ) → port.Course → Went
goes_on rest s bays at c =
    one_more (byte_in c.taken.stepped.reports)
    (rest c.taken.standing (puts s bays at c.taken.bay) c.queue)

-- what is read at a place with budget left
abbrev pub by_read :
    ToldShelf → Standing → List Bay → List ℕ → ((next : ℕ) → Standing → List Bay → List ℕ → Went) → Went
by_read (shelf_event e next) s bays queue rest =
    goes_on (rest next) s bays (concerned s.free e.number) (takes s bays queue e (concerned s.free e.number))
by_read shelf_end s bays queue rest = rests bays queue at_end
by_read (shelf_refused n at) s bays queue rest = rests bays queue (at_fault n at)

-- the events from a place on under a budget
unfoldable pub going : (budget : ℕ) → (s : List ℕ) → (place : ℕ) → Standing → List Bay → List ℕ → Went
going zero s place st bays queue = rests bays queue (spent_at place (length s))
going (suc budget) s place st bays queue = by_read (read_shelf s place) st bays queue (going budget s)

-- ---- a whole run

-- it goes, or is refused with a number
abbrev pub if_sound :
    {A : Type 0} → Scan → (numbers : List ℕ) → (budget : ℕ) → (buffer : List ℕ) → A → (ℕ → A) → A
if_sound scan numbers budget buffer goes refuses =
    pick (sound_scan scan numbers) (pick (leb budget (length buffer)) goes (refuses no_room)) (refuses bad_state)

-- all events of a trace, every base unset
abbrev pub went_over : Scan → List Bay → (numbers s : List ℕ) → (budget : ℕ) → Went
went_over scan bays numbers s budget = going budget s 0 (standing_in scan numbers) (all_unset bays) numbers

-- a table, and what a run tells
abbrev pub gone : List Bay → Ran → Gone
gone bays r = record { table = record { bays = bays }; ran = r }

abbrev pub gone_of : Scan → List Bay → (numbers s : List ℕ) → (budget : ℕ) → (buffer : List ℕ) → Gone
gone_of scan bays numbers s budget buffer =
    if_sound scan numbers budget buffer
    (gone (went_over scan bays numbers s budget).bays
    (ran (length (went_over scan bays numbers s budget).bytes) (went_over scan bays numbers s budget).halt))
    λ n. gone bays (ran 0 (refused n))

abbrev pub queue_after_run : Scan → List Bay → (numbers s : List ℕ) → (budget : ℕ) → (buffer : List ℕ) → List ℕ
queue_after_run scan bays numbers s budget buffer =
    if_sound scan numbers budget buffer (went_over scan bays numbers s budget).queue λ n. numbers

abbrev pub buffer_after_run : Scan → List Bay → (numbers s : List ℕ) → (budget : ℕ) → (buffer : List ℕ) → List ℕ
buffer_after_run scan bays numbers s budget buffer =
    if_sound scan numbers budget buffer (sets buffer 0 (went_over scan bays numbers s budget).bytes) λ n. buffer
