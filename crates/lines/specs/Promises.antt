-- What each function promises, cited by its `ensures` and, of the public ones, by `Determined` in Laws; and what the
-- function of any listing promises that writes the next line.
use Rattle.std.specs.Prelude.{ℕ, ◌+◌, ◌≤◌, Bool, true, false, List, [], ◌≡◌, Option, Result, Ok, Err, leb, length}
use Rattle.std.proofs.lemmas.List.Edits.{sets}
use Rattle.table.specs.Choice.{pick}
use Rattle.table.specs.Refusals.{no_room, number_of}
use Rattle.table.specs.declared.Refusal.{Refusal}
use Rattle.table.specs.declared.Refusal.TheVariants.{NoRoom}
use Rattle.number.specs.declared.Found.{Found as FoundAt}
use Rattle.trace.specs.declared.Fault.{Fault}
use Rattle.output.specs.Writing.{line}
use Rattle.output.specs.declared.Text.{Text}
use Rattle.lines.specs.Lines.{most_line, most_columns, end_line, stop_line, too_long_line}
use Rattle.lines.specs.Listing.{Listable, Next, line_of, no_line, start_of, line_at, found_in}
use Rattle.lines.specs.declared.listing.Listed.{Listed}
use Rattle.lines.specs.declared.Progress.{Progress}
use Rattle.lines.specs.declared.Progress.TheVariants.{Done as ProgressDone}
use Rattle.lines.specs.declared.Written.{Written}
use Rattle.lines.specs.declared.Written.TheVariants.{Line, Done}

-- `start` of a trace of a length
abbrev pub StartsListing : ℕ → Progress → Type 0
StartsListing length r = r ≡ start_of length

-- what writing a line says: the progress after it and its length, that there is none, or a refusal's number
pub data ToldWritten : Type 0 where
  wrote : Progress → ℕ → ToldWritten
  finished : (whole : Bool) → ToldWritten
  refused : ℕ → ToldWritten

-- what asking for a line gives
abbrev pub Answer : Type 0
Answer = Result Written Refusal

-- what each answer says, as the paper numbers it
abbrev pub tells_written : Answer → ToldWritten
tells_written (Ok (Line next n)) = wrote next n
tells_written (Ok (Done whole)) = finished whole
tells_written (Err refusal) = refused (number_of refusal)

-- how many bytes were written
abbrev pub length_written : Answer → ℕ
length_written (Ok (Line next n)) = n
length_written (Ok (Done whole)) = 0
length_written (Err refusal) = 0

-- a text goes on as a contract says of the bytes before, their place, the result and the bytes after: behind what was
-- written, in the same buffer
pub record Goes (Contract : (before : List ℕ) (at : ℕ) (r : Answer) (after : List ℕ) → Type 0)
    (old new : Text) (r : Answer) : Type 0
  where
    pub puts : Contract old.out.now old.n r new.out.now
    pub there : new.n ≡ old.n + length_written r
    pub same_buffer : new.out.ghost_name ≡ old.out.ghost_name

-- ---- one line

-- whether bytes fit into a buffer from a place on
abbrev pub fits : List ℕ → List ℕ → ℕ → Bool
fits bytes buffer at = leb (at + length bytes) (length buffer)

-- what writing a line says after which there is a progress
abbrev pub write_line : List ℕ → Progress → List ℕ → ℕ → ToldWritten
write_line bytes next buffer at = pick (fits bytes buffer at) (wrote next (length bytes)) (refused no_room)

-- the buffer afterwards: the line at the place, if it fits; all other bytes as before
abbrev pub with_line : List ℕ → List ℕ → ℕ → List ℕ
with_line bytes buffer at = pick (fits bytes buffer at) (sets buffer at bytes) buffer

-- `put_line` of bytes into the buffer `before` at a place, which leaves it as `after`
pub record PutsLine (line : List ℕ) (next : Progress) (before : List ℕ) (at : ℕ) (r : Answer) (after : List ℕ) :
    Type 0
  where
    pub says : tells_written r ≡ write_line line next before at
    pub bytes : after ≡ with_line line before at

-- the same of a line that is no longer than the longest
pub record PutsShort (line : List ℕ) (next : Progress) (before : List ℕ) (at : ℕ) (r : Answer) (after : List ℕ) :
    Type 0
  where
    pub puts : PutsLine line next before at r after
    pub short : length line ≤ most_line

-- `put_columns`, of a place and the numbers behind it; more than a line has are refused, and nothing changes
abbrev pub PutsColumns :
    (place : ℕ) → (columns : List ℕ) → (next : Progress) → List ℕ → ℕ → Answer → List ℕ → Type 0
PutsColumns place columns next before at r after =
    pick (leb (length columns) most_columns) (PutsShort (line place columns) next before at r after)
    ((r ≡ Err NoRoom) × (after ≡ before))

-- and of a last one, after which nothing comes
abbrev pub PutsLast : (line : List ℕ) → (whole : Bool) → List ℕ → ℕ → Answer → List ℕ → Type 0
PutsLast line whole before at r after = PutsShort line (ProgressDone whole) before at r after

-- `put_end`
abbrev pub PutsEnd : (place count : ℕ) → List ℕ → ℕ → Answer → List ℕ → Type 0
PutsEnd place count before at r after = PutsLast (end_line place count) true before at r after

-- `put_stop`
abbrev pub PutsStop : (place refusal : ℕ) → List ℕ → ℕ → Answer → List ℕ → Type 0
PutsStop place refusal before at r after = PutsLast (stop_line place refusal) false before at r after

-- `put_too_long`
abbrev pub PutsTooLong : List ℕ → ℕ → Answer → List ℕ → Type 0
PutsTooLong before at r after = PutsLast too_long_line false before at r after

-- ---- what comes next

-- its bytes
abbrev pub bytes_of : {S : Type 0} → Next S → List ℕ
bytes_of (line_of bytes next b) = bytes
bytes_of (no_line whole) = []

-- what writing it says
abbrev pub write_next : {S : Type 0} → Next S → List ℕ → ℕ → ToldWritten
write_next (line_of bytes next b) buffer at = write_line bytes next buffer at
write_next (no_line whole) buffer at = finished whole

-- the buffer afterwards
abbrev pub buffer_after : {S : Type 0} → Next S → List ℕ → ℕ → List ℕ
buffer_after (line_of bytes next b) buffer at = with_line bytes buffer at
buffer_after (no_line whole) buffer at = buffer

-- the state afterwards: as before where nothing is written
abbrev pub state_after : {S : Type 0} → Next S → S → List ℕ → ℕ → S
state_after (line_of bytes next b) old buffer at = pick (fits bytes buffer at) b old
state_after (no_line whole) old buffer at = old

-- writing what comes next of a state into the buffer `before` at a place, which leaves both as `b` and `after`
pub record PutsNext {S : Type 0} (n : Next S) (old : S) (before : List ℕ) (at : ℕ) (b : S) (r : Answer)
    (after : List ℕ) : Type 0
  where
    pub says : tells_written r ≡ write_next n before at
    pub state : b ≡ state_after n old before at
    pub bytes : after ≡ buffer_after n before at
    pub short : length (bytes_of n) ≤ most_line

-- the state once a line that comes was asked for, with the one before and the one after it: nothing written leaves it
abbrev pub moved_on : {S : Type 0} → Answer → (old b : S) → S
moved_on (Ok (Line next n)) old b = b
moved_on (Ok (Done whole)) old b = old
moved_on (Err refusal) old b = old

-- ---- of what is listed

-- `header`: the names of the columns, as one line
pub record GivesHeader {S E : Type 0} (m : Listable S E) (r : List ℕ) : Type 0 where
  pub words : r ≡ m.header
  pub short : length r ≤ most_line

-- `read` of the trace s at a place
abbrev pub ReadsAt : {S E : Type 0} → Listable S E → List ℕ → ℕ → Result (Option (FoundAt E)) Fault → Type 0
ReadsAt m s place r = found_in r ≡ m.reads s place

-- `put_event` of an event at a place: the state after it, whether or not its line has room, and the line
pub record PutsEvent {S E : Type 0} (m : Listable S E) (b : S) (place : ℕ) (e : E) (next : Progress) (before : List ℕ)
    (at : ℕ) (r : Listed S) (after : List ℕ) : Type 0
  where
    pub state : r.state ≡ m.next b e
    pub line : PutsShort (m.line place b e) next before at r.written after

-- what comes next of a state is written into the buffer `before` at a place, which leaves it as `after`
abbrev pub WritesNext : {S : Type 0} → Next S → S → (before : List ℕ) → (at : ℕ) → Listed S → (after : List ℕ) → Type 0
WritesNext n b before at r after = PutsNext n b before at r.state r.written after

-- `next_line` of the trace s at a progress, with a state
abbrev pub WritesLine :
    {S E : Type 0} → Listable S E → (s : List ℕ) → Progress → S → (before : List ℕ) → (at : ℕ) → Listed S
    → (after : List ℕ) → Type 0
WritesLine m s progress b before at r after = WritesNext (line_at m s progress b) b before at r after

-- a text goes on as a contract says of a result with a state
abbrev pub GoesWith :
    {S : Type 0} → ((before : List ℕ) (at : ℕ) (r : Listed S) (after : List ℕ) → Type 0) → (old new : Text) → Listed S
    → Type 0
GoesWith Contract old new r = Goes (λ before at a after. Contract before at r after) old new r.written
