-- What is promised of every listing beyond the contracts. A heading names the files of proofs/.
use Rattle.std.specs.Prelude.{ℕ, suc, ◌+◌, ◌-◌, ◌≤◌, ◌<◌, Bool, true, List, [], ◌∷◌, ◌++◌, ◌↔◌, ◌≡◌, length}
use Rattle.table.specs.Refusals.{no_room}
use Rattle.table.specs.Results.{TellsOnce, Determines, DeterminesLent}
use Rattle.lines.specs.Lines.{most_line, end_line}
use Rattle.lines.specs.Listing.{most_trace, Found, found, nothing, Listable, Lists}
use Rattle.lines.specs.Listing.{Next, line_of, no_line, start_of, line_at}
use Rattle.lines.specs.Promises.{StartsListing, Answer, wrote, finished, refused}
use Rattle.lines.specs.Promises.{tells_written, PutsLine, PutsShort}
use Rattle.lines.specs.Promises.{PutsColumns, PutsEnd, PutsStop, PutsTooLong}
use Rattle.lines.specs.Promises.{GivesHeader, ReadsAt, PutsEvent, WritesNext, WritesLine}
use Rattle.lines.specs.Promises.{bytes_of, write_next, buffer_after, state_after, PutsNext, moved_on}
use Rattle.lines.specs.declared.Progress.{Progress}
use Rattle.lines.specs.declared.Progress.TheVariants.{Header, Events, TooLong, Done}

-- ---- results are determined (proofs/Determined)

-- each result says one thing; two that a function may give coincide, as do the buffers that it may leave
pub record Determined : Type 1 where
  pub written_once : TellsOnce tells_written
  pub start : (length : ℕ) → Determines (StartsListing length)
  pub put_line :
      (bytes : List ℕ) (next : Progress) (before : List ℕ) (at : ℕ) → DeterminesLent (PutsLine bytes next before at)
  pub put_columns :
      (place : ℕ) (columns : List ℕ) (next : Progress) (before : List ℕ) (at : ℕ)
      → DeterminesLent (PutsColumns place columns next before at)
  pub put_end : (place count : ℕ) (before : List ℕ) (at : ℕ) → DeterminesLent (PutsEnd place count before at)
  pub put_stop : (place refusal : ℕ) (before : List ℕ) (at : ℕ) → DeterminesLent (PutsStop place refusal before at)
  pub put_too_long : (before : List ℕ) (at : ℕ) → DeterminesLent (PutsTooLong before at)
  pub header : {S E : Type 0} (m : Listable S E) → Determines (GivesHeader m)
  pub read : {S E : Type 0} (m : Listable S E) (s : List ℕ) (place : ℕ) → Determines (ReadsAt m s place)
  pub put_event :
      {S E : Type 0} (m : Listable S E) (b : S) (place : ℕ) (e : E) (next : Progress) (before : List ℕ) (at : ℕ)
      → DeterminesLent (PutsEvent m b place e next before at)
  pub next_event :
      {S : Type 0} (n : Next S) (b : S) (before : List ℕ) (at : ℕ) → DeterminesLent (WritesNext n b before at)
  pub next_line :
      {S E : Type 0} (m : Listable S E) (s : List ℕ) (progress : Progress) (b : S) (before : List ℕ) (at : ℕ)
      → DeterminesLent (WritesLine m s progress b before at)

-- the same of a function that writes what comes next: result, state and buffer
abbrev pub NextDetermined : {S : Type 0} → Next S → Type 0
NextDetermined {S} n =
    (old : S) (before : List ℕ) (at : ℕ) (b c : S) (r q : Answer) (after later : List ℕ)
    → PutsNext n old before at b r after → PutsNext n old before at c q later → (b ≡ c) × (r ≡ q) × (after ≡ later)

-- ---- a refusal exactly when (proofs/Refusals)

-- 10: a line comes, and does not fit between the place and the buffer's end
abbrev pub NoRoomExactly : Type 0 → Type 0
NoRoomExactly S =
    (n : Next S) (buffer : List ℕ) (at : ℕ)
    → write_next n buffer at ≡ refused no_room
    ↔ (((whole : Bool) → n ≡ no_line whole → ⊥) × (length buffer < at + length (bytes_of n)))

-- and then the state and the buffer are as they were
abbrev pub NoRoomKeeps : Type 0 → Type 0
NoRoomKeeps S =
    (n : Next S) (old : S) (buffer : List ℕ) (at : ℕ) → write_next n buffer at ≡ refused no_room
    → (state_after n old buffer at ≡ old) × (buffer_after n buffer at ≡ buffer)

-- ---- from one line to what comes next (proofs/Moves)

-- a line after which there is a state leaves that state, or the one before where it has no room
abbrev pub MovesOn : Type 0 → Type 0
MovesOn S =
    (line : List ℕ) (next : Progress) (before : List ℕ) (at : ℕ) (r : Answer) (after : List ℕ) (old b : S)
    → PutsShort line next before at r after → PutsNext (line_of line next b) old before at (moved_on r old b) r after

-- one that moves no state leaves it in any case
abbrev pub Stays : Type 0 → Type 0
Stays S =
    (line : List ℕ) (next : Progress) (before : List ℕ) (at : ℕ) (r : Answer) (after : List ℕ) (b : S)
    → PutsShort line next before at r after → PutsNext (line_of line next b) b before at b r after

-- ---- line by line (proofs/Ends)

-- reading goes on: an event moves the place forward and within the trace, and the end comes where the trace ends
pub record ReadsOn {S E : Type 0} (m : Listable S E) : Type 0 where
  pub forward : (s : List ℕ) (place : ℕ) (e : E) (next : ℕ) → m.reads s place ≡ found e next → place < next
  pub within : (s : List ℕ) (place : ℕ) (e : E) (next : ℕ) → m.reads s place ≡ found e next → next ≤ length s
  pub at_end : (s : List ℕ) (place : ℕ) → m.reads s place ≡ nothing → length s ≤ place

-- how many lines may still come
abbrev pub lines_left : List ℕ → Progress → ℕ
lines_left s Header = suc (suc (length s))
lines_left s (Events place count) = suc (length s - place)
lines_left s TooLong = 1
lines_left s (Done whole) = 0

-- each line leaves fewer
abbrev pub LinesFall : {S E : Type 0} → Listable S E → Type 0
LinesFall {S} m =
    (s : List ℕ) (progress : Progress) (b : S) (bytes : List ℕ) (next : Progress) (c : S)
    → line_at m s progress b ≡ line_of bytes next c → lines_left s next < lines_left s progress

-- a line written is the one that comes next, leaves fewer, and lies within the buffer
pub record Advances {S E : Type 0} (m : Listable S E) (s : List ℕ) (progress next : Progress) (b c : S)
    (before : List ℕ) (at n : ℕ) : Type 0
  where
    pub bytes : List ℕ
    pub comes : line_at m s progress b ≡ line_of bytes next c
    pub fewer : lines_left s next < lines_left s progress
    pub within : at + n ≤ length before

abbrev pub WrittenAdvances : {S E : Type 0} → Listable S E → Type 0
WrittenAdvances {S} m =
    (s : List ℕ) (progress : Progress) (b : S) (before : List ℕ) (at : ℕ) (c : S) (r : Answer) (after : List ℕ)
    (next : Progress) (n : ℕ)
    → PutsNext (line_at m s progress b) b before at c r after → tells_written r ≡ wrote next n
    → Advances m s progress next b c before at n

-- nothing more is written where no line comes, and the outcome is that of the progress
abbrev pub FinishedComes : {S E : Type 0} → Listable S E → Type 0
FinishedComes {S} m =
    (s : List ℕ) (progress : Progress) (b : S) (before : List ℕ) (at : ℕ) (c : S) (r : Answer) (after : List ℕ)
    (whole : Bool)
    → PutsNext (line_at m s progress b) b before at c r after → tells_written r ≡ finished whole
    → line_at m s progress b ≡ no_line whole

-- a buffer with room for the longest line does not refuse one, and one that does leaves the state
pub record Kept {S : Type 0} (b c : S) (before : List ℕ) (at : ℕ) : Type 0 where
  pub state : c ≡ b
  pub full : length before < at + most_line

abbrev pub RoomEnough : {S E : Type 0} → Listable S E → Type 0
RoomEnough {S} m =
    (s : List ℕ) (progress : Progress) (b : S) (before : List ℕ) (at : ℕ) (c : S) (r : Answer) (after : List ℕ)
    → PutsNext (line_at m s progress b) b before at c r after → tells_written r ≡ refused no_room → Kept b c before at

-- ---- the whole listing (proofs/Whole)

-- the lines from a progress and a state on, end to end, and the outcome after the last: whether the trace was listed to
-- its end
pub data Lines {S E : Type 0} (m : Listable S E) (s : List ℕ) : Progress → S → (whole : Bool) → List ℕ → Type 0 where
  over :
      {progress : Progress} {b : S} {whole : Bool}
      → line_at m s progress b ≡ no_line whole → Lines m s progress b whole []
  more :
      {progress next : Progress} {b c : S} {whole : Bool} {bytes others : List ℕ}
      → line_at m s progress b ≡ line_of bytes next c → Lines m s next c whole others
      → Lines m s progress b whole (bytes ++ others)

-- these bytes are the lines from a progress and a state on, with some outcome
pub record LinesFrom {S E : Type 0} (m : Listable S E) (s : List ℕ) (progress : Progress) (b : S) (bytes : List ℕ) :
    Type 0
  where
    pub whole : Bool
    pub lines : Lines m s progress b whole bytes

-- every trace has a listing
pub record Listed {S E : Type 0} (m : Listable S E) (b : S) (s : List ℕ) : Type 0 where
  pub bytes : List ℕ
  pub lists : Lists m b s bytes

abbrev pub ListingExists : {S E : Type 0} → Listable S E → Type 0
ListingExists {S} m = (b : S) (s : List ℕ) → Listed m b s

-- and only one
abbrev pub ListingOnce : {S E : Type 0} → Listable S E → Type 0
ListingOnce {S} m = (b : S) (s bytes others : List ℕ) → Lists m b s bytes → Lists m b s others → bytes ≡ others

-- the lines from the start on are the listing, and nothing else is
abbrev pub LinesAreListing : {S E : Type 0} → Listable S E → Type 0
LinesAreListing {S} m = (b : S) (s bytes : List ℕ) → LinesFrom m s (start_of (length s)) b bytes ↔ Lists m b s bytes

-- ---- the outcome (proofs/Outcome)

-- reading on from a place gives these events and then the trace's end, with no fault
pub data ReadsAll {E : Type 0} (reads : List ℕ → ℕ → Found E) (s : List ℕ) : (place : ℕ) → List E → Type 0 where
  ended : {place : ℕ} → reads s place ≡ nothing → ReadsAll reads s place []
  taken :
      {place next : ℕ} {e : E} {es : List E} → reads s place ≡ found e next → ReadsAll reads s next es
      → ReadsAll reads s place (e ∷ es)

-- a trace that is not too long and is read to its end without a fault
pub record Whole {S E : Type 0} (m : Listable S E) (s : List ℕ) : Type 0 where
  pub short : length s ≤ most_trace
  pub events : List E
  pub read : ReadsAll m.reads s 0 events

-- the outcome after the lines from the start on tells whether the trace is whole
abbrev pub WholeExactly : {S E : Type 0} → Listable S E → Type 0
WholeExactly {S} m =
    (b : S) (s bytes : List ℕ) (whole : Bool) → Lines m s (start_of (length s)) b whole bytes → whole ≡ true ↔ Whole m s

-- ---- the last line (proofs/LastLine)

pub record EndsWith (bytes last : List ℕ) : Type 0 where
  pub front : List ℕ
  pub whole : bytes ≡ front ++ last

-- the listing of a trace that is read without a fault ends with the trace's length and its number of events
abbrev pub EndTells : {S E : Type 0} → Listable S E → Type 0
EndTells {S} {E} m =
    (b : S) (s bytes : List ℕ) (es : List E) → length s ≤ most_trace → ReadsAll m.reads s 0 es → Lists m b s bytes
    → EndsWith bytes (end_line (length s) (length es))

-- what holds of one kind of listing
pub record Listing {S E : Type 0} (m : Listable S E) : Type 0 where
  pub falls : LinesFall m
  pub advances : WrittenAdvances m
  pub exists : ListingExists m
  pub once : ListingOnce m
  pub lines : LinesAreListing m
  pub whole : WholeExactly m
  pub end_tells : EndTells m

-- all of it holds of every kind whose reading goes on
abbrev pub ListingHolds : {S E : Type 0} → Listable S E → Type 0
ListingHolds m = ReadsOn m → Listing m

-- ---- two kinds of listing with the same lines (proofs/Alike)

-- states that a relation holds of have the same lines and lead to such states, and both read the same
pub record Alike {S R E : Type 0} (m : Listable S E) (w : Listable R E) (Same : S → R → Type 0) : Type 0 where
  pub header : m.header ≡ w.header
  pub reads : (s : List ℕ) (place : ℕ) → m.reads s place ≡ w.reads s place
  pub line : (place : ℕ) (b : S) (c : R) (e : E) → Same b c → m.line place b e ≡ w.line place c e
  pub next : (b : S) (c : R) (e : E) → Same b c → Same (m.next b e) (w.next c e)

-- then the listing of the one is the listing of the other
abbrev pub ListsAlike : {S R E : Type 0} → Listable S E → Listable R E → (S → R → Type 0) → Type 0
ListsAlike {S} {R} m w Same =
    Alike m w Same → (b : S) (c : R) (s bytes : List ℕ) → Same b c → Lists m b s bytes → Lists w c s bytes
