-- The listing of a trace, whatever is listed: the whole of it, and the same line by line.
use Rattle.std.specs.Prelude.{ℕ, suc, ◌+◌, ◌%◌, ◌^◌, ◌≤◌, ◌<◌, Bool, true, false, List, ◌++◌, ◌≡◌, leb, length}
use Rattle.std.specs.Prelude.{Option, Some, None, Result, Ok, Err}
use Rattle.table.specs.Choice.{pick}
use Rattle.table.specs.Refusals.{number_of}
use Rattle.number.specs.declared.Found.{Found as FoundAt}
use Rattle.trace.specs.declared.Fault.{Fault}
use Rattle.lines.specs.Lines.{end_line, stop_line, too_long_line}
use Rattle.lines.specs.declared.Progress.{Progress}
use Rattle.lines.specs.declared.Progress.TheVariants.{Header, Events, TooLong, Done}

-- a longer trace is not listed
abbrev pub most_trace : ℕ
most_trace = 65536

-- what stands at a place: an event and the place after it, the trace's end, or a refusal's number and its place
pub data Found (E : Type 0) : Type 0 where
  found : E → ℕ → Found E
  nothing : Found E
  fault : ℕ → ℕ → Found E

-- what code finds there, in those words
abbrev pub found_in : {E : Type 0} → Result (Option (FoundAt E)) Fault → Found E
found_in (Ok (Some f)) = found f.value f.next
found_in (Ok None) = nothing
found_in (Err f) = fault (number_of f.refusal) f.place

-- what is listed: the header's line, how events are read, the line of one, and what it makes of a state
pub record Listable (S E : Type 0) : Type 0 where
  pub header : List ℕ
  pub reads : (s : List ℕ) → (place : ℕ) → Found E
  pub line : (place : ℕ) → S → E → List ℕ
  pub next : S → E → S

-- ---- the whole listing

-- these are the lines of a trace from a place on, for a state that has come there after `count` events
pub data ListsFrom {S E : Type 0} (m : Listable S E) (s : List ℕ) : (place count : ℕ) → S → List ℕ → Type 0 where
  ended : {place count : ℕ} {b : S} → m.reads s place ≡ nothing → ListsFrom m s place count b (end_line place count)
  stopped :
      {place count n at : ℕ} {b : S} → m.reads s place ≡ fault n at → ListsFrom m s place count b (stop_line at n)
  taken :
      {place count next : ℕ} {b : S} {e : E} {others : List ℕ}
      → m.reads s place ≡ found e next → ListsFrom m s next (suc count) (m.next b e) others
      → ListsFrom m s place count b (m.line place b e ++ others)

-- these are the bytes that list a trace, from a state on
pub data Lists {S E : Type 0} (m : Listable S E) (b : S) (s : List ℕ) : List ℕ → Type 0 where
  listed : {others : List ℕ} → length s ≤ most_trace → ListsFrom m s 0 0 b others → Lists m b s (m.header ++ others)
  too_long : most_trace < length s → Lists m b s too_long_line

-- ---- line by line

-- what comes next: the bytes of a line, the progress and the state after it, or no line more, the trace listed to its
-- end or not
pub data Next (S : Type 0) : Type 0 where
  line_of : List ℕ → Progress → S → Next S
  no_line : (whole : Bool) → Next S

-- before the first line of a trace of a length
abbrev pub start_of : (length : ℕ) → Progress
start_of length = pick (leb length most_trace) Header TooLong

-- one event more; the number goes round past 2^64 - 1, to which no trace that is listed comes
abbrev pub one_more : ℕ → ℕ
one_more count = (count + 1) % 2 ^ 64

-- the line of what stands at a place
abbrev pub after_reading : {S E : Type 0} → Listable S E → (place count : ℕ) → S → Found E → Next S
after_reading m place count b (found e next) =
    line_of (m.line place b e) (Events next (one_more count)) (m.next b e)
after_reading m place count b nothing = line_of (end_line place count) (Done true) b
after_reading m place count b (fault n at) = line_of (stop_line at n) (Done false) b

-- the next line at any progress
unfoldable pub line_at : {S E : Type 0} → Listable S E → List ℕ → Progress → S → Next S
line_at m s Header b = line_of m.header (Events 0 0) b
line_at m s (Events place count) b = after_reading m place count b (m.reads s place)
line_at m s TooLong b = line_of too_long_line (Done false) b
line_at m s (Done whole) b = no_line whole
