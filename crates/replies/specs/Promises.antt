-- What each public function promises, cited by its `ensures` and by `Determined` in Laws.
use Rattle.std.specs.Prelude.{ℕ, List, Result, ◌≡◌}
use Rattle.table.specs.Results.{Leaves}
use Rattle.table.specs.declared.Refusal.{Refusal}
use Rattle.number.specs.Reading.{read_number}
use Rattle.number.specs.Writing as numbers
use Rattle.event.specs.declared.Event.{Event}
use Rattle.trace.specs.Reading.{read_event}
use Rattle.trace.specs.Writing as traces
use Rattle.phy.specs.declared.Phy.{Phy}
use Rattle.run.specs.Running as runs
use Rattle.run.specs.declared.Stop.{Stop}
use Rattle.replies.specs.Replies.{number_reply, number_written, event_reply, event_written, stop_reply, run_reply}
use Rattle.replies.specs.declared.NumberReply.{NumberReply}
use Rattle.replies.specs.declared.WriteReply.{WriteReply}
use Rattle.replies.specs.declared.EventReply.{EventReply}
use Rattle.replies.specs.declared.StopReply.{StopReply}
use Rattle.replies.specs.declared.RunReply.{RunReply}

-- `read_number` of the slice s at a place
abbrev pub ReadsNumber : List ℕ → ℕ → NumberReply → Type 0
ReadsNumber s place r = r ≡ number_reply place (read_number s place)

-- `write_number` of v into the buffer `before` at a place, which leaves it as `after`
abbrev pub WritesNumber : (v : ℕ) (before : List ℕ) (place : ℕ) → WriteReply → (after : List ℕ) → Type 0
WritesNumber v before place r after =
    Leaves r (number_written (numbers.write_number v before place)) after (numbers.buffer_after v before place)

-- `read_event` of the trace s at a place
abbrev pub ReadsEvent : List ℕ → ℕ → EventReply → Type 0
ReadsEvent s place r = r ≡ event_reply place (read_event s place)

-- `write_event` of an event into the buffer `before` at a place, which leaves it as `after`
abbrev pub WritesEvent : (e : Event) (before : List ℕ) (place : ℕ) → WriteReply → (after : List ℕ) → Type 0
WritesEvent e before place r after =
    Leaves r (event_written (traces.write_event e before place)) after (traces.buffer_after e before place)

-- what was written, in numbers
abbrev pub TellsWritten : Result ℕ Refusal → WriteReply → Type 0
TellsWritten written r = r ≡ event_written (traces.tells_written written)

-- how a run stopped, in numbers
abbrev pub TellsStop : Stop → StopReply → Type 0
TellsStop stop r = r ≡ stop_reply (runs.tells_stop stop)

-- `run` of any phy over any trace under a budget, with the buffer `before`, which it leaves as `after`
abbrev pub Runs : (p : Phy) (s : List ℕ) (budget : ℕ) (before : List ℕ) → RunReply → (after : List ℕ) → Type 0
Runs p s budget before r after =
    Leaves r (run_reply (runs.run_of p s budget before)) after (runs.buffer_after p s budget before)
