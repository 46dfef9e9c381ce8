-- What reading, writing and a run say, as records of numbers.
use Rattle.std.specs.Prelude.{ℕ, []}
use Rattle.number.specs.Reading as number
use Rattle.number.specs.Writing as numbers
use Rattle.event.specs.Table.{event_of}
use Rattle.trace.specs.Reading as trace
use Rattle.trace.specs.Writing as traces
use Rattle.run.specs.Running.{Halt, at_end, at_budget, at_fault, refused, Told}
use Rattle.replies.specs.declared.NumberReply.{NumberReply}
use Rattle.replies.specs.declared.WriteReply.{WriteReply}
use Rattle.replies.specs.declared.EventReply.{EventReply}
use Rattle.replies.specs.declared.StopReply.{StopReply}
use Rattle.replies.specs.declared.RunReply.{RunReply}

-- ---- numbers

-- no value, and the place does not move
abbrev pub no_number : (place refusal : ℕ) → NumberReply
no_number place refusal = record { value = 0; next = place; refusal = refusal }

-- the number read at a place, and the place after it
abbrev pub number_reply : (place : ℕ) → number.Told → NumberReply
number_reply place (number.value v next) = record { value = v; next = next; refusal = 0 }
number_reply place (number.refused n) = no_number place n

-- how many bytes were written; refused, none
abbrev pub number_written : numbers.ToldWritten → WriteReply
number_written (numbers.wrote n) = record { length = n; refusal = 0 }
number_written (numbers.refused n) = record { length = 0; refusal = n }

-- ---- events

-- how reading ended: with an event, at the trace's end, or at a fault
abbrev pub found_event : ℕ
found_event = 0

abbrev pub found_end : ℕ
found_end = 1

abbrev pub found_fault : ℕ
found_fault = 2

-- a zero event, and the place does not move
abbrev pub no_event : (place how refusal : ℕ) → EventReply
no_event place how refusal = record { event = event_of 0 []; next = place; how = how; refusal = refusal }

-- how reading ended
abbrev pub how_read : trace.Told → ℕ
how_read (trace.event e next) = found_event
how_read trace.end = found_end
how_read (trace.refused n at) = found_fault

-- the number of a fault, or 0
abbrev pub fault_read : trace.Told → ℕ
fault_read (trace.event e next) = 0
fault_read trace.end = 0
fault_read (trace.refused n at) = n

-- what reading says at a place: without an event a zero event, and the place does not move
abbrev pub event_reply : (place : ℕ) → trace.Told → EventReply
event_reply place t =
    record {
      event = trace.event_given t;
      next = trace.place_reached place t;
      how = how_read t;
      refusal = fault_read t;
    }

-- the number of a refusal, or 0
abbrev pub refusal_written : traces.ToldWritten → ℕ
refusal_written (traces.wrote n) = 0
refusal_written (traces.refused n) = n

-- how many bytes were written; refused, none
abbrev pub event_written : traces.ToldWritten → WriteReply
event_written t = record { length = traces.length_given t; refusal = refusal_written t }

-- ---- runs

-- how a run stopped: at the trace's end, at the budget, or at a fault
abbrev pub stopped_at_end : ℕ
stopped_at_end = 0

abbrev pub stopped_at_budget : ℕ
stopped_at_budget = 1

abbrev pub stopped_at_fault : ℕ
stopped_at_fault = 2

-- at the end or the budget, or refused
abbrev pub at_no_fault : (how refusal : ℕ) → StopReply
at_no_fault how refusal = record { how = how; fault = 0; place = 0; refusal = refusal }

-- at a trace fault: its number, and the place of the event's first byte
abbrev pub fault_at : (fault place : ℕ) → StopReply
fault_at fault place = record { how = stopped_at_fault; fault = fault; place = place; refusal = 0 }

-- what stopped a run; a refused run says nothing but its refusal
abbrev pub stop_reply : Halt → StopReply
stop_reply at_end = at_no_fault stopped_at_end 0
stop_reply at_budget = at_no_fault stopped_at_budget 0
stop_reply (at_fault n at) = fault_at n at
stop_reply (refused n) = at_no_fault 0 n

-- what a run tells
abbrev pub run_reply : Told → RunReply
run_reply t = record { next = t.state; count = t.count; stop = stop_reply t.halt }
