-- What is promised of replies beyond the contracts: each determines its result and the buffer (proofs/Determined).
use Rattle.std.specs.Prelude.{ℕ, List, Result}
use Rattle.table.specs.Results.{Determines, DeterminesLent}
use Rattle.table.specs.declared.Refusal.{Refusal}
use Rattle.event.specs.declared.Event.{Event}
use Rattle.phy.specs.declared.Phy.{Phy}
use Rattle.run.specs.declared.Stop.{Stop}
use Rattle.replies.specs.Promises.{ReadsNumber, WritesNumber, ReadsEvent, WritesEvent, TellsWritten, TellsStop, Runs}

-- two results that a function may give coincide, and so do the buffers that it may leave
pub record Determined : Type 0 where
  pub read_number : (s : List ℕ) (place : ℕ) → Determines (ReadsNumber s place)
  pub write_number : (v : ℕ) (before : List ℕ) (place : ℕ) → DeterminesLent (WritesNumber v before place)
  pub read_event : (s : List ℕ) (place : ℕ) → Determines (ReadsEvent s place)
  pub write_event : (e : Event) (before : List ℕ) (place : ℕ) → DeterminesLent (WritesEvent e before place)
  pub write_reply : (written : Result ℕ Refusal) → Determines (TellsWritten written)
  pub stop_reply : (stop : Stop) → Determines (TellsStop stop)
  pub run : (p : Phy) (s : List ℕ) (budget : ℕ) (before : List ℕ) → DeterminesLent (Runs p s budget before)
