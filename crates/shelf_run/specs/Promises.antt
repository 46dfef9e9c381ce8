-- What each function promises, cited by its `ensures` and, of the public one, by `Determined` in Laws.
use Rattle.std.specs.Prelude.{ℕ, List, ◌≡◌, length}
use Rattle.std.proofs.lemmas.List.Edits.{sets}
use Rattle.bay.specs.declared.Bay.{Bay}
use Rattle.port.specs.declared.Scan.{Scan}
use Rattle.port.specs.declared.Standing.{Standing}
use Rattle.shelf_run.specs.Running.{ran, ran_of, row_after, numbers_after, buffer_after}
use Rattle.shelf_run.specs.Stages.{Went, going, gone, gone_of, queue_after_run, buffer_after_run}
use Rattle.shelf_run.specs.declared.Gone.{Gone}
use Rattle.shelf_run.specs.declared.Ran.{Ran}

-- a course of events w was gone through, with the buffer `before`: the table, the queue and the buffer are left so
pub record Through (w : Went) (before : List ℕ) (r : Gone) (queue after : List ℕ) : Type 0 where
  pub says : r ≡ gone w.bays (ran (length w.bytes) w.halt)
  pub queued : queue ≡ w.queue
  pub bytes : after ≡ sets before 0 w.bytes

-- `take_events` of a trace under a budget that the buffer has room for
abbrev pub TakesEvents :
    Standing → List Bay → (numbers s : List ℕ) → (budget : ℕ) → (before : List ℕ) → Gone → (queue after : List ℕ)
    → Type 0
TakesEvents st bays numbers s budget before r queue after =
    Through (going budget s 0 st bays numbers) before r queue after

-- `over` of what was surveyed, of a table and a queue
abbrev pub GoesOver :
    Scan → List Bay → (numbers s : List ℕ) → (budget : ℕ) → (before : List ℕ) → Gone → (queue after : List ℕ) → Type 0
GoesOver scan bays numbers s budget before r queue after =
    (r ≡ gone_of scan bays numbers s budget before)
    × (queue ≡ queue_after_run scan bays numbers s budget before)
    × (after ≡ buffer_after_run scan bays numbers s budget before)

-- `run` of a row and a queue as they are lent, over any trace under a budget, with the buffer `before`: it leaves the
-- row, the queue and the buffer so
pub record Runs (row : List Bay) (numbers s : List ℕ) (budget : ℕ) (before : List ℕ) (r : Ran) (left : List Bay)
    (queue after : List ℕ) : Type 0
  where
    pub says : r ≡ ran_of row numbers s budget before
    pub row_left : left ≡ row_after row numbers s budget before
    pub queue_left : queue ≡ numbers_after row numbers s budget before
    pub buffer_left : after ≡ buffer_after row numbers s budget before
