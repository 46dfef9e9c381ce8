-- How the code goes through a run: from stamp to stamp, the phy alone in between. What a run is stands in Running;
-- here is what the code's own functions promise each other.
use Rattle.std.specs.Prelude.{ℕ, ◌+◌, ◌≤◌, ◌<◌, true, List, Result, Ok, Err, ◌≡◌, length}
use Rattle.std.proofs.lemmas.List.Edits.{sets}
use Rattle.number.specs.declared.Found.{Found}
use Rattle.event.specs.Table.{stamp_of}
use Rattle.trace.specs.Reading as reading
use Rattle.trace.specs.Reading.{read_event}
use Rattle.phy.specs.State as phy
use Rattle.phy.specs.declared.Phy.{Phy}
use Rattle.bay.specs.State.{valid_of}
use Rattle.bay.specs.Log.{after}
use Rattle.bay.specs.declared.Bay.{Bay}
use Rattle.run.specs.Running.{taking, bytes_of, told, told_of, tells_stop}
use Rattle.run.specs.Promises.{Gives}
use Rattle.run.specs.declared.Stop.{Stop}
use Rattle.run.specs.declared.Gone.{Gone}

-- the run of a bay b, of which so many events are taken and the bay is this one now: what is left gives the whole
pub record Stage
    (b : Bay) (s : List ℕ) (budget : ℕ) (before : List ℕ) (state : Bay) (place count : ℕ) (buffer : List ℕ)
    : Type 0
  where
    pub left : ℕ
    pub spent : count + left ≡ budget
    pub valid : valid_of state ≡ true
    pub room : budget ≤ length before
    pub long : length buffer ≡ length before
    pub says :
        told_of b (taking budget s 0)
        ≡ told (count + length (taking left s place).events) (after state (taking left s place).events)
        (taking left s place).halt
    pub bytes :
        sets before 0 (bytes_of b (taking budget s 0).events)
        ≡ sets buffer count (bytes_of state (taking left s place).events)

-- a phy with a clock
abbrev pub clocked : Phy → (base baseSet : ℕ) → Bay
clocked p base baseSet = record { phy = p; base = base; baseSet = baseSet }

-- what `to_stamp` asks: the phy is valid, and the buffer has room for the budget, which is not exceeded
pub record ReadyOn (p : Phy) (count budget : ℕ) (buffer : List ℕ) : Type 0 where
  pub valid : phy.valid_of p ≡ true
  pub within : count ≤ budget
  pub room : budget ≤ length buffer

-- a stamp stands at a place, with budget left
pub record Stamped
    (b : Bay) (s : List ℕ) (budget : ℕ) (before : List ℕ) (state : Bay) (count : ℕ) (after : List ℕ) (counter next : ℕ)
    : Type 0
  where
    pub left : count < budget
    pub place : ℕ
    pub stands : read_event s place ≡ reading.event (stamp_of counter) next
    pub stage : Stage b s budget before state place count after

-- what comes behind the events that it took: a stamp, or the end of the run
abbrev pub Comes :
    (b : Bay) (s : List ℕ) (budget : ℕ) (before : List ℕ) (state : Bay) (count : ℕ) (after : List ℕ)
    → Result (Found ℕ) Stop → Type 0
Comes b s budget before state count after (Ok stamp) =
    Stamped b s budget before state count after stamp.value stamp.next
Comes b s budget before state count after (Err stop) =
    Gives b s budget before (told count state (tells_stop stop)) after

-- `to_stamp` of a phy at a place, with the buffer `before`, which it leaves as `after`: of whatever run this is a stage
pub record GoesOn (p : Phy) (s : List ℕ) (place count budget : ℕ) (before : List ℕ) (r : Gone) (after : List ℕ)
    : Type 0
  where
    pub far : count ≤ r.count
    pub within : r.count ≤ budget
    pub same : length after ≡ length before
    pub comes :
        (b : Bay) (lent : List ℕ) (base baseSet : ℕ)
        → Stage b s budget lent (clocked p base baseSet) place count before
        → Comes b s budget lent (clocked r.phy base baseSet) r.count after r.behind
