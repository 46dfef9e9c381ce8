-- What each function promises, cited by its `ensures` and, of the public ones, by `Determined` in Laws.
use Rattle.std.specs.Prelude.{ℕ, ◌%◌, ◌≤◌, true, List, ◌≡◌, length}
use Rattle.std.proofs.lemmas.List.Edits.{sets}
use Rattle.table.specs.Results.{Leaves}
use Rattle.phy.specs.declared.Phy.{Phy}
use Rattle.bay.specs.State.{valid_of}
use Rattle.bay.specs.declared.Bay.{Bay}
use Rattle.run.specs.Running.{taking, byte_for, bytes_of, Told, told_of, run_of, buffer_after, tells}
use Rattle.run.specs.declared.Ran.{Ran}

-- `byte_for` of a refusal and an answer
abbrev pub GivesByte : (refusal answer : ℕ) → ℕ → Type 0
GivesByte refusal answer r = r ≡ byte_for refusal answer % 256

-- what `take_events` asks: the bay is valid, and the buffer has room for the budget
pub record Ready (b : Bay) (budget : ℕ) (buffer : List ℕ) : Type 0 where
  pub valid : valid_of b ≡ true
  pub room : budget ≤ length buffer

-- a bay over a trace under a budget, with the buffer `before`: this is told, and the buffer is left as `after`
abbrev pub Gives : (b : Bay) (s : List ℕ) (budget : ℕ) (before : List ℕ) → Told → (after : List ℕ) → Type 0
Gives b s budget before t after =
    Leaves t (told_of b (taking budget s 0)) after (sets before 0 (bytes_of b (taking budget s 0).events))

-- `take_events` of a bay over a trace under a budget, with the buffer `before`, which it leaves as `after`
abbrev pub TakesEvents : (b : Bay) (s : List ℕ) (budget : ℕ) (before : List ℕ) → Ran → (after : List ℕ) → Type 0
TakesEvents b s budget before r after = Gives b s budget before (tells r) after

-- `run` of any phy over any trace under a budget, with the buffer `before`, which it leaves as `after`
abbrev pub Runs : (p : Phy) (s : List ℕ) (budget : ℕ) (before : List ℕ) → Ran → (after : List ℕ) → Type 0
Runs p s budget before r after = Leaves (tells r) (run_of p s budget before) after (buffer_after p s budget before)
