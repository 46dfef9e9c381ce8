-- What is promised of dword synchronization beyond the contracts. A heading names the file of proofs/.
use Rattle.std.specs.Prelude.{ℕ, ◌+◌, ◌-◌, ◌≤◌, ◌<◌, min, Bool, true, false, ◌||◌, List, [], ◌∷◌, ◌↔◌, ◌⊎◌, ◌≡◌, eqb}
use Rattle.std.specs.Prelude.{length}
use Rattle.table.specs.Choice.{pick, Row, ◌⇒◌, rows}
use Rattle.table.specs.Refusals.{bad_state, bad_event}
use Rattle.table.specs.Results.{Determines}
use Rattle.dws.specs.Names.{sync_acquired, lost1, lost1_recovered, lost2, lost2_recovered, lost3, lost3_recovered}
use Rattle.dws.specs.Names.{invalid_dword, data_dword, primitive, restart, no_report, acquired, lost}
use Rattle.dws.specs.Step.{fresh_state, refused, step_of}
use Rattle.dws.specs.Promises.{StartsFresh, Steps}

-- ---- results are determined (proofs/Determined)

-- two results that a function may give coincide
pub record Determined : Type 0 where
  pub fresh : Determines StartsFresh
  pub step : (s event : ℕ) → Determines (Steps s event)

-- ---- each refusal exactly when (proofs/Refusals)

-- 1 exactly where the state is above 9
abbrev pub BadStateExactly : Type 0
BadStateExactly = (s event : ℕ) → (step_of s event).refusal ≡ bad_state ↔ (lost3_recovered < s)

-- 2 exactly where the state is valid and the event above 3
abbrev pub BadEventExactly : Type 0
BadEventExactly = (s event : ℕ) → (step_of s event).refusal ≡ bad_event ↔ (s ≤ lost3_recovered) × (restart < event)

-- no refusal exactly where neither applies
abbrev pub NotRefusedExactly : Type 0
NotRefusedExactly = (s event : ℕ) → (step_of s event).refusal ≡ 0 ↔ (s ≤ lost3_recovered) × (event ≤ restart)

-- a refused step gives the state back and reports nothing
abbrev pub RefusedKeeps : Type 0
RefusedKeeps =
    (s event : ℕ) → ((step_of s event).refusal ≡ 0 → ⊥) → step_of s event ≡ refused s (step_of s event).refusal

-- a valid state stays valid
abbrev pub StaysValid : Type 0
StaysValid = (s event : ℕ) → s ≤ lost3_recovered → (step_of s event).state ≤ lost3_recovered

-- a restart reports nothing, from every state
abbrev pub RestartQuiet : Type 0
RestartQuiet = (s : ℕ) → (step_of s restart).report ≡ no_report

-- ---- lost dwords (proofs/Lost)

abbrev pub lost_rows : List (Row ℕ)
lost_rows =
    (sync_acquired ⇒ 0) ∷ (lost1 ⇒ 1) ∷ (lost1_recovered ⇒ 1) ∷ (lost2 ⇒ 2) ∷ (lost2_recovered ⇒ 2) ∷ (lost3 ⇒ 3)
    ∷ (lost3_recovered ⇒ 3) ∷ []

-- how many lost dwords a synchronized state remembers
abbrev pub lost_count : ℕ → ℕ
lost_count s = rows s lost_rows 0

-- synchronization is held in 3 to 9
pub record Synchronized (s : ℕ) : Type 0 where
  pub least : sync_acquired ≤ s
  pub most : s ≤ lost3_recovered

-- the state after a list of events
abbrev pub run : ℕ → List ℕ → ℕ
run s [] = s
run s (event ∷ events) = run (step_of s event).state events

-- a valid dword of either kind
abbrev pub Valid : ℕ → Type 0
Valid event = (event ≡ data_dword) ⊎ (event ≡ primitive)

abbrev pub AllValid : List ℕ → Type 0
AllValid [] = Unit
AllValid (event ∷ events) = Valid event × AllValid events

-- an invalid dword adds one, up to three, and reports nothing
pub record OneMore (s : ℕ) : Type 0 where
  pub held : Synchronized (step_of s invalid_dword).state
  pub counts : lost_count (step_of s invalid_dword).state ≡ lost_count s + 1
  pub quiet : (step_of s invalid_dword).report ≡ no_report

abbrev pub InvalidAdds : Type 0
InvalidAdds = (s : ℕ) → Synchronized s → lost_count s < 3 → OneMore s

-- the fourth loses synchronization
pub record Loses (s : ℕ) : Type 0 where
  pub anew : (step_of s invalid_dword).state ≡ fresh_state
  pub reports : (step_of s invalid_dword).report ≡ lost

abbrev pub FourthLoses : Type 0
FourthLoses = (s : ℕ) → Synchronized s → lost_count s ≡ 3 → Loses s

-- two valid dwords in a row take one off, and no more
abbrev pub TwoValidClearOne : Type 0
TwoValidClearOne = (s e f : ℕ) → Synchronized s → Valid e → Valid f → lost_count (run s (e ∷ f ∷ [])) ≡ lost_count s - 1

-- from 8 it takes six valid dwords to come back to 3
abbrev pub SixFromLost3 : Type 0
SixFromLost3 = (events : List ℕ) → AllValid events → run lost3 events ≡ sync_acquired ↔ (6 ≤ length events)

-- ---- acquiring (proofs/Acquired)

-- how many primitives a list has
abbrev pub primitives : List ℕ → ℕ
primitives [] = 0
primitives (event ∷ events) = pick (eqb event primitive) 1 0 + primitives events

-- how often a run over a list reports synchronization acquired
abbrev pub acquisitions : ℕ → List ℕ → ℕ
acquisitions s [] = 0
acquisitions s (event ∷ events) =
    pick (eqb (step_of s event).report acquired) 1 0 + acquisitions (step_of s event).state events

-- from fresh, with no invalid dword, three primitives acquire it, once, whatever data dwords stand between
pub record Acquires (events : List ℕ) : Type 0 where
  pub state : run fresh_state events ≡ min sync_acquired (primitives events)
  pub once : 3 ≤ primitives events → acquisitions fresh_state events ≡ 1
  pub before : primitives events < 3 → acquisitions fresh_state events ≡ 0

abbrev pub ThreePrimitives : Type 0
ThreePrimitives = (events : List ℕ) → AllValid events → Acquires events

-- whether acquisition is reported again before a loss is reported or a restart comes
abbrev pub acquired_still : ℕ → List ℕ → Bool
acquired_still s [] = false
acquired_still s (event ∷ events) =
    pick (eqb (step_of s event).report acquired)
    true
    (pick (eqb (step_of s event).report lost || eqb event restart) false
    (acquired_still (step_of s event).state events))

-- between two reports of acquisition there is a loss or a restart, over any events, refused ones among them
abbrev pub LostBetween : Type 0
LostBetween =
    (s event : ℕ) (events : List ℕ) → (step_of s event).report ≡ acquired
    → acquired_still (step_of s event).state events ≡ false
