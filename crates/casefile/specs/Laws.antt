-- What is promised of the case file's functions beyond the contracts. A heading names the file of proofs/.
use Rattle.std.specs.Prelude.{ℕ, Bool, true, ◌||◌, List, ◌≡◌, length, take}
use Rattle.std.proofs.Math.Seq.{slice}
use Rattle.table.specs.Results.{Determines, DeterminesLent}
use Rattle.output.specs.Laws.{SameUnlessLost, DeterminesUnlessLost}
use Rattle.casefile.specs.Records.{phy_numbers, phy_of}
use Rattle.casefile.specs.Window.{Place, none_ahead, enough_ahead, ahead_after}
use Rattle.casefile.specs.Promises.{TakesNumber, TakesBytes, TakesNumbers, MakesPhy, GivesNumbers, MakesEvent}
use Rattle.casefile.specs.Promises.{TakesArray, PutsPiece, PutsPieces, PutsRepeats, Slides, GoesOn}
use Rattle.casefile.specs.Promises.{EndsWithin, GoesToEnd, TakesPieces, TakesAll}
use Rattle.casefile.specs.declared.input.Input.{Input}
use Rattle.casefile.specs.declared.Ahead.{Ahead}
use Rattle.casefile.specs.declared.Turn.{Turn}
use Rattle.phy.specs.declared.Phy.{Phy}

-- ---- results are determined (proofs/Determined)

-- two results that a function may give coincide, as do the arrays and windows that it may leave; `next_case` where
-- nothing is read, since nothing or enough is ahead, and `put_repeats` and `take_all` unless a write failed; of
-- `take_case`, which any program has, the file
pub record Determined : Type 0 where
  pub take : (s : List ℕ) (place : ℕ) → Determines (TakesNumber s place)
  pub take_bytes : (s : List ℕ) (place : ℕ) → Determines (TakesBytes s place)
  pub take_many : (before s : List ℕ) (place : ℕ) → Determines (TakesNumbers before s place)
  pub take_array : (count : ℕ) (s : List ℕ) (place : ℕ) → Determines (TakesArray count s place)
  pub end : (old new later : Input) → GoesToEnd old new → GoesToEnd old later → new ≡ later
  pub phy_of : (f : List ℕ) → Determines (MakesPhy f)
  pub phy_numbers : (p : Phy) → Determines (GivesNumbers p)
  pub event_of : (f : List ℕ) → Determines (MakesEvent f)
  pub put_piece :
      (piece : List ℕ) (times : ℕ) (before : List ℕ) (n : ℕ)
      → DeterminesLent (λ (r : Bool × ℕ) after. PutsPiece piece times r.0 before n r.1 after)
  pub put_pieces :
      (s : List ℕ) (place : ℕ) (before : List ℕ) (n : ℕ)
      → DeterminesLent (λ (r : ℕ × Bool × ℕ) after. PutsPieces s place r.0 r.1 before n r.2 after)
  pub put_repeats :
      (kind : ℕ) (bytes before : List ℕ) (n : ℕ) → DeterminesUnlessLost (PutsRepeats kind bytes before n)
  pub next_case :
      (before : List ℕ) (turn : Turn) (at : Place)
      → none_ahead before (ahead_after turn at) || enough_ahead before (ahead_after turn at) ≡ true
      → DeterminesLent (GoesOn before turn at)
  pub take_case : (old new later : Input) → EndsWithin old new → EndsWithin old later → new.s ≡ later.s
  pub list_case : (old new later : Input) → TakesPieces old new → TakesPieces old later → new ≡ later
  pub take_all : (r q : ℕ) → TakesAll r → TakesAll q → SameUnlessLost r q

-- ---- the window (proofs/Sliding)

-- what was ahead in the window is ahead still, before what was read
abbrev pub AheadKept : Type 0
AheadKept =
    (before : List ℕ) (ahead r : Ahead) (after : List ℕ) → Slides before ahead r after
    → take (length (slice ahead.from ahead.to before)) (slice r.from r.to after)
    ≡ slice ahead.from ahead.to before

-- ---- records (proofs/Determined)

-- `phy_of` makes a phy again from its numbers
abbrev pub PhyBack : Type 0
PhyBack = (p : Phy) → phy_of (phy_numbers p) ≡ p
