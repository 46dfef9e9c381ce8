-- What is promised of the functions beyond the contracts. A heading names the file of proofs/.
use Rattle.std.specs.Prelude.{ℕ, ◌≤◌, List, ◌⊎◌, ◌≡◌, length}
use Rattle.std.specs.Borrow.{MutBor}
use Rattle.table.specs.Results.{Determines, DeterminesLent}
use Rattle.output.specs.Writing.{lost}
use Rattle.output.specs.Promises.{StartsText, TellsValue, ShowsBytes, Puts, PutsAll, PutsMore, PutsNumbers, WritesOut}
use Rattle.output.specs.Promises.{TellsLost, PutsLine, EndsLine, PutsNumbersLine, Loses, ReadsInto}
use Rattle.output.specs.declared.Text.{Text}

-- ---- results are determined (proofs/Determined)

-- two results of a write coincide unless one of the two failed: no contract can say whether a write fails
abbrev pub SameUnlessLost : (r q : ℕ) → Type 0
SameUnlessLost r q = (r ≡ q) ⊎ ((r ≡ lost) ⊎ (q ≡ lost))

-- the same of a contract that also leaves bytes: those coincide always
abbrev pub DeterminesUnlessLost : (ℕ → List ℕ → Type 0) → Type 0
DeterminesUnlessLost Contract =
    (r q : ℕ) (after later : List ℕ) → Contract r after → Contract q later → SameUnlessLost r q × (after ≡ later)

-- two results that a function may give coincide, and so do the buffers that it may leave; of `read_full` where there is
-- no room, since nothing is read
pub record Determined : Type 1 where
  pub new :
      (buffer : MutBor (List ℕ)) (r q : Text) → StartsText buffer r → StartsText buffer q
      → (r.out.now ≡ q.out.now) × (r.n ≡ q.n)
  pub number : {T : Type 0} (value : T → ℕ) (v : T) → Determines (TellsValue value v)
  pub bytes : (buffer : List ℕ) (n : ℕ) → Determines (ShowsBytes buffer n)
  pub put_all : (bytes before : List ℕ) (n : ℕ) → DeterminesLent (PutsAll bytes before n)
  pub put_more :
      {T : Type 0} (value : T → ℕ) (numbers : List T) (before : List ℕ) (n : ℕ)
      → DeterminesLent (PutsMore value numbers before n)
  pub put_numbers : (first : ℕ) (others before : List ℕ) (n : ℕ) → DeterminesLent (PutsNumbers first others before n)
  pub write_gathered : (n least r q : ℕ) → WritesOut n least r → WritesOut n least q → SameUnlessLost r q
  pub write_out : (n least r q : ℕ) → WritesOut n least r → WritesOut n least q → SameUnlessLost r q
  pub is_lost : (n : ℕ) → Determines (TellsLost n)
  pub end_line : (before : List ℕ) (n : ℕ) → DeterminesUnlessLost (EndsLine before n)
  pub put_line :
      (first : ℕ) (others before : List ℕ) (n : ℕ) → DeterminesUnlessLost (PutsNumbersLine first others before n)
  pub fail : Determines Loses
  pub read_full : Determines (ReadsInto 0)

-- ---- a write that failed stays told (proofs/Places)

-- after it nothing more is stored, in any buffer that a machine can have
abbrev pub StaysLost : ((before : List ℕ) (n r : ℕ) (after : List ℕ) → Type 0) → Type 0
StaysLost Contract =
    (before : List ℕ) (r : ℕ) (after : List ℕ) → length before ≤ lost → Contract before lost r after
    → (r ≡ lost) × (after ≡ before)

abbrev pub PutsStayLost : Type 0
PutsStayLost = (bytes : List ℕ) → StaysLost (Puts bytes)

abbrev pub LinesStayLost : Type 0
LinesStayLost = (bytes : List ℕ) → StaysLost (PutsLine bytes)

-- and writing out leaves it so
abbrev pub OutStaysLost : Type 0
OutStaysLost = (least r : ℕ) → WritesOut lost least r → r ≡ lost
