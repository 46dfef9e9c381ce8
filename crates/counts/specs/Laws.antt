-- What is promised of counters beyond the contracts. A heading names the file of proofs/.
use Rattle.std.specs.Prelude.{ℕ, ◌+◌, ◌≤◌, ◌<◌, true, false, List, [], ◌∷◌, ◌↔◌, ◌≡◌, length}
use Rattle.table.specs.Refusals.{bad_state, bad_event, no_such_phy}
use Rattle.table.specs.Results.{Determines, DeterminesLent}
use Rattle.phy_laws.specs.Waiting.{is_answer}
use Rattle.counts.specs.Names.{row_count, column_count, ceiling, answers, column_of, answer_at}
use Rattle.counts.specs.Counters.{Counters, none, counter_at, refusal_of, raised_of, asked_of, counted}
use Rattle.counts.specs.Lent.{lent_length, lent_refusal, lent_raised, lent_asked, clear_refusal, lent_cleared}
use Rattle.counts.specs.Walk.{at_most}
use Rattle.counts.specs.Promises.{Refuses, Clears, Raises, Asks, ClearsLent, RaisesLent, AsksLent}

-- ---- results are determined (proofs/Determined)

-- two results that a function may give coincide, as do the numbers that it leaves
pub record Determined : Type 0 where
  pub refusal : (bay answer : ℕ) → Determines (Refuses bay answer)
  pub cleared : Determines Clears
  pub raised : (t : Counters) (bay answer : ℕ) → Determines (Raises t bay answer)
  pub asked : (t : Counters) (bay answer : ℕ) → Determines (Asks t bay answer)
  pub clear : (before : List ℕ) → DeterminesLent (ClearsLent before)
  pub raise : (before : List ℕ) (bay answer : ℕ) → DeterminesLent (RaisesLent before bay answer)
  pub ask : (ns : List ℕ) (bay answer : ℕ) → Determines (AsksLent ns bay answer)

-- ---- columns (proofs/Columns)

-- each number of a list is below the next
abbrev pub Ascending : List ℕ → Type 0
Ascending [] = Unit
Ascending (n ∷ []) = Unit
Ascending (n ∷ m ∷ rest) = (n < m) × Ascending (m ∷ rest)

-- the columns: as many as there are answers, in ascending order of their codes, and each code that is an answer has one
pub record Columns : Type 0 where
  pub many : length answers ≡ column_count
  pub ascending : Ascending answers
  pub exactly : (answer : ℕ) → column_of answer < column_count ↔ (is_answer answer ≡ true)
  pub back : (answer : ℕ) → is_answer answer ≡ true → answer_at (column_of answer) ≡ answer

-- ---- each refusal exactly when (proofs/Refusals)

-- 12: the bay is not below the number of rows, whatever the answer
abbrev pub NoSuchBayExactly : Type 0
NoSuchBayExactly = (bay answer : ℕ) → refusal_of bay answer ≡ no_such_phy ↔ (row_count ≤ bay)

-- 2: it is, and the code is no answer
abbrev pub BadAnswerExactly : Type 0
BadAnswerExactly =
    (bay answer : ℕ) → refusal_of bay answer ≡ bad_event ↔ ((bay < row_count) × (is_answer answer ≡ false))

-- 0: it is, and the code is an answer
abbrev pub NotRefusedExactly : Type 0
NotRefusedExactly = (bay answer : ℕ) → refusal_of bay answer ≡ 0 ↔ ((bay < row_count) × (is_answer answer ≡ true))

-- refused, no counter changes, and the refusal is all that is told
pub record Untouched (t : Counters) (bay answer : ℕ) : Type 0 where
  pub raising : raised_of t bay answer ≡ t
  pub asking : asked_of t bay answer ≡ counted 0 (refusal_of bay answer)

abbrev pub RefusedKeeps : Type 0
RefusedKeeps = (t : Counters) (bay answer : ℕ) → (refusal_of bay answer ≡ 0 → ⊥) → Untouched t bay answer

-- as they are lent: 1 for another length, whatever the bay and the answer, and with the right one as ever
pub record LentRefuses (ns : List ℕ) (bay answer : ℕ) : Type 0 where
  pub another_length : lent_refusal ns bay answer ≡ bad_state ↔ (length ns ≡ lent_length → ⊥)
  pub others : length ns ≡ lent_length → lent_refusal ns bay answer ≡ refusal_of bay answer
  pub keeps : (lent_refusal ns bay answer ≡ 0 → ⊥) → lent_raised ns bay answer ≡ ns
  pub tells : (lent_refusal ns bay answer ≡ 0 → ⊥) → lent_asked ns bay answer ≡ counted 0 (lent_refusal ns bay answer)
  pub clear : (clear_refusal ns ≡ 0 → ⊥) → (clear_refusal ns ≡ bad_state) × (lent_cleared ns ≡ ns)

abbrev pub LentRefusesAll : Type 0
LentRefusesAll = (ns : List ℕ) (bay answer : ℕ) → LentRefuses ns bay answer

-- ---- one counter alone (proofs/One)

-- each row has as many counters as there are columns
abbrev pub AllLong : Counters → Type 0
AllLong [] = Unit
AllLong (row ∷ rows) = (length row ≡ column_count) × AllLong rows

-- rows and columns as many as there are, and no counter past its ceiling
pub record Sound (t : Counters) : Type 0 where
  pub rows : length t ≡ row_count
  pub columns : AllLong t
  pub low : (bay column : ℕ) → counter_at t bay column ≤ ceiling

-- so are cleared ones
abbrev pub NoneSound : Type 0
NoneSound = Sound none

-- raising raises the counter of a bay and an answer, up to its ceiling, and leaves every other as it was
pub record RaisesOne (t : Counters) (bay answer : ℕ) : Type 0 where
  pub sound : Sound (raised_of t bay answer)
  pub own :
      refusal_of bay answer ≡ 0
      → counter_at (raised_of t bay answer) bay (column_of answer) ≡ at_most (counter_at t bay (column_of answer) + 1)
  pub others :
      (other column : ℕ) → ((other ≡ bay) × (column ≡ column_of answer) → ⊥)
      → counter_at (raised_of t bay answer) other column ≡ counter_at t other column

abbrev pub RaisesOneAlone : Type 0
RaisesOneAlone = (t : Counters) (bay answer : ℕ) → Sound t → RaisesOne t bay answer
