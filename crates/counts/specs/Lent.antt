-- Counters as they are lent: the rows one after the other, sixteen numbers each. Another length is a bad state.
use Rattle.std.specs.Prelude.{ℕ, ◌+◌, ◌*◌, Bool, true, false, ◌&&◌, List, [], ◌∷◌, ◌++◌, ◌≡◌, ◌<◌, eqb, length}
use Rattle.std.specs.Prelude.{set, get_or, replicate, Result, MatchResult}
use Rattle.table.specs.Choice.{pick}
use Rattle.table.specs.Refusals.{bad_state, number_of}
use Rattle.table.specs.declared.Refusal.{Refusal}
use Rattle.counts.specs.Names.{row_count, column_count, column_of}
use Rattle.counts.specs.Counters.{Counters, Count, refusal_at, is_counter, one_higher, counted, refusal_told}

-- so many numbers are lent
abbrev pub lent_length : ℕ
lent_length = row_count * column_count

-- the rows one after the other
abbrev pub lent_as : Counters → List ℕ
lent_as [] = []
lent_as (row ∷ rows) = row ++ lent_as rows

-- numbers are as many as are lent
abbrev pub good_length : List ℕ → Bool
good_length ns = eqb (length ns) lent_length

-- the place of the counter of a bay in a column
abbrev pub place_of : (bay column : ℕ) → ℕ
place_of bay column = bay * column_count + column

-- 1 for another length, then as ever
abbrev pub lent_refusal_at : (long bay column : ℕ) → ℕ
lent_refusal_at long bay column = pick (eqb long lent_length) (refusal_at bay column) bad_state

abbrev pub lent_refusal : List ℕ → (bay answer : ℕ) → ℕ
lent_refusal ns bay answer = lent_refusal_at (length ns) bay (column_of answer)

-- so many numbers are judged: 1 for another length
abbrev pub Measures : (long : ℕ) → Result (Unit {0}) Refusal → Type 0
Measures long r = refusal_told r ≡ pick (eqb long lent_length) 0 bad_state

-- the place of the counter of a bay and an answer among so many numbers, or the refusal where there is none
abbrev pub FindsLent : (long bay answer : ℕ) → Result ℕ Refusal → Type 0
FindsLent long bay answer r =
    MatchResult r
    (λ place.
    (eqb long lent_length && is_counter bay (column_of answer) ≡ true) × (place ≡ place_of bay (column_of answer))
    × (place < lent_length))
    (λ refusal.
    (eqb long lent_length && is_counter bay (column_of answer) ≡ false)
    × (number_of refusal ≡ lent_refusal_at long bay (column_of answer)))

-- there is a counter of a bay in a column among the numbers
abbrev pub is_lent : List ℕ → (bay column : ℕ) → Bool
is_lent ns bay column = good_length ns && is_counter bay column

-- the counter at a place one higher
abbrev pub lent_raised_at : List ℕ → (place : ℕ) → List ℕ
lent_raised_at ns place = set ns place (one_higher (get_or ns place 0))

-- the counter of a bay and an answer is raised; refused, nothing changes
unfoldable pub lent_raised : List ℕ → (bay answer : ℕ) → List ℕ
lent_raised ns bay answer =
    pick (is_lent ns bay (column_of answer)) (lent_raised_at ns (place_of bay (column_of answer))) ns

-- the counter of a bay and an answer; refused, 0 and the refusal
unfoldable pub lent_asked : List ℕ → (bay answer : ℕ) → Count
lent_asked ns bay answer =
    pick (is_lent ns bay (column_of answer)) (counted (get_or ns (place_of bay (column_of answer)) 0) 0)
    (counted 0 (lent_refusal ns bay answer))

-- every counter is 0; numbers of another length are as they were
abbrev pub lent_cleared : List ℕ → List ℕ
lent_cleared ns = pick (good_length ns) (replicate lent_length 0) ns

-- and are refused with 1
abbrev pub clear_refusal : List ℕ → ℕ
clear_refusal ns = pick (good_length ns) 0 bad_state
