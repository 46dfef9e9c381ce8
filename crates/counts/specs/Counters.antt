-- The counters: a row of sixteen for each bay. What is refused, and what raising and asking do.
use Rattle.std.specs.Prelude.{ℕ, ◌+◌, Bool, true, false, ◌&&◌, List, [], ◌≡◌, Result, Ok, Err, MatchResult}
use Rattle.std.specs.Prelude.{ltb, set, get_or, replicate}
use Rattle.table.specs.Choice.{pick}
use Rattle.table.specs.Refusals.{bad_event, no_such_phy, number_of}
use Rattle.table.specs.declared.Refusal.{Refusal}
use Rattle.counts.specs.Names.{row_count, column_count, ceiling, column_of}
use Rattle.counts.specs.declared.place.Place.{Place}

-- rows of counters, one row for each bay
abbrev pub Counters : Type 0
Counters = List (List ℕ)

-- every counter is 0
abbrev pub none : Counters
none = replicate row_count (replicate column_count 0)

-- the counter of a bay in a column
abbrev pub counter_at : Counters → (bay column : ℕ) → ℕ
counter_at t bay column = get_or (get_or t bay []) column 0

-- there is a counter of a bay in a column
abbrev pub is_counter : (bay column : ℕ) → Bool
is_counter bay column = ltb bay row_count && ltb column column_count

-- 12 for a bay that has no row, then 2 for a column that is none; else 0
abbrev pub refusal_at : (bay column : ℕ) → ℕ
refusal_at bay column = pick (ltb bay row_count) (pick (ltb column column_count) 0 bad_event) no_such_phy

-- 12 for a bay that has no row, then 2 for a code that is no answer, 0 among them; else 0
abbrev pub refusal_of : (bay answer : ℕ) → ℕ
refusal_of bay answer = refusal_at bay (column_of answer)

-- the number that a call without a value tells: 0, or a refusal's
abbrev pub refusal_told : Result (Unit {0}) Refusal → ℕ
refusal_told (Ok u) = 0
refusal_told (Err refusal) = number_of refusal

-- the place of the counter of a bay and an answer, or the refusal where there is none
abbrev pub FindsPlace : (bay answer : ℕ) → Result Place Refusal → Type 0
FindsPlace bay answer r =
    MatchResult r
    (λ p. (is_counter bay (column_of answer) ≡ true) × (p.row ≡ bay) × (p.column ≡ column_of answer))
    (λ refusal. (is_counter bay (column_of answer) ≡ false) × (number_of refusal ≡ refusal_of bay answer))

-- a counter one higher, up to its ceiling
abbrev pub one_higher : ℕ → ℕ
one_higher n = pick (ltb n ceiling) (n + 1) n

-- the counters, that of a bay in a column one higher
abbrev pub raised_at : Counters → (bay column : ℕ) → Counters
raised_at t bay column = set t bay (set (get_or t bay []) column (one_higher (counter_at t bay column)))

-- the counter of a bay and an answer is raised; refused, nothing changes
unfoldable pub raised_of : Counters → (bay answer : ℕ) → Counters
raised_of t bay answer = pick (is_counter bay (column_of answer)) (raised_at t bay (column_of answer)) t

-- a count, and a refusal or 0
pub record Count : Type 0 where
  pub count : ℕ
  pub refusal : ℕ

-- as it is written
abbrev pub counted : (count refusal : ℕ) → Count
counted count refusal = record { count = count; refusal = refusal }

-- what a question tells
abbrev pub tells : Result ℕ Refusal → Count
tells (Ok count) = counted count 0
tells (Err refusal) = counted 0 (number_of refusal)

-- the counter of a bay and an answer; refused, 0 and the refusal
unfoldable pub asked_of : Counters → (bay answer : ℕ) → Count
asked_of t bay answer =
    pick (is_counter bay (column_of answer)) (counted (counter_at t bay (column_of answer)) 0)
    (counted 0 (refusal_of bay answer))
