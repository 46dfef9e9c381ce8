-- What each public function promises, cited by its `ensures` and by `Determined` in Laws.
use Rattle.std.specs.Prelude.{ℕ, List, ◌≡◌, Result}
use Rattle.table.specs.Results.{Leaves}
use Rattle.table.specs.declared.Refusal.{Refusal}
use Rattle.counts.specs.Counters.{Counters, none, refusal_of, raised_of, asked_of, refusal_told, tells}
use Rattle.counts.specs.Lent.{lent_refusal, lent_raised, lent_asked, lent_cleared, clear_refusal}

-- `refusal` of a bay and an answer
abbrev pub Refuses : (bay answer : ℕ) → Result (Unit {0}) Refusal → Type 0
Refuses bay answer r = refusal_told r ≡ refusal_of bay answer

-- `cleared`
abbrev pub Clears : Counters → Type 0
Clears r = r ≡ none

-- `raised` of counters
abbrev pub Raises : Counters → (bay answer : ℕ) → Counters → Type 0
Raises t bay answer r = r ≡ raised_of t bay answer

-- `asked` of counters
abbrev pub Asks : Counters → (bay answer : ℕ) → Result ℕ Refusal → Type 0
Asks t bay answer r = tells r ≡ asked_of t bay answer

-- `clear` of counters as they are lent, which it leaves as `after`
abbrev pub ClearsLent : (before : List ℕ) → Result (Unit {0}) Refusal → (after : List ℕ) → Type 0
ClearsLent before r after = Leaves (refusal_told r) (clear_refusal before) after (lent_cleared before)

-- `raise` of them
abbrev pub RaisesLent : (before : List ℕ) → (bay answer : ℕ) → Result (Unit {0}) Refusal → (after : List ℕ) → Type 0
RaisesLent before bay answer r after =
    Leaves (refusal_told r) (lent_refusal before bay answer) after (lent_raised before bay answer)

-- `ask` of them
abbrev pub AsksLent : List ℕ → (bay answer : ℕ) → Result ℕ Refusal → Type 0
AsksLent ns bay answer r = tells r ≡ lent_asked ns bay answer
