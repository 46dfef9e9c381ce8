-- What each function promises, cited by its `ensures` and, of the public ones, by `Determined` in Laws.
use Rattle.std.specs.Prelude.{ℕ, List, ◌≡◌, length}
use Rattle.event.specs.declared.Open.{Open}
use Rattle.queue.specs.Lent.{open_from, queue_in, good_lent, joined, advanced}
use Rattle.queue.specs.declared.Judgement.{Judgement}

-- `judged` of numbers
abbrev pub Judges : List ℕ → Judgement → Type 0
Judges ns r = r ≡ record { good = good_lent ns; waiting = length (queue_in ns) }

-- `oldest` of numbers
abbrev pub GivesOldest : List ℕ → Open → Type 0
GivesOldest ns r = r ≡ open_from ns

-- `join` of one Open more, which leaves the numbers as `after`
abbrev pub Joins : (before : List ℕ) (waiting : ℕ) → Open → (after : List ℕ) → Type 0
Joins before waiting o after = after ≡ joined before waiting o

-- `advance`, which leaves the numbers as `after`
abbrev pub Advances : (before : List ℕ) (waiting : ℕ) (after : List ℕ) → Type 0
Advances before waiting after = after ≡ advanced before waiting
