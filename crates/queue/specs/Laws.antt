-- What is promised of lent queues beyond the contracts. A heading names the file of proofs/.
use Rattle.std.specs.Prelude.{ℕ, suc, ◌≤◌, ◌<◌, true, List, [], ◌∷◌, ◌++◌, ◌↔◌, ◌≡◌, length}
use Rattle.table.specs.Results.{Determines}
use Rattle.event.specs.Table.{open_known}
use Rattle.event.specs.declared.Open.{Open}
use Rattle.queue.specs.Lent.{most_waiting, lent_length, lent_as, open_from, queue_in, good_lent, joined, advanced}
use Rattle.queue.specs.Lent as lent
use Rattle.queue.specs.Promises.{Judges, GivesOldest, Joins, Advances}

-- ---- results are determined (proofs/Determined)

-- two results that a function may give coincide, and so do the numbers that it may leave
pub record Determined : Type 0 where
  pub judged : (ns : List ℕ) → Determines (Judges ns)
  pub oldest : (ns : List ℕ) → Determines (GivesOldest ns)
  pub join : (before : List ℕ) (waiting : ℕ) (o : Open) → Determines (Joins before waiting o)
  pub advance : (before : List ℕ) (waiting : ℕ) → Determines (Advances before waiting)

-- ---- what is held (proofs/Held)

-- each of these is known
abbrev pub AllKnown : List Open → Type 0
AllKnown [] = Unit
AllKnown (o ∷ os) = (open_known o ≡ true) × AllKnown os

-- Opens that may wait: each is known, and they are no more than have room
pub record MayWait (os : List Open) : Type 0 where
  pub known : AllKnown os
  pub few : length os ≤ most_waiting

-- whatever the numbers are, the Opens that wait by them may
abbrev pub HeldKnown : Type 0
HeldKnown = (ns : List ℕ) → MayWait (queue_in ns)

-- ---- Opens as they are lent (proofs/Lending)

-- as many numbers are lent for any Opens that have room
abbrev pub LentLong : Type 0
LentLong = (os : List Open) → length os ≤ most_waiting → length (lent_as os) ≡ lent_length

-- the numbers of Opens are good, and tell these Opens
pub record TellsBack (os : List Open) : Type 0 where
  pub good : good_lent (lent_as os) ≡ true
  pub same : queue_in (lent_as os) ≡ os

abbrev pub LentBack : Type 0
LentBack = (os : List Open) → MayWait os → TellsBack os

-- numbers that are good are those of the Opens that they tell
abbrev pub GoodIsLent : Type 0
GoodIsLent = (ns : List ℕ) → good_lent ns ≡ true → ns ≡ lent_as (queue_in ns)

-- Opens that may wait, of which these are the numbers
pub record LentOf (ns : List ℕ) : Type 0 where
  pub opens : List Open
  pub wait : MayWait opens
  pub whole : ns ≡ lent_as opens

-- numbers are good exactly where there are such Opens
abbrev pub GoodExactly : Type 0
GoodExactly = (ns : List ℕ) → good_lent ns ≡ true ↔ LentOf ns

-- ---- moves on Opens as they are lent (proofs/Moves)

-- the Open that joins is the last
abbrev pub JoinsLast : Type 0
JoinsLast =
    (os : List Open) (o : Open) → length os < most_waiting
    → joined (lent_as os) (length os) o ≡ lent_as (os ++ (o ∷ []))

-- the oldest is the first
abbrev pub OldestFirst : Type 0
OldestFirst = (o : Open) (os : List Open) → open_from (lent_as (o ∷ os)) ≡ o

-- it is gone after an advance, and the others are as they were
abbrev pub MovesUp : Type 0
MovesUp =
    (o : Open) (os : List Open) → length os < most_waiting → advanced (lent_as (o ∷ os)) (suc (length os)) ≡ lent_as os

-- ---- any numbers (proofs/Long)

-- whatever is lent stays as long
pub record StaysLong (ns : List ℕ) (waiting : ℕ) : Type 0 where
  pub joined : (o : Open) → length (lent.joined ns waiting o) ≡ length ns
  pub advanced : length (lent.advanced ns waiting) ≡ length ns

abbrev pub StayLong : Type 0
StayLong = (ns : List ℕ) (waiting : ℕ) → StaysLong ns waiting
