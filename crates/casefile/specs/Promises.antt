-- What each function promises, cited by its `ensures` and, of the public ones, by `Determined` in Laws.
use Rattle.std.specs.Prelude.{ℕ, ◌-◌, ◌≤◌, ◌<◌, max, Bool, List, ◌⊎◌, ◌≡◌, eqb, leb, length, take}
use Rattle.std.proofs.Math.Seq.{slice}
use Rattle.table.specs.Choice.{pick}
use Rattle.table.specs.Results.{Leaves}
use Rattle.output.specs.Writing.{lost}
use Rattle.output.specs.Promises.{Puts, PutsNumbersLine}
use Rattle.casefile.specs.Reading.{taken, part_at, numbers_at, place_after}
use Rattle.casefile.specs.Records.{phy_numbers, phy_of, event_from}
use Rattle.casefile.specs.Pieces.{repeated, bytes_of, all_pieces, place_behind, pairs_after}
use Rattle.casefile.specs.Window.{Place, end_ahead, count_ahead, none_ahead, enough_ahead, ahead_after, is_over}
use Rattle.number.specs.declared.Found.{Found}
use Rattle.casefile.specs.declared.input.Input.{Input}
use Rattle.casefile.specs.declared.Ahead.{Ahead}
use Rattle.casefile.specs.declared.Turn.{Turn}
use Rattle.event.specs.declared.Event.{Event}
use Rattle.phy.specs.declared.Phy.{Phy}

-- an input is read on as a contract says of the case file, the place, and what was found there with the place after it
pub record Reads {T : Type 0} (Contract : (s : List ℕ) (place : ℕ) (r : Found T) → Type 0) (old new : Input) (r : T) :
    Type 0
  where
    pub found : Contract old.s.now old.place (record { value = r; next = new.place })
    pub same_file : new.s ≡ old.s

-- `take` of the case file s at a place; callers need that the place after it lies in the file
pub record TakesNumber (s : List ℕ) (place : ℕ) (r : Found ℕ) : Type 0 where
  pub says : r ≡ taken s place
  pub within : r.next ≤ length s

-- `take_bytes`; callers need that the place after it lies in the file
pub record TakesBytes (s : List ℕ) (place : ℕ) (r : Found (List ℕ)) : Type 0 where
  pub says : r.value ≡ bytes_of s (part_at s place)
  pub there : r.next ≡ (part_at s place).to
  pub within : r.next ≤ length s

-- `take_many` of as many numbers as the array `before` has; callers that start in the file need that they end in it
pub record TakesNumbers (before : List ℕ) (s : List ℕ) (place : ℕ) (r : Found (List ℕ)) : Type 0 where
  pub there : r.next ≡ place_after (length before) s place
  pub numbers : r.value ≡ numbers_at (length before) s place
  pub within : r.next ≤ max place (length s)

-- `take_array` of so many numbers; callers need that it ends in the file, where it takes any
pub record TakesArray (count : ℕ) (s : List ℕ) (place : ℕ) (r : Found (List ℕ)) : Type 0 where
  pub there : r.next ≡ place_after count s place
  pub numbers : r.value ≡ numbers_at count s place
  pub within : 0 < count → r.next ≤ length s

-- `phy_of`, `phy_numbers` and `event_of`
abbrev pub MakesPhy : List ℕ → Phy → Type 0
MakesPhy f r = r ≡ phy_of f

abbrev pub GivesNumbers : Phy → List ℕ → Type 0
GivesNumbers p r = r ≡ phy_numbers p

abbrev pub MakesEvent : List ℕ → Event → Type 0
MakesEvent f r = r ≡ event_from f

-- `put_piece` into the buffer `before` from n on, which leaves it as `after` and says whether there was room for all;
-- callers need that what is filled lies in it
pub record PutsPiece (piece : List ℕ) (times : ℕ) (whole : Bool) (before : List ℕ) (n r : ℕ) (after : List ℕ) : Type 0
  where
    pub puts : Puts (repeated times piece) before n r after
    pub whole_says : whole ≡ leb (length (repeated times piece)) (length before - n)
    pub within : r ≤ max n (length after)

-- `put_pieces` at a place of the case file s, the same of the pieces that stand there; callers need that they lie in it
pub record PutsPieces (s : List ℕ) (place next : ℕ) (whole : Bool) (before : List ℕ) (n r : ℕ) (after : List ℕ) :
    Type 0
  where
    pub puts : Puts (all_pieces s place) before n r after
    pub whole_says : whole ≡ leb (length (all_pieces s place)) (length before - n)
    pub there : next ≡ place_behind (taken s place).value s (taken s place).next
    pub counts : r ≤ max n (length after)
    pub within : next ≤ length s

-- `put_repeats` of bytes
abbrev pub PutsRepeats : (kind : ℕ) (bytes before : List ℕ) (n r : ℕ) (after : List ℕ) → Type 0
PutsRepeats kind bytes before n r after = PutsNumbersLine kind (pairs_after 0 bytes) before n r after

-- more is read: what was ahead stands at the front, and the file has ended where nothing came behind it
pub record ReadsOn (before : List ℕ) (ahead r : Ahead) (after : List ℕ) : Type 0 where
  pub front : take (count_ahead before ahead) after ≡ slice ahead.from (end_ahead before ahead) before
  pub same : length after ≡ length before
  pub start : r.from ≡ 0
  pub more : count_ahead before ahead ≤ r.to
  pub ended : r.ended ≡ eqb r.to (count_ahead before ahead)

-- what `slide` does, in the order of its tests: nothing is read and the window is as it was, or more is read; what is
-- read, and how much, no contract can say
abbrev pub SlidesBy : (before : List ℕ) (ahead r : Ahead) (after : List ℕ) → Type 0
SlidesBy before ahead r after =
    pick (none_ahead before ahead) (Leaves r (record { from = 0; to = 0; ended = ahead.ended }) after before)
    (pick (enough_ahead before ahead)
    (Leaves r (record { from = ahead.from; to = end_ahead before ahead; ended = ahead.ended }) after before)
    (ReadsOn before ahead r after))

-- `slide` of the window `before`, which leaves it as `after`; what is then ahead is a part of it
pub record Slides (before : List ℕ) (ahead r : Ahead) (after : List ℕ) : Type 0 where
  pub ordered : r.from ≤ r.to
  pub within : r.to ≤ length after
  pub does : SlidesBy before ahead r after

-- `next_case` after a turn that took a case up to a place; callers need that the turns that are left grow fewer
pub record GoesOn (before : List ℕ) (turn : Turn) (at : Place) (r : Turn) (after : List ℕ) : Type 0 where
  pub slides : Slides before (ahead_after turn at) r.ahead after
  pub gathered : r.n ≡ at.n
  pub counted : r.left ≡ pick (is_over at r.ahead) 0 (turn.left - 1)
  pub fewer : r.left ≤ turn.left - 1

-- a case ends within the file, which holds what is ahead: cited by each program's functions of cases
pub record EndsWithin (old new : Input) : Type 0 where
  pub within : new.place ≤ length old.s.now
  pub same_file : new.s ≡ old.s

-- `end` of an input: the place after it is the file's end
pub record GoesToEnd (old new : Input) : Type 0 where
  pub ends : EndsWithin old new
  pub there : new.place ≡ length old.s.now

-- `list_case`, which takes the pieces at a place: it ends behind them, within the file
pub record TakesPieces (old new : Input) : Type 0 where
  pub ends : EndsWithin old new
  pub there : new.place ≡ place_behind (taken old.s.now old.place).value old.s.now (taken old.s.now old.place).next

-- `take_all`, after which a text goes on at r: nothing stays gathered, or a write failed
abbrev pub TakesAll : (r : ℕ) → Type 0
TakesAll r = (r ≡ 0) ⊎ (r ≡ lost)
