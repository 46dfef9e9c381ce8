-- The window through which a case file is read: what of it lies ahead, and when nothing is read.
use Rattle.std.specs.Prelude.{ℕ, ◌-◌, min, Bool, ◌||◌, List, ltb, leb, eqb, length}
use Rattle.output.specs.Writing.{lost}
use Rattle.casefile.specs.declared.Ahead.{Ahead}
use Rattle.casefile.specs.declared.Turn.{Turn}

-- where the case file is read next, and how much output is gathered
pub record Place : Type 0 where
  pub next : ℕ
  pub n : ℕ

-- a case takes no more than this of the case file
abbrev pub most_case : ℕ
most_case = 32768

-- where what is ahead ends: only what lies in the window counts
abbrev pub end_ahead : (window : List ℕ) → Ahead → ℕ
end_ahead window ahead = min ahead.to (length window)

-- how much is ahead
abbrev pub count_ahead : (window : List ℕ) → Ahead → ℕ
count_ahead window ahead = end_ahead window ahead - ahead.from

-- nothing is ahead: the place lies past what the window holds
abbrev pub none_ahead : (window : List ℕ) → Ahead → Bool
none_ahead window ahead = ltb (end_ahead window ahead) ahead.from

-- enough is ahead: all that the file still has, or a whole case
abbrev pub enough_ahead : (window : List ℕ) → Ahead → Bool
enough_ahead window ahead = ahead.ended || leb most_case (count_ahead window ahead)

-- what is ahead after a turn that took a case up to a place: no more of the file once a write has failed
abbrev pub ahead_after : Turn → Place → Ahead
ahead_after turn at = record { from = at.next; to = turn.ahead.to; ended = turn.ahead.ended || eqb at.n lost }

-- the run is over: a write failed, or nothing more is ahead
abbrev pub is_over : Place → Ahead → Bool
is_over at ahead = eqb at.n lost || leb ahead.to ahead.from
