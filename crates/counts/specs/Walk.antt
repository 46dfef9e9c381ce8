-- What counters mean: a full walk over the answers, each with its bay, since the counters were cleared.
use Rattle.std.specs.Prelude.{ℕ, suc, min, Bool, ◌&&◌, List, [], ◌∷◌, eqb}
use Rattle.table.specs.Choice.{pick}
use Rattle.counts.specs.Names.{ceiling, column_of}
use Rattle.counts.specs.Counters.{Counters, Count, refusal_of, is_counter, raised_of, counted}
use Rattle.counts.specs.Lent.{lent_raised}

-- an answer with its bay; any two numbers
pub record Given : Type 0 where
  pub bay : ℕ
  pub answer : ℕ

-- it is this answer of this bay
abbrev pub is_this : (bay answer : ℕ) → Given → Bool
is_this bay answer g = eqb g.bay bay && eqb g.answer answer

-- how often it is: the walk
abbrev pub times : (bay answer : ℕ) → List Given → ℕ
times bay answer [] = 0
times bay answer (g ∷ gs) = pick (is_this bay answer g) (suc (times bay answer gs)) (times bay answer gs)

-- a number held at the ceiling
abbrev pub at_most : ℕ → ℕ
at_most n = min n ceiling

-- what a question is to give of a number of times, or its refusal
abbrev pub walked : (bay answer n : ℕ) → Count
walked bay answer n =
    pick (is_counter bay (column_of answer)) (counted (at_most n) 0) (counted 0 (refusal_of bay answer))

-- the counters after a list of answers, one raised at each, the first first
abbrev pub kept : Counters → List Given → Counters
kept t [] = t
kept t (g ∷ gs) = kept (raised_of t g.bay g.answer) gs

-- the same of counters as they are lent
abbrev pub lent_kept : List ℕ → List Given → List ℕ
lent_kept ns [] = ns
lent_kept ns (g ∷ gs) = lent_kept (lent_raised ns g.bay g.answer) gs
