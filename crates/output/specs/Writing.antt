-- Lines of text: a number, each further number after a blank, and a newline; and how far writing comes in a buffer.
use Rattle.std.specs.Prelude.{ℕ, ◌+◌, ◌-◌, min, Bool, ◌||◌, List, [], ◌∷◌, ◌++◌, ltb, eqb}
use Rattle.output.specs.Decimal.{decimal}

-- ---- text

-- between two numbers
abbrev pub blank : ℕ
blank = 32

-- at the end of a line
abbrev pub newline : ℕ
newline = 10

-- a further number of a line
abbrev pub further : ℕ → List ℕ
further v = blank ∷ decimal v

-- further numbers of a line, one of each thing that has a value
unfoldable pub more_of : {T : Type 0} → (value : T → ℕ) → List T → List ℕ
more_of value [] = []
more_of value (v ∷ vs) = further (value v) ++ more_of value vs

-- further numbers of a line
abbrev pub more : List ℕ → List ℕ
more = more_of (λ n. n)

-- the numbers of a line
abbrev pub numbers_text : (first : ℕ) → (others : List ℕ) → List ℕ
numbers_text first others = decimal first ++ more others

-- a whole line
abbrev pub line : (first : ℕ) → (others : List ℕ) → List ℕ
line first others = numbers_text first others ++ (newline ∷ [])

-- ---- places

-- the place that a count of bytes reaches from n on, as far as there is room
abbrev pub reached : (room n count : ℕ) → ℕ
reached room n count = n + min count (room - n)

-- the output is written once this much is gathered
abbrev pub gathered : ℕ
gathered = 32768

-- the place after a write that failed, which no buffer has
abbrev pub lost : ℕ
lost = 18446744073709551615

-- whether n bytes stay gathered: they are fewer than `least`, or a write failed before
abbrev pub stays_gathered : (n least : ℕ) → Bool
stays_gathered n least = ltb n least || eqb n lost
