-- The lines that every listing has beside its header and those of its events, byte for byte.
use Rattle.std.specs.Prelude.{ℕ, List, [], ◌∷◌, ◌++◌}
use Rattle.output.specs.Writing.{newline, more}
use Rattle.lines.specs.Words.{ascii}

-- no line of a listing is longer: eleven numbers of twenty digits, each with the byte after it
abbrev pub most_line : ℕ
most_line = 231

-- the line of an event has no more numbers behind its place
abbrev pub most_columns : ℕ
most_columns = 10

-- a number behind each of two words
abbrev pub last_line : (word : List ℕ) → (place : ℕ) → (other : List ℕ) → (n : ℕ) → List ℕ
last_line word place other n = word ++ (more (place ∷ []) ++ (other ++ (more (n ∷ []) ++ (newline ∷ []))))

-- the trace's end, and the number of its events
abbrev pub end_line : (place count : ℕ) → List ℕ
end_line place count = last_line (ascii "end") place (ascii " events") count

-- a fault of the trace: the place of the event's first byte and the number of the refusal
abbrev pub stop_line : (place refusal : ℕ) → List ℕ
stop_line place refusal = last_line (ascii "stop") place (ascii " refusal") refusal

-- all that is said of a trace that is too long
abbrev pub too_long_line : List ℕ
too_long_line = ascii "too long\n"
