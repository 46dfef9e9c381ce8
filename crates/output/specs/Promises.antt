-- What each function promises, cited by its `ensures` and, of the public ones, by `Determined` in Laws.
use Rattle.std.specs.Prelude.{ℕ, ◌≤◌, Bool, List, [], ◌∷◌, ◌⊎◌, ◌≡◌, eqb, length, take}
use Rattle.std.proofs.lemmas.List.Edits.{sets}
use Rattle.std.specs.Borrow.{MutBor}
use Rattle.table.specs.Choice.{pick}
use Rattle.output.specs.Writing.{newline, more_of, numbers_text, line, reached, gathered, lost, stays_gathered}
use Rattle.output.specs.declared.Text.{Text}

-- a text goes on in its buffer as a contract says of the bytes before, both places and the bytes after
pub record Extends (Contract : (before : List ℕ) (n r : ℕ) (after : List ℕ) → Type 0) (old new : Text) : Type 0 where
  pub puts : Contract old.out.now old.n new.n new.out.now
  pub same_buffer : new.out.ghost_name ≡ old.out.ghost_name

-- `new` of a buffer: a text that begins at its start
pub record StartsText (buffer : MutBor (List ℕ)) (r : Text) : Type 0 where
  pub same_buffer : r.out.ghost_name ≡ buffer.ghost_name
  pub same_bytes : r.out.now ≡ buffer.now
  pub start : r.n ≡ 0

-- `number` of a thing that has a value
abbrev pub TellsValue : {T : Type 0} (value : T → ℕ) → T → (r : ℕ) → Type 0
TellsValue value v r = r ≡ value v

-- `bytes` of a text that goes on at n in a buffer
abbrev pub ShowsBytes : (buffer : List ℕ) (n : ℕ) (r : List ℕ) → Type 0
ShowsBytes buffer n r = r ≡ take n buffer

-- writing bytes at n into the buffer `before`, which leaves it as `after`: a byte that has no room changes nothing
pub record Puts (bytes before : List ℕ) (n r : ℕ) (after : List ℕ) : Type 0 where
  pub there : r ≡ reached (length before) n (length bytes)
  pub stored : after ≡ sets before n bytes

-- `put_all` of bytes; callers that start in the buffer need that they end in it
pub record PutsAll (bytes before : List ℕ) (n r : ℕ) (after : List ℕ) : Type 0 where
  pub puts : Puts bytes before n r after
  pub within : n ≤ length before → r ≤ length after

-- `put_more` of things that have a value, as numbers and bytes have
abbrev pub PutsMore :
    {T : Type 0} (value : T → ℕ) (numbers : List T) (before : List ℕ) (n r : ℕ) (after : List ℕ) → Type 0
PutsMore value numbers before n r after = Puts (more_of value numbers) before n r after

-- `put_numbers`
abbrev pub PutsNumbers : (first : ℕ) (others before : List ℕ) (n r : ℕ) (after : List ℕ) → Type 0
PutsNumbers first others before n r after = Puts (numbers_text first others) before n r after

-- writing out n bytes: what does not stay gathered is written, and no contract can say whether that fails
abbrev pub WritesOut : (n least r : ℕ) → Type 0
WritesOut n least r = pick (stays_gathered n least) (r ≡ n) ((r ≡ 0) ⊎ (r ≡ lost))

-- `write_out` of a text, whose bytes stay
pub record GoesOut (least : ℕ) (before : List ℕ) (n r : ℕ) (after : List ℕ) : Type 0 where
  pub there : WritesOut n least r
  pub same : after ≡ before

-- `is_lost` of a text that goes on at n
abbrev pub TellsLost : (n : ℕ) (r : Bool) → Type 0
TellsLost n r = r ≡ eqb n lost

-- `fail`: the place that no buffer has
abbrev pub Loses : (r : ℕ) → Type 0
Loses r = r ≡ lost

-- `read_full` into a buffer with this much room: no contract can say how much a read gives
abbrev pub ReadsInto : (room r : ℕ) → Type 0
ReadsInto room r = r ≤ room

-- bytes that end a line: what is gathered is written once there is enough of it
pub record PutsLine (bytes before : List ℕ) (n r : ℕ) (after : List ℕ) : Type 0 where
  pub there : WritesOut (reached (length before) n (length bytes)) gathered r
  pub stored : after ≡ sets before n bytes

-- `end_line`
abbrev pub EndsLine : (before : List ℕ) (n r : ℕ) (after : List ℕ) → Type 0
EndsLine before n r after = PutsLine (newline ∷ []) before n r after

-- `put_line`
abbrev pub PutsNumbersLine : (first : ℕ) (others before : List ℕ) (n r : ℕ) (after : List ℕ) → Type 0
PutsNumbersLine first others before n r after = PutsLine (line first others) before n r after
