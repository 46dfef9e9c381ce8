-- What the lister's functions say of its input and, by its outcome, of the trace that it listed.
use Rattle.std.specs.Prelude.{ℕ, suc, ◌+◌, ◌-◌, ◌*◌, Bool, true, false, ◌&&◌, List, [], ◌∷◌, ◌⊎◌, ◌≡◌, eqb, leb}
use Rattle.std.specs.Prelude.{Option, Some, None}
use Rattle.table.specs.Choice.{pick}
use Rattle.output.specs.Decimal.{digit}
use Rattle.output.specs.Writing.{lost}
use Rattle.lines.specs.Listing.{most_trace, Listable, start_of}
use Rattle.lines.specs.Laws.{Lines}
use Rattle.lines.specs.declared.Progress.{Progress}
use Rattle.lister.specs.declared.Outcome.{Outcome}
use Rattle.lister.specs.declared.Outcome.TheVariants.{Whole, Damaged, Unwritten, Unread}

-- the byte of the digit 0
abbrev pub first_digit : ℕ
first_digit = digit 0

-- that of the digit 9
abbrev pub last_digit : ℕ
last_digit = digit 9

-- a byte that is a digit
abbrev pub is_digit : ℕ → Bool
is_digit d = leb first_digit d && leb d last_digit

-- a number with one digit more behind it
abbrev pub with_digit : (n d : ℕ) → ℕ
with_digit n d = n * 10 + (d - first_digit)

-- the number that digits mean behind those that mean n; 0 where a byte is no digit, or the number comes past a limit
unfoldable pub meant_behind : (limit n : ℕ) → List ℕ → ℕ
meant_behind limit n [] = n
meant_behind limit n (d ∷ ds) =
    pick (is_digit d) (pick (leb (with_digit n d) limit) (meant_behind limit (with_digit n d) ds) 0) 0

-- `meant_by` of a text
abbrev pub meant_by : (limit : ℕ) → List ℕ → ℕ
meant_by limit text = meant_behind limit 0 text

-- a number of phys that a port may have; 0 means none
abbrev pub some_phys : ℕ → Option ℕ
some_phys phys = pick (eqb phys 0) None (Some phys)

-- `total`: the input is as long as what was kept, or longer than may be listed, or unread; no contract says which
abbrev pub Measures : (kept : ℕ) → Option ℕ → Type 0
Measures kept (Some n) = (n ≡ kept) ⊎ ((kept ≡ most_trace) × (n ≡ suc most_trace))
Measures kept None = Unit

-- `ending`: once the last line is made, and n tells whether all was written
abbrev pub ending_of : (whole : Bool) (n : ℕ) → Outcome
ending_of whole n = pick (eqb n lost) Unwritten (pick whole Whole Damaged)

-- the lines of a trace from a progress and a state on end with an outcome
pub record Ends {S E : Type 0} (m : Listable S E) (s : List ℕ) (progress : Progress) (b : S) (whole : Bool) : Type 0
  where
    pub bytes : List ℕ
    pub lines : Lines m s progress b whole bytes

-- the listing of a trace s, of an input that is `total` bytes long, from a state on: whole or not, as its lines end, if
-- all was written
abbrev pub ListsTo : {S E : Type 0} → Listable S E → S → (s : List ℕ) → (total : ℕ) → Outcome → Type 0
ListsTo m b s total Whole = Ends m s (start_of total) b true
ListsTo m b s total Damaged = Ends m s (start_of total) b false
ListsTo m b s total Unwritten = Unit
ListsTo m b s total Unread = ⊥
