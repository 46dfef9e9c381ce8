-- The books of one phy: at most one Open waits, and its answer, when it comes, is its own.
use Rattle.std.specs.Prelude.{ℕ, ◌+◌, ◌*◌, Bool, ◌&&◌, List, [], ◌∷◌, eqb}
use Rattle.table.specs.Choice.{pick}
use Rattle.event.specs.Table.{open_of, same_open}
use Rattle.event.specs.declared.Open.{Open}
use Rattle.phy.specs.Shapes.{◌and◌, no_open, with_wait}
use Rattle.phy.specs.declared.Waited.{Waited}
use Rattle.phy_laws.specs.Waiting.{is_answer}
use Rattle.ledger.specs.Wait.{waited_for}
use Rattle.ledger.specs.Log.{Entry, accepted, ticked, ticked_in_p2, heard_aip}

-- the ticks by which an Open is answered, if k AIPs are heard
abbrev pub due : ℕ → ℕ
due k = 2000 + 999 * k

-- an Open that waits: as accepted, and the ticks in P2, ticks and AIPs since then
pub record Waiting : Type 0 where
  pub open_as_accepted : Open
  pub ticks_in_P2 : ℕ
  pub ticks : ℕ
  pub aips : ℕ

-- no Open waits, one waits, or the books are broken
pub data Ledger : Type 0 where
  free : Ledger
  waiting : Waiting → Ledger
  broken : Ledger

-- how long it has waited: as it came, with no part of a millisecond, and then the ticks in P2
abbrev pub waited : Waiting → Waited
waited w = waited_for (w.open_as_accepted.wait and 0) w.ticks_in_P2

-- the accepted Open with its wait as it has grown
abbrev pub grown : Waiting → Open
grown w = with_wait w.open_as_accepted (waited w).wait

-- an Open begins to wait
abbrev pub begins : Entry → Waiting
begins x = record { open_as_accepted = open_of x.event; ticks_in_P2 = 0; ticks = 0; aips = 0 }

-- it has waited through one more entry
abbrev pub through : Waiting → Entry → Waiting
through w x =
    record {
      open_as_accepted = w.open_as_accepted;
      ticks_in_P2 = w.ticks_in_P2 + pick (ticked_in_p2 x) 1 0;
      ticks = w.ticks + pick (ticked x) 1 0;
      aips = w.aips + pick (heard_aip x) 1 0;
    }

-- no answer was given, and no arguments either
abbrev pub silent : Entry → Bool
silent x = eqb x.result.answer 0 && same_open x.result.answered no_open

-- the answer is one of the sixteen codes and carries the arguments of the Open that waits
abbrev pub answers : Waiting → Entry → Bool
answers w x = is_answer x.result.answer && same_open x.result.answered (grown w)

-- one more entry in the books
unfoldable pub book : Ledger → Entry → Ledger
book free x = pick (silent x) (pick (accepted x) (waiting (begins x)) free) broken
book (waiting w) x =
    pick (accepted x) broken (pick (silent x) (waiting (through w x)) (pick (answers (through w x) x) free broken))
book broken x = broken

-- the books after a log
abbrev pub books : Ledger → List Entry → Ledger
books l [] = l
books l (x ∷ xs) = books (book l x) xs
