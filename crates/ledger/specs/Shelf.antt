-- What a shelf engineer would ask of the books.
use Rattle.std.specs.Prelude.{◌≤◌, true, List, ◌∷◌, ◌++◌, ◌⊎◌, ◌≡◌}
use Rattle.event.specs.Names.{hard_reset, phy_disabled}
use Rattle.event.specs.Table.{open_of, known_of}
use Rattle.event.specs.declared.Event.{Event}
use Rattle.phy.specs.Step.{step_of}
use Rattle.ledger.specs.Log.{Entry, entry, log, accepted, answered, many, ticked, heard_aip}
use Rattle.ledger.specs.Ledger.{due, free, book}
use Rattle.ledger.specs.Demand.{log_of, phy_after, books_of, AnsweredWithin}

-- no hang in Req_Wait: with no AIP, what is due is 2,000 ticks after the acceptance, and they hold the answer
abbrev pub NoHang : Type 0
NoHang =
    (es : List Event) (e : Event) (fs : List Event) → accepted (entry step_of (phy_after es) e) ≡ true
    → many heard_aip (log step_of (step_of (phy_after es) e).next fs) ≡ 0
    → due 0 ≤ many ticked (log step_of (step_of (phy_after es) e).next fs)
    → AnsweredWithin (step_of (phy_after es) e).next (open_of e) fs

-- between two answers there is an acceptance
abbrev pub AcceptedBetween : Type 0
AcceptedBetween =
    (es : List Event) (xs : List Entry) (x : Entry) (ys : List Entry) (y : Entry) (zs : List Entry)
    → log_of es ≡ xs ++ (x ∷ (ys ++ (y ∷ zs)))
    → answered x ≡ true → answered y ≡ true → many accepted ys ≡ 0 → ⊥

-- a refused event leaves the books as they were
abbrev pub RefusedLeaves : Type 0
RefusedLeaves =
    (es : List Event) (e : Event) → ((step_of (phy_after es) e).refusal ≡ 0 → ⊥)
    → book (books_of es) (entry step_of (phy_after es) e) ≡ books_of es

-- after HARD_RESET or Phy Disabled nothing waits
abbrev pub ResetFrees : Type 0
ResetFrees =
    (es : List Event) (e : Event) → known_of e ≡ true → (e.code ≡ hard_reset) ⊎ (e.code ≡ phy_disabled)
    → book (books_of es) (entry step_of (phy_after es) e) ≡ free
