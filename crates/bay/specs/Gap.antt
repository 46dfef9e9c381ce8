-- A gap: single ticks one after the other, and nothing else.
use Rattle.std.specs.Prelude.{ℕ, suc, List, [], ◌∷◌, ◌++◌, replicate, ◌==◌}
use Rattle.table.specs.Choice.{pick}
use Rattle.event.specs.Names.{tick}
use Rattle.event.specs.declared.Event.{Event}
use Rattle.event.specs.declared.Open.{Open}
use Rattle.phy.specs.Step.{step_of}
use Rattle.phy.specs.declared.Phy.{Phy}
use Rattle.phy.specs.declared.Stepped.{Stepped}
use Rattle.ledger.specs.Log.{Entry, log, after}
use Rattle.ledger.specs.Demand.{plain}
use Rattle.bay.specs.declared.Report.{Report}

-- so many single ticks
abbrev pub ticks : (n : ℕ) → List Event
ticks n = replicate n (plain tick)

-- a report: its code, and the tick at which it came
abbrev pub report : (code tick : ℕ) → Report
report code tick = record { code = code; tick = tick }

-- what the entries of a log report, in order; the first of them is that of the tick `at`
abbrev pub in_order : {A : Type 0} → (reported : (at : ℕ) → Stepped → List A) → (at : ℕ) → List Entry → List A
in_order reported at [] = []
in_order reported at (x ∷ xs) = reported at x.result ++ in_order reported (suc at) xs

-- a code at a tick; nothing where it is 0
abbrev pub code_at : (code at : ℕ) → List Report
code_at code at = pick (code == 0) [] (report code at ∷ [])

-- the answer of a step, its notice, and the primitive that it sends
abbrev pub answer_at : (at : ℕ) → Stepped → List Report
answer_at at r = code_at r.answer at

abbrev pub notice_at : (at : ℕ) → Stepped → List Report
notice_at at r = code_at r.notice at

abbrev pub sent_at : (at : ℕ) → Stepped → List Report
sent_at at r = code_at r.sent at

-- the Open that it answers
abbrev pub open_at : (at : ℕ) → Stepped → List Open
open_at at r = pick (r.answer == 0) [] (r.answered ∷ [])

-- where ticks lead, and what they report, in order
pub record Gap : Type 0 where
  pub phy : Phy
  pub answers : List Report
  pub opens : List Open
  pub notices : List Report
  pub sents : List Report

-- n single ticks of a phy, counted from 1
unfoldable pub gap_of : Phy → (n : ℕ) → Gap
gap_of p n =
    record {
      phy = after step_of p (ticks n);
      answers = in_order answer_at 1 (log step_of p (ticks n));
      opens = in_order open_at 1 (log step_of p (ticks n));
      notices = in_order notice_at 1 (log step_of p (ticks n));
      sents = in_order sent_at 1 (log step_of p (ticks n));
    }
