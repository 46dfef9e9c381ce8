-- `shelf_listing::turned` meets its contract: the row is what the step left in front and what was behind, and the columns are read off what it left.
use Rattle.std.proofs.Common.{◌≡◌, ℕ, List, ◌++◌, length, sym, ap, ◌∙◌, ap₂, take-append-drop}
use Rattle.bay.specs.declared.Bay.{Bay}
use Rattle.queue.specs.Lent.{queue_in}
use Rattle.queue.specs.declared.Judgement.{Judgement}
use Rattle.held.specs.Rows.{shown, behind}
use Rattle.shelf_listing.specs.Lines.{states_at, columns_of}
use Rattle.shelf_listing.specs.Held.{step_held}
use Rattle.shelf_listing.proofs.turned.Goals as goal

pub returns : goal.returns
returns c =
    let row : c.step-stepped.new.self.bays ≡ (step_held c.args.shelf c.args.event).next.bays ++ behind c.args.shelf.phys c.args.shelf.row.bays =
    sym (take-append-drop (shown c.args.shelf.phys) c.step-stepped.new.self.bays)
    ∙ ap₂ ◌++◌ c.step-stepped.ensures.steps.row_left c.step-stepped.ensures.others in
    let steps = c.step-stepped.ensures.steps in
    let states = c.states_at-states.ensures ∙ ap (λ (bays : List Bay). states_at bays c.args.event.number) steps.row_left in
    let waiting = ap (λ (j : Judgement). j.waiting) c.judged-held.ensures ∙ ap (λ (q : List ℕ). length (queue_in q)) steps.queue_left in
    record {
      shelf = λ i. record { row = record { bays = row i }; phys = c.args.shelf.phys; queue = steps.queue_left i };
      columns = c.columns_of.ensures ∙ (λ i. columns_of c.args.event (steps.says i) (states i) (waiting i));
    }
