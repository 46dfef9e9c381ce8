-- Each contract gives its result, and what it leaves, as values of definitions, so two results are equal to them and to each other.
use mathlib.Core.Path.{sym, ◌∙◌}
use Rattle.table.proofs.Results.{by_equation, by_equation_lent}
use Rattle.port.specs.Laws.{Determined}

pub determined : Determined
determined =
    record {
      reports_of = λ r. by_equation _;
      begun = by_equation _;
      survey = λ row from. by_equation _;
      judge = λ scan queue. by_equation _;
      concerned = λ free number. by_equation _;
      take = λ s b before number e. by_equation_lent _ _;
      step = λ row queue number e r q left later x y. (x.says ∙ sym y.says, λ i. ((x.row_left ∙ sym y.row_left) i, (x.queue_left ∙ sym y.queue_left) i));
    }
