-- The contract gives the result, the row, the queue and the buffer as values of definitions, so two are equal to them and to each other.
use mathlib.Core.Path.{sym, ◌∙◌}
use Rattle.shelf_run.specs.Laws.{Determined}

pub determined : Determined
determined =
    record {
      run = λ row numbers s budget before r q left later x y. (
        x.says ∙ sym y.says,
        λ i. ((x.row_left ∙ sym y.row_left) i, (x.queue_left ∙ sym y.queue_left) i, (x.buffer_left ∙ sym y.buffer_left) i),
      );
    }
