-- `shelf_run::row::store` meets its contract: as many as fit are the table's, and the others as they were.
use mathlib.Core.Path.{refl, ◌∙◌}
use Rattle.shelf_run.specs.Rows.{stored}
use Rattle.shelf_run.proofs.Fronts.{as_fitting}
use Rattle.shelf_run.proofs.row.store.Goals as goal

pub returns : goal.returns
unfolding stored
returns c = rw (c.copy_from_slice.ensures.after, c.min-n.ensures ∙ as_fitting _) refl
