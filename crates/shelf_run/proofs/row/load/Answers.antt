-- `shelf_run::row::load` meets its contract: as many as fit are the row's, and the others as they were.
use mathlib.Core.Path.{refl, ◌∙◌}
use Rattle.shelf_run.specs.Rows.{loaded}
use Rattle.shelf_run.proofs.Fronts.{as_fitting}
use Rattle.shelf_run.proofs.row.load.Goals as goal

pub returns : goal.returns
unfolding loaded
returns c = rw (c.copy_from_slice.ensures.after, c.min-n.ensures ∙ as_fitting _) refl
