-- `shelf_run::row::run` meets its contract: what the callees promise together is the run.
use Rattle.shelf_run.proofs.InPlace.{in_place}
use Rattle.shelf_run.proofs.row.run.Goals as goal

pub returns : goal.returns
returns c =
    rw (c.store.ensures, c.over-gone.ensures.2, c.over-gone.ensures.1, c.over-gone.ensures.0, c.load-table.ensures, c.survey-scan.ensures, c.empty.ensures, c.begun.ensures)
    (in_place c.args.row.now c.args.queue.now c.args.trace.now c.args.budget c.args.buffer.now)
