-- `shelf_run::events::take_events` meets its contract: each turn takes one event off the definition, and what comes behind is read where it stops.
use Rattle.std.proofs.Common.{◌≡◌, refl, sym, ap, ◌∙◌, arith}
use Rattle.std.proofs.Math.ListN.{get_or}
use Rattle.table.specs.Choice.{pick}
use Rattle.bay.specs.State.{fresh_bay}
use Rattle.shelf_run.specs.Stages.{in_use, puts}
use Rattle.shelf_run.specs.declared.Table.{Table}
use Rattle.shelf_run.proofs.Loop.{stage_next, own_held, spent_stage, stop_end, stop_spent, stop_fault}
use Rattle.shelf_run.proofs.events.take_events.Goals as goal
use Rattle.shelf_run.proofs.events.take_events.Goals.{then-held, else-held, then-held-2, else-held-2}

pub loop-count-preserved : goal.loop-count-preserved
loop-count-preserved c =
    let st = c.loop-count.stands in
    let bays = c.loop-count.table.bays in
    let at = c.concerned-at.result in
    let own : c.if-held.own ≡ pick (in_use st at) (get_or bays at fresh_bay) fresh_bay
    = elim c.if-held.branch [ then-held w ↦ w.own-is ∙ own_held c.loop-count.invariant at w.if-held.true _ | else-held w ↦ w.own-is ∙ w.fresh-own.ensures ∙ rw w.if-held.false refl ] in
    let row : c.if-held-2.table.bays ≡ puts st bays at c.take-taken.result.bay
    = elim c.if-held-2.branch [ then-held-2 w ↦ ap (λ (t : Table). t.bays) w.table-is ∙ rw w.if-held-2.true refl | else-held-2 w ↦ ap (λ (t : Table). t.bays) w.table-is ∙ rw w.if-held-2.false refl ] in
    stage_next c.loop-count.invariant c.loop-count-test.true (sym (rw c.in-Ok-Some.field-0-is at c.in-Ok-Some.ensures)) at c.concerned-at.ensures c.if-held.own own c.take-taken.result _ c.take-taken.ensures _ c.byte_for.ensures _ row

pub returns-in-Ok-None : goal.returns-in-Ok-None
returns-in-Ok-None c = stop_end c.loop-count.invariant c.loop-count-test.true (sym (rw c.in-Ok-None.field-0-is at c.in-Ok-None.ensures)) c.stopped.result c.stopped.ensures

pub returns-in-Err : goal.returns-in-Err
returns-in-Err c = stop_fault c.loop-count.invariant c.loop-count-test.true (sym c.in-Err.ensures) c.stopped-in-Err.result c.stopped-in-Err.ensures

pub returns : goal.returns
returns c = stop_spent (spent_stage c.loop-count.invariant c.loop-count-test.false) (omega arith) c.spent.result c.spent.ensures
