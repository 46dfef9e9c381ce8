-- `run::run` meets its contract: valid, then room, then `take_events` does the rest.
use mathlib.Core.Path.{sym, ◌∙◌}
use Rattle.run.proofs.Loop.{as_valid, not_valid, no_room_lem, with_room}
use Rattle.run.proofs.run.Goals as goal

pub returns-then-buffer-budget : goal.returns-then-buffer-budget
returns-then-buffer-budget c = no_room_lem _ c.from-bay.ensures _ _ _ c.stopped.result (sym c.valid.ensures ∙ c.if-valid.true) c.if-buffer-budget.true c.stopped.ensures

pub take_events-requires : goal.take_events-requires
take_events-requires c = record { valid = as_valid _ c.from-bay.ensures (sym c.valid.ensures ∙ c.if-valid.true); room = c.if-buffer-budget.false }

pub returns-then-valid : goal.returns-then-valid
returns-then-valid c = with_room _ c.from-bay.ensures _ _ _ c.take_events.result (sym c.valid.ensures ∙ c.if-valid.true) c.if-buffer-budget.false c.take_events.ensures

pub returns : goal.returns
returns c = not_valid _ c.from-bay.ensures _ _ _ c.stopped-2.result (sym c.valid.ensures ∙ c.if-valid.false) c.stopped-2.ensures
