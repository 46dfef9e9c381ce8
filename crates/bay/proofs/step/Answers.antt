-- `bay::step` meets its contract: a stamp goes to its ticks, and every other event, once the clock is judged, to the phy.
use Rattle.std.proofs.Common.{sym, ap, ◌∙◌}
use Rattle.bay.specs.Step.{at_once}
use Rattle.bay.proofs.Steps.{no_clock, not_valid, as_stamp, no_stamp}
use Rattle.bay.proofs.step.Goals as goal

pub returns-then-event-known_in_trace : goal.returns-then-event-known_in_trace
returns-then-event-known_in_trace c = c.stamped.ensures ∙ as_stamp _ _ (rw c.known_in_trace.ensures at c.if-event-known_in_trace.true)

pub returns-then-valid_clock : goal.returns-then-valid_clock
returns-then-valid_clock c = c.at_once.ensures ∙ ap (at_once c.args.bay) c.step.ensures ∙ sym (no_stamp _ _ (rw c.known_in_trace.ensures at c.if-event-known_in_trace.false) (sym c.valid_clock.ensures ∙ c.if-valid_clock.true))

pub returns : goal.returns
returns c = c.refused.ensures ∙ sym (not_valid _ _ (no_clock _ (sym c.valid_clock.ensures ∙ c.if-valid_clock.false)))
