-- `bay::stamped` meets its contract: the bay is judged first, then the counter.
use Rattle.std.proofs.Common.{sym, refl, ◌∙◌}
use Rattle.event.proofs.InTrace.{stamps, no_stamps}
use Rattle.bay.proofs.Steps.{not_valid, a_stamp, not_known}
use Rattle.bay.proofs.stamped.Goals as goal

pub on_stamp-requires : goal.on_stamp-requires
on_stamp-requires c = (sym c.valid.ensures ∙ c.if-valid.true, c.if-counter-le-MOST_COUNTER.true)

pub returns-then-counter-le-MOST_COUNTER : goal.returns-then-counter-le-MOST_COUNTER
returns-then-counter-le-MOST_COUNTER c = c.on_stamp.ensures ∙ sym (a_stamp _ _ (sym c.valid.ensures ∙ c.if-valid.true) refl (stamps _ c.if-counter-le-MOST_COUNTER.true))

pub returns-then-valid : goal.returns-then-valid
returns-then-valid c = c.refused.ensures ∙ sym (not_known _ _ (sym c.valid.ensures ∙ c.if-valid.true) (no_stamps _ c.if-counter-le-MOST_COUNTER.false))

pub returns : goal.returns
returns c = c.refused-2.ensures ∙ sym (not_valid _ _ (sym c.valid.ensures ∙ c.if-valid.false))
