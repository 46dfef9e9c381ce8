-- `bay::gap::Stretch::leg` meets its contract: its test is the definition's, and the tick that moves the link is the last of its state.
use Rattle.std.proofs.Common.{ℕ, ◌+◌, ap, ◌∙◌, arith}
use Rattle.phy.specs.Shapes.{quiet}
use Rattle.phy.specs.Ticks.{last_tick}
use Rattle.bay.specs.Legs.{later}
use Rattle.bay.proofs.Legs.{enough, whole, partly}
use Rattle.bay.proofs.gap.Stretch.leg.Goals as goal

pub returns-then-phy-self : goal.returns-then-phy-self
returns-then-phy-self c = whole _ _ c.args.self.ready.valid (rw c.saturating_sub-before.ensures at c.if-phy-self.true) (c.quiet.ensures ∙ ap quiet c.end.ensures)

pub invariant_of-last : goal.invariant_of-last
invariant_of-last c =
    let ready = c.args.self.ready in
    record { ready = record { valid = ready.valid; few = omega (arith, enough c.args.self.phy.now c.args.self.ticks (rw c.saturating_sub-before.ensures at c.if-phy-self.false), ready.few) } }

pub returns : goal.returns
returns c = let e = c.saturating_sub-before.ensures in
    rw e (partly _ _ c.args.self.ready.valid (rw e at c.if-phy-self.false)
    (c.last_tick.ensures ∙ ap last_tick (c.end-2.ensures ∙ ap (λ (k : ℕ). later c.args.self.phy.now (k + 1)) e)))
