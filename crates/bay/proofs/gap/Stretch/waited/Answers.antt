-- `bay::gap::Stretch::waited` meets its contract: a request in P2 has a wait whose microseconds can be counted.
use Rattle.std.proofs.Common.{eq-eqb}
use Rattle.bay.proofs.Calm.{counted}
use Rattle.bay.proofs.gap.Stretch.waited.Goals as goal

pub waited_for-requires : goal.waited_for-requires
waited_for-requires c = let r = c.args.self.ready in let h = counted c.args.self.phy.now r.valid (eq-eqb _ _ c.if-self-eq-P2.true) in (h.0, h.1, r.few)
