-- `bay::gap::on_stamp` meets its contract: the ticks are as many as the counter has moved.
use Rattle.bay.specs.Step.{on_stamp}
use Rattle.bay.proofs.Steps.{phy_valid, few_ticks}
use Rattle.bay.proofs.gap.on_stamp.Goals as goal

pub invariant_of-stretch : goal.invariant_of-stretch
unfolding on_stamp
invariant_of-stretch c = record { ready = record { valid = phy_valid _ c.requires.0; few = rw c.ticks_to.ensures (few_ticks c.args.bay c.args.counter) } }
