-- `bay::gap::Stretch::pass` meets its contract: two legs are the gap.
use Rattle.std.proofs.Common.{◌∙◌}
use Rattle.bay.proofs.Passing.{first_few, then_ready, all_few, is_gap}
use Rattle.bay.proofs.gap.Stretch.pass.Goals as goal

pub overflow_sub-rest : goal.overflow_sub-rest
overflow_sub-rest c = first_few _ _ c.args.self.ready.valid c.leg-first.ensures

pub invariant_of-rest : goal.invariant_of-rest
invariant_of-rest c = record { ready = then_ready _ _ c.args.self.ready.valid c.leg-first.ensures c.args.self.ready.few }

pub both_legs-requires : goal.both_legs-requires
both_legs-requires c = all_few _ _ c.args.self.ready.valid c.leg-first.ensures c.args.self.ready.few c.leg.ensures

pub returns : goal.returns
returns c = c.both_legs.ensures ∙ is_gap _ _ c.args.self.ready.valid c.leg-first.ensures c.args.self.ready.few c.leg.ensures _
