-- `number::number_length` meets its contract: each turn takes one group off and counts it.
use Rattle.number.proofs.Loops.{counted_start, counted_on, counted_done}
use Rattle.number.proofs.number_length.Goals as goal

pub loop-rest-init : goal.loop-rest-init
loop-rest-init c = counted_start c.args.value c.ranges.value.fits

pub loop-rest-preserved : goal.loop-rest-preserved
loop-rest-preserved c = counted_on c.loop-rest.invariant c.loop-rest-test.true

pub returns : goal.returns
returns c = counted_done c.loop-rest.invariant c.loop-rest-test.false
