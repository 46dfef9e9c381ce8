-- `output::Text::put_number` meets its contract: a number below ten is its only digit.
use Rattle.std.proofs.Common.{arith}
use Rattle.output.proofs.Decimal.{decimal_small}
use Rattle.output.proofs.Text.put_number.Goals as goal

pub returns-then-value-lt10 : goal.returns-then-value-lt10
returns-then-value-lt10 c =
    record {
      puts = rw (decimal_small c.args.value (omega (arith, c.if-value-lt10.true))) c.put.ensures.puts;
      same_buffer = c.put.ensures.same_buffer;
    }
