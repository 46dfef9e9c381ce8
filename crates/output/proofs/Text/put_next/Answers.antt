-- `output::Text::put_next` meets its contract: a blank, and then the number, which below ten is its only digit.
use Rattle.std.proofs.Common.{arith}
use Rattle.output.proofs.Decimal.{decimal_small}
use Rattle.output.proofs.Places.{extends_then}
use Rattle.output.proofs.Text.put_next.Goals as goal

pub returns-then-value-lt10 : goal.returns-then-value-lt10
returns-then-value-lt10 c =
    record {
      puts = rw (decimal_small c.args.value (omega (arith, c.if-value-lt10.true))) c.put_both.ensures.puts;
      same_buffer = c.put_both.ensures.same_buffer;
    }

pub returns : goal.returns
returns c = extends_then c.put.ensures c.put_digits.ensures
