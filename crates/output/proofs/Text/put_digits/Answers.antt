-- `output::Text::put_digits` meets its contract: below a hundred there are two digits, and those that the library writes are the number's.
use Rattle.std.proofs.Common.{arith}
use Rattle.output.proofs.Decimal.{decimal_pair, decimal_written}
use Rattle.output.proofs.Text.put_digits.Goals as goal

pub returns-then-value-lt100 : goal.returns-then-value-lt100
returns-then-value-lt100 c =
    record {
      puts = rw (decimal_pair c.args.value c.requires (omega (arith, c.if-value-lt100.true))) c.put_both.ensures.puts;
      same_buffer = c.put_both.ensures.same_buffer;
    }

pub returns : goal.returns
returns c =
    record {
      puts = rw (c.as_bytes.ensures.value, c.format.ensures.text, decimal_written c.args.value c.ranges.value.fits) at c.put_all.ensures.puts.puts;
      same_buffer = c.put_all.ensures.same_buffer;
    }
