-- `output::Text::put_line` meets its contract: the numbers, and then the line's end.
use Rattle.output.proofs.Places.{extends_line}
use Rattle.output.proofs.Text.put_line.Goals as goal

pub returns : goal.returns
returns g c = extends_line c.put_numbers.ensures c.end_line.ensures
