-- `output::Text::put_numbers` meets its contract: the first number, and then the others.
use Rattle.output.proofs.Places.{extends_then}
use Rattle.output.proofs.Text.put_numbers.Goals as goal

pub returns : goal.returns
returns c = extends_then c.put_number.ensures c.put_more.ensures
