-- `casefile::input::Input::take` meets its contract: what the reader gave says what is taken.
use Rattle.std.proofs.Common.{refl}
use Rattle.casefile.proofs.Numbers.{takes}
use Rattle.casefile.proofs.input.Input.take.Goals as goal

pub returns : goal.returns
returns c =
    record { found = rw (← c.unwrap_or-found.ensures) at (takes c.args.self.now.s.now c.args.self.now.place c.read_number.result c.read_number.ensures); same_file = refl }
