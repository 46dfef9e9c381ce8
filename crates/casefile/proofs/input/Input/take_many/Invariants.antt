-- `casefile::input::Input::take_many` meets its contract: each turn takes one number and stores it.
use Rattle.std.proofs.Common.{◌≡◌}
use Rattle.casefile.proofs.Numbers.{Taking}
use Rattle.casefile.proofs.input.Input.take_many.Given as goal

abbrev pub invariant-loop-number : goal.invariant-loop-number
invariant-loop-number l =
    record {
      taking : Taking l.fn.self.s.now l.fn.self.place l.fn.numbers l.number-items l.self.place l.number-index;
      same_file : l.self.s ≡ l.fn.self.s;
    }
