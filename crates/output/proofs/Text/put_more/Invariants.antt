-- `output::Text::put_more` meets its contract: each turn writes one number of those that are left.
use Rattle.std.proofs.Common.{◌≡◌, drop}
use Rattle.output.specs.Writing.{more_of}
use Rattle.output.proofs.Places.{Putting}
use Rattle.output.proofs.Text.put_more.Given as goal

abbrev pub invariant-loop-number : goal.invariant-loop-number
invariant-loop-number g l =
    record {
      left : Putting (more_of g.T.Number.value l.numbers) l.fn.self.out.now l.fn.self.n (more_of g.T.Number.value (drop l.number-index l.numbers)) l.self.out.now l.self.n;
      same_buffer : l.self.out.ghost_name ≡ l.fn.self.out.ghost_name;
    }
