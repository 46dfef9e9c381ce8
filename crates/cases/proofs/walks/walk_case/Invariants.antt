-- `cases::walks::walk_case` meets its contract: each item ends in the file.
use Rattle.casefile.specs.Promises.{EndsWithin}
use Rattle.cases.proofs.walks.walk_case.Given as goal

abbrev pub invariant-loop : goal.invariant-loop
invariant-loop g l = EndsWithin l.fn.input l.input
