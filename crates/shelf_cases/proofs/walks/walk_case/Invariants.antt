-- `shelf_cases::walks::walk_case` meets its contract: each event ends in the file.
use Rattle.casefile.specs.Promises.{EndsWithin}
use Rattle.shelf_cases.proofs.walks.walk_case.Given as goal

abbrev pub invariant-loop : goal.invariant-loop
invariant-loop g l = EndsWithin l.fn.input l.input
