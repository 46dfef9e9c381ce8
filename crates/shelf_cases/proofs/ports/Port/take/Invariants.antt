-- `shelf_cases::ports::Port::take` meets its contract: each bay ends in the file.
use Rattle.casefile.specs.Promises.{EndsWithin}
use Rattle.shelf_cases.proofs.ports.Port.take.Given as goal

abbrev pub invariant-loop-bay : goal.invariant-loop-bay
invariant-loop-bay l = EndsWithin l.fn.input l.input
