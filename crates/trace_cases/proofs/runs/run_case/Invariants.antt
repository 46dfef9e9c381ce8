-- `trace_cases::runs::run_case` meets its contract: each run ends in the file.
use Rattle.casefile.specs.Promises.{EndsWithin}
use Rattle.trace_cases.proofs.runs.run_case.Given as goal

abbrev pub invariant-loop : goal.invariant-loop
invariant-loop g l = EndsWithin l.fn.input l.input
