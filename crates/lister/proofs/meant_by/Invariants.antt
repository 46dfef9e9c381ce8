-- `lister::meant_by` meets its contract: each turn takes one digit off the definition, which stops where the code does.
use Rattle.port.specs.Names.{most_phys}
use Rattle.lister.proofs.Digits.{Stage}
use Rattle.lister.proofs.meant_by.Given as goal

abbrev pub invariant-loop-byte : goal.invariant-loop-byte
invariant-loop-byte l = Stage most_phys l.text l.phys l.byte-index
