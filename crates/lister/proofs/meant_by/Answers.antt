-- `lister::meant_by` meets its contract: each turn takes one digit off the definition, which stops where the code does.
use Rattle.std.proofs.Common.{refl, sym, ap, ◌∙◌, rules}
use borrow.Author.Tests.{ne_eqb}
use Rattle.lister.specs.Says.{some_phys}
use Rattle.lister.proofs.Digits.{no_digit, too_many, stage_on, all_meant}
use Rattle.lister.proofs.meant_by.Goals as goal

pub returns-in_err-phys : goal.returns-in_err-phys
returns-in_err-phys c =
    let none = no_digit c.loop-byte.invariant c.loop-byte-test.true c.digit_of.ensures c.in_err-phys.was in search (none, rules)

pub returns-then-phys-gt-MOST_PHYS : goal.returns-then-phys-gt-MOST_PHYS
returns-then-phys-gt-MOST_PHYS c =
    too_many c.loop-byte.invariant c.loop-byte-test.true c.digit_of.ensures c.in_ok-phys.was c.if-phys-gt-MOST_PHYS.true

pub loop-byte-preserved : goal.loop-byte-preserved
loop-byte-preserved c =
    stage_on c.loop-byte.invariant c.loop-byte-test.true c.digit_of.ensures c.in_ok-phys.was c.if-phys-gt-MOST_PHYS.false

pub returns-then-phys-eq0 : goal.returns-then-phys-eq0
returns-then-phys-eq0 c = ap some_phys (sym c.if-phys-eq0.true ∙ all_meant c.loop-byte.invariant c.loop-byte-test.false)

pub returns-else-phys-eq0 : goal.returns-else-phys-eq0
returns-else-phys-eq0 c =
    rw (sym (all_meant c.loop-byte.invariant c.loop-byte-test.false), ne_eqb _ _ c.if-phys-eq0.false) refl
