-- `casefile::input::Input::take_many` meets its contract: each turn takes one number and stores it.
use Rattle.std.proofs.Common.{refl, ◌∙◌, arith}
use Rattle.casefile.proofs.Numbers.{reads_at, taking_start, taking_on, taking_done}
use Rattle.casefile.proofs.input.Input.take_many.Goals as goal

pub loop-number-init : goal.loop-number-init
loop-number-init c = record { taking = taking_start _ _ _; same_file = refl }

pub loop-number-preserved : goal.loop-number-preserved
loop-number-preserved c =
    let before = c.loop-number.invariant in
    record {
      taking = taking_on before.taking (omega (arith, c.loop-number-test.true, c.loop-number.auto.number-items)) (reads_at before.same_file c.take.ensures);
      same_file = c.take.ensures.same_file ∙ before.same_file;
    }

pub returns : goal.returns
returns c =
    let after = c.loop-number.invariant in
    record { found = taking_done after.taking (omega (arith, c.loop-number-test.false, c.loop-number.auto.number-items)); same_file = after.same_file }
