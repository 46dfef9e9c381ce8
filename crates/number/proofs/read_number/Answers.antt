-- `number::read_number` meets its contract: each turn takes one group off the definition, and the groups passed stay below their weight.
use mathlib.Core.Path.{sym}
use native.Mathlib.Omega.{arith}
use Rattle.number.proofs.Loops.{first_cut, first_last, passed_start, passed_cut, last_fits, more_fits, weight_fits, passed_on, passed_last, passed_end, tenth_fits, tenth_large, tenth_last}
use Rattle.number.proofs.read_number.Goals as goal

pub returns-then-s-place : goal.returns-then-s-place
returns-then-s-place c = sym (first_cut _ _ c.if-s-place.true)

pub returns-then-first-lt-HIGH : goal.returns-then-first-lt-HIGH
returns-then-first-lt-HIGH c = sym (first_last _ _ c.if-s-place.false c.if-first-lt-HIGH.true)

pub loop-i-init : goal.loop-i-init
loop-i-init c = passed_end (passed_start _ _ c.if-s-place.false c.if-first-lt-HIGH.false (c.type_inv.s _).fits) (omega arith)

pub overflow_mul-result : goal.overflow_mul-result
overflow_mul-result c = omega (arith, last_fits c.loop-i.invariant (omega (arith, c.min-left.ensures)) c.if-b-lt-HIGH.true)

pub overflow_add-result : goal.overflow_add-result
overflow_add-result c = omega (arith, last_fits c.loop-i.invariant (omega (arith, c.min-left.ensures)) c.if-b-lt-HIGH.true)

pub returns-then-b-lt-HIGH : goal.returns-then-b-lt-HIGH
returns-then-b-lt-HIGH c =
    sym (passed_last c.loop-i.invariant (omega (arith, c.min-left.ensures)) (omega (arith, c.min-left.ensures)) c.if-b-lt-HIGH.true)

pub overflow_mul-value : goal.overflow_mul-value
overflow_mul-value c = omega (arith, more_fits c.loop-i.invariant (omega (arith, c.min-left.ensures)) (c.type_inv.s _).fits)

pub overflow_add-value : goal.overflow_add-value
overflow_add-value c = omega (arith, more_fits c.loop-i.invariant (omega (arith, c.min-left.ensures)) (c.type_inv.s _).fits)

pub overflow_mul-weight : goal.overflow_mul-weight
overflow_mul-weight c = omega (arith, weight_fits c.loop-i.invariant (omega (arith, c.min-left.ensures)))

pub loop-i-preserved : goal.loop-i-preserved
loop-i-preserved c =
    passed_end (passed_on c.loop-i.invariant (omega (arith, c.min-left.ensures)) (omega (arith, c.min-left.ensures)) c.if-b-lt-HIGH.false (c.type_inv.s _).fits)
    (omega arith)

pub returns-then-s-tenth : goal.returns-then-s-tenth
returns-then-s-tenth c = sym (passed_cut (passed_end c.loop-i.invariant (omega (arith, c.min-left.ensures))) c.if-s-tenth.true)

pub returns-then-b-gt1 : goal.returns-then-b-gt1
returns-then-b-gt1 c =
    sym (tenth_large (passed_end c.loop-i.invariant (omega (arith, c.min-left.ensures))) (omega (arith, c.min-left.ensures)) (omega arith) c.if-b-gt1.true)

pub overflow_mul-result-2 : goal.overflow_mul-result-2
overflow_mul-result-2 c =
    omega (arith, tenth_fits (passed_end c.loop-i.invariant (omega (arith, c.min-left.ensures))) (omega (arith, c.min-left.ensures)) (omega arith) c.if-b-gt1.false)

pub overflow_add-result-2 : goal.overflow_add-result-2
overflow_add-result-2 c =
    omega (arith, tenth_fits (passed_end c.loop-i.invariant (omega (arith, c.min-left.ensures))) (omega (arith, c.min-left.ensures)) (omega arith) c.if-b-gt1.false)

pub returns : goal.returns
returns c =
    sym (tenth_last (passed_end c.loop-i.invariant (omega (arith, c.min-left.ensures))) (omega (arith, c.min-left.ensures)) (omega arith) c.if-b-gt1.false)
