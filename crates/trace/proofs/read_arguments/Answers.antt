-- `trace::read_arguments` meets its contract: each turn takes one argument off the definition, and a fault is the whole answer.
use mathlib.Core.Path.{sym}
use native.Mathlib.Omega.{arith}
use Rattle.std.proofs.lemmas.Result.{err_from_is_err_and}
use Rattle.trace.proofs.Known.{six_arguments}
use Rattle.trace.proofs.ReadLoop.{taken_fault, taken_bad, taken_on, taken_done, none_asked}
use Rattle.trace.proofs.read_arguments.Goals as goal

pub returns-in_err-argument : goal.returns-in_err-argument
returns-in_err-argument c =
    let p = err_from_is_err_and c.from_residual.result c.from_residual.ensures.1 in
    rw (p.1, p.2) (sym (taken_fault c.loop-i.invariant (omega arith) (sym c.in_err-argument.ensures)))

pub offset_bounds-values-i : goal.offset_bounds-values-i
offset_bounds-values-i c = omega (arith, six_arguments c.args.code)

pub bounds-values-i : goal.bounds-values-i
bounds-values-i c = omega (arith, six_arguments c.args.code)

pub returns : goal.returns
returns c = sym (taken_done c.loop-i.invariant (omega arith))

pub returns-then-not-in_range : goal.returns-then-not-in_range
returns-then-not-in_range c =
    sym (taken_bad c.loop-i.invariant (omega arith) (sym c.in_ok-argument.ensures) (rw (← c.argument_range-range.ensures) c.if-not-in_range.true))

pub loop-i-preserved : goal.loop-i-preserved
loop-i-preserved c =
    taken_on c.loop-i.invariant (omega arith) (sym c.in_ok-argument.ensures) (rw (← c.argument_range-range.ensures) c.if-not-in_range.false)

pub returns-then-count-eq0 : goal.returns-then-count-eq0
returns-then-count-eq0 c = sym (none_asked _ _ (omega (arith, c.if-count-eq0.true)))
