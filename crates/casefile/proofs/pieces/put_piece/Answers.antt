-- `casefile::pieces::put_piece` meets its contract: each turn writes one piece of those that are left, and stops at the first that has no room.
use Rattle.std.proofs.Common.{refl, sym, ◌∙◌, ◌-◌, arith}
use borrow.Author.Tests.{eqb-true}
use Rattle.casefile.proofs.Filling.{filling_none, filling_start, filling_on, filling_cut, filling_done}
use Rattle.casefile.proofs.pieces.put_piece.Goals as goal

pub returns-then-is_empty : goal.returns-then-is_empty
returns-then-is_empty c =
    record { puts = filling_none _ (eqb-true _ 0 (sym c.is_empty.ensures ∙ c.if-is_empty.true)) _ _ _; same_buffer = refl }

pub loop-init : goal.loop-init
loop-init c = record { left = c.args.times; here = omega arith; filling = filling_start _ _ _ _; same_buffer = refl }

pub returns-then-text-from : goal.returns-then-text-from
returns-then-text-from c =
    let before = c.loop.invariant in
    let put = c.put_all.ensures in
    record {
      puts = filling_cut before.filling (omega (arith, before.here, c.loop-test.true)) put.puts.puts c.if-text-from.true;
      same_buffer = put.same_buffer ∙ before.same_buffer;
    }

pub loop-preserved : goal.loop-preserved
loop-preserved c =
    let before = c.loop.invariant in
    let put = c.put_all.ensures in
    record {
      left = before.left - 1;
      here = omega (arith, before.here, c.loop-test.true);
      filling = filling_on before.filling (omega (arith, before.here, c.loop-test.true)) put.puts.puts c.if-text-from.false;
      same_buffer = put.same_buffer ∙ before.same_buffer;
    }

pub returns : goal.returns
returns c =
    let after = c.loop.invariant in
    record { puts = filling_done after.filling (omega (arith, after.here, c.loop-test.false)); same_buffer = after.same_buffer }
