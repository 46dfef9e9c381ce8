-- `casefile::pieces::put_pieces` meets its contract: each turn writes one piece of those that are left.
use Rattle.std.proofs.Common.{refl, ◌∙◌, ◌-◌, arith}
use Rattle.casefile.proofs.Numbers.{reads_at}
use Rattle.casefile.proofs.Filling.{making_start, making_on, making_done}
use Rattle.casefile.proofs.pieces.put_pieces.Goals as goal

pub loop-init : goal.loop-init
loop-init c =
    record {
      left = c.take-end.result;
      here = omega arith;
      making = making_start _ _ c.take-end.ensures.found;
      same_file = c.take-end.ensures.same_file;
      same_buffer = refl;
    }

pub loop-preserved : goal.loop-preserved
loop-preserved c =
    let before = c.loop.invariant in
    let number = c.take-times.ensures in
    let string = c.take_bytes-piece.ensures in
    let put = c.put_piece-whole.ensures in
    let file = number.same_file ∙ before.same_file in
    record {
      left = before.left - 1;
      here = omega (arith, before.here, c.loop-test.true);
      making = making_on before.making (omega (arith, before.here, c.loop-test.true)) (reads_at before.same_file number) (reads_at file string) put.puts;
      same_file = string.same_file ∙ file;
      same_buffer = put.same_buffer ∙ before.same_buffer;
    }

pub returns-clause-pieces : goal.returns-clause-pieces
returns-clause-pieces c =
    let after = c.loop.invariant in
    record { puts = making_done after.making (omega (arith, after.here, c.loop-test.false)); same_buffer = after.same_buffer }

pub returns-clause-same_file : goal.returns-clause-same_file
returns-clause-same_file c = c.loop.invariant.same_file
