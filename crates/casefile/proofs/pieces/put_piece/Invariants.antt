-- `casefile::pieces::put_piece` meets its contract: each turn writes one piece of those that are left, and stops at the first that has no room.
use Rattle.std.proofs.Common.{◌≡◌, ℕ, ◌+◌}
use Rattle.casefile.proofs.Filling.{Filling}
use Rattle.casefile.proofs.pieces.put_piece.Given as goal

abbrev pub invariant-loop : goal.invariant-loop
invariant-loop l =
    record {
      left : ℕ;
      here : l.counter + left ≡ l.times;
      filling : Filling l.piece l.times l.fn.text.out.now l.fn.text.n left l.text.out.now l.text.n;
      same_buffer : l.text.out.ghost_name ≡ l.fn.text.out.ghost_name;
    }
