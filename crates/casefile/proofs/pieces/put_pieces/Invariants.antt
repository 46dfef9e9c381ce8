-- `casefile::pieces::put_pieces` meets its contract: each turn writes one piece of those that are left.
use Rattle.std.proofs.Common.{◌≡◌, ℕ, ◌+◌}
use Rattle.casefile.proofs.Filling.{Making}
use Rattle.casefile.proofs.pieces.put_pieces.Given as goal

abbrev pub invariant-loop : goal.invariant-loop
invariant-loop l =
    record {
      left : ℕ;
      here : l.counter + left ≡ l.end;
      making : Making l.fn.input.s.now l.fn.input.place l.fn.text.out.now l.fn.text.n l.text.out.now left l.input.place l.text.n l.whole;
      same_file : l.input.s ≡ l.fn.input.s;
      same_buffer : l.text.out.ghost_name ≡ l.fn.text.out.ghost_name;
    }
