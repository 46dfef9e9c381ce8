-- `casefile::repeats::put_repeats` meets its contract: each turn passes one byte, and where its run ends the pair is written.
use Rattle.std.proofs.Common.{◌≡◌}
use Rattle.casefile.proofs.Repeating.{Repeating}
use Rattle.casefile.proofs.repeats.put_repeats.Given as goal

abbrev pub invariant-loop-i : goal.invariant-loop-i
invariant-loop-i g l =
    record {
      repeating : Repeating l.bytes l.initial.text.out.now l.initial.text.n l.text.out.now l.text.n l.count l.i;
      same_buffer : l.text.out.ghost_name ≡ l.initial.text.out.ghost_name;
    }
