-- `lines::put_last` meets its contract: the words and the numbers stand end to end in the array, which has room for them.
use Rattle.std.proofs.Common.{ℕ, ◌≤◌, ◌+◌, List, [], ◌∷◌, length, ap, arith, rules}
use lib.ListN.{length-append}
use Rattle.output.proofs.Decimal.{Small, more_short}
use Rattle.output.proofs.Places.{extends_then, extends_all, extends_whole}
use Rattle.lines.specs.Lines.{most_line, last_line}
use Rattle.lines.proofs.put_last.Goals as goal

short :
    (word other : List ℕ) (place value : ℕ) → length word + length other + 43 ≤ most_line → Small (place ∷ []) → Small (value ∷ [])
    → length (last_line word place other value) ≤ most_line
short word other place value room p v = simp length-append (omega (arith, more_short (place ∷ []) p, more_short (value ∷ []) v))

pub returns : goal.returns
returns c =
    let fits = short c.args.word.now c.args.other.now c.args.place c.args.value c.requires (search rules) (search rules) in
    let made =
    extends_then (extends_all c.put_all.ensures)
    (extends_then c.put_more.ensures (extends_then (extends_all c.put_all-2.ensures) (extends_then c.put_more-2.ensures (extends_all c.put_all-3.ensures)))) in
    let whole = extends_whole made c.new-made.ensures.start (omega (arith, fits, ap length c.new-made.ensures.same_bytes)) in
    record {
      puts = record { puts = rw (c.bytes.ensures, whole) at c.put_line.ensures.puts; short = fits };
      there = c.put_line.ensures.there;
      same_buffer = c.put_line.ensures.same_buffer;
    }
