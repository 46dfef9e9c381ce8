-- `lines::put_columns` meets its contract: the numbers and the newline stand end to end in the array, which has room for them.
use Rattle.std.proofs.Common.{ℕ, suc, ◌^◌, ◌<◌, ◌≤◌, List, [], ◌∷◌, length, ap, get_or, arith, rules}
use borrow.Author.Tests.{le-leb}
use Rattle.output.specs.Writing.{line}
use Rattle.output.proofs.Decimal.{Small, line_short}
use Rattle.output.proofs.Places.{extends_then, extends_all, extends_whole}
use Rattle.lines.specs.Lines.{most_line, most_columns}
use Rattle.lines.proofs.put_columns.Goals as goal

-- numbers of which each is below 2^64
all_small : (numbers : List ℕ) → ((i : ℕ) → get_or numbers i 0 < 2 ^ 64) → Small numbers
all_small [] h = tt
all_small (v ∷ vs) h = (h 0, all_small vs (λ i. h (suc i)))

pub returns : goal.returns
returns c =
    let place = c.args.place in
    let columns = c.args.columns.now in
    let few : length columns ≤ most_columns = omega (arith, c.if-columns-gt-MOST_COLUMNS.false) in
    let small : Small (place ∷ columns) = (search rules, all_small columns (λ i. (c.type_inv.columns i).fits)) in
    let long : length (line place columns) ≤ most_line = omega (arith, line_short place columns small, few) in
    let made = extends_then c.put_numbers.ensures (extends_all c.put_all.ensures) in
    let whole = extends_whole made c.new-made.ensures.start (omega (arith, long, ap length c.new-made.ensures.same_bytes)) in
    record {
      puts = rw (le-leb (length columns) most_columns few) (record { puts = rw (c.bytes.ensures, whole) at c.put_line.ensures.puts; short = long });
      there = c.put_line.ensures.there;
      same_buffer = c.put_line.ensures.same_buffer;
    }
