-- `casefile::repeats::put_repeats` meets its contract: each turn passes one byte, and where its run ends the pair is written.
use Rattle.std.proofs.Common.{refl, sym, ◌∙◌, arith}
use Rattle.casefile.proofs.Repeating.{repeating_start, repeating_on, repeating_pair, repeating_done}
use Rattle.casefile.proofs.repeats.put_repeats.Goals.{then-ends_at, else-ends_at}
use Rattle.casefile.proofs.repeats.put_repeats.Goals as goal

pub loop-i-init : goal.loop-i-init
loop-i-init g c = record { repeating = repeating_start _ _ _; same_buffer = refl }

pub overflow_add-count : goal.overflow_add-count
overflow_add-count g c = omega (arith, c.loop-i.invariant.repeating.low)

pub loop-i-preserved : goal.loop-i-preserved
loop-i-preserved g c =
    let before = c.loop-i.invariant in
    elim c.if-ends_at.branch [
      | then-ends_at w ↦ rw (w.text-is, w.count-is)
          (record {
            repeating = repeating_pair before.repeating c.loop-i-test.true (sym w.if-ends_at.true ∙ c.ends_at.ensures) (rw w.from.ensures at w.put_more.ensures.puts);
            same_buffer = w.put_more.ensures.same_buffer ∙ before.same_buffer;
          })
      | else-ends_at w ↦ rw (w.text-is, w.count-is)
          (record {
            repeating = repeating_on before.repeating c.loop-i-test.true (sym w.if-ends_at.false ∙ c.ends_at.ensures);
            same_buffer = before.same_buffer;
          })
    ]

pub returns : goal.returns
returns g c =
    let after = c.loop-i.invariant in
    record {
      puts = repeating_done _ c.put_numbers.ensures.puts after.repeating c.loop-i-test.false c.end_line.ensures.puts;
      same_buffer = c.end_line.ensures.same_buffer ∙ after.same_buffer ∙ c.put_numbers.ensures.same_buffer;
    }
