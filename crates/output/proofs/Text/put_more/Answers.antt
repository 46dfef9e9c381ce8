-- `output::Text::put_more` meets its contract: each turn writes one number of those that are left.
use Rattle.std.proofs.Common.{refl, ap, ◌∙◌}
use Rattle.output.proofs.Places.{putting_start, more_on, more_done}
use Rattle.output.proofs.Text.put_more.Goals as goal

pub loop-number-init : goal.loop-number-init
loop-number-init g c = record { left = putting_start _ _ _; same_buffer = refl }

pub loop-number-preserved : goal.loop-number-preserved
loop-number-preserved g c =
    let before = c.loop-number.invariant in
    let value = g.T.Number.value in
    record {
      left = more_on value _ _ _ before.left c.loop-number-test.true (c.number.ensures ∙ ap value c.number-item.is) c.put_next.ensures.puts;
      same_buffer = c.put_next.ensures.same_buffer ∙ before.same_buffer;
    }

pub returns : goal.returns
returns g c =
    let after = c.loop-number.invariant in
    record { puts = more_done _ _ _ after.left c.loop-number-test.false; same_buffer = after.same_buffer }
