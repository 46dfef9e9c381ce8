-- `run::byte_for` meets its contract: its test is the definition's.
use borrow.Author.Tests.{eq-eqb, ne_eqb}
use Rattle.run.specs.Running.{byte_for}
use Rattle.run.proofs.byte_for.Goals as goal
use Rattle.run.proofs.byte_for.Goals.{then-refusal-eq0, else-refusal-eq0}

pub returns : goal.returns
unfolding byte_for
returns c =
    elim c.if-refusal-eq0.branch [
      | then-refusal-eq0 w ↦ rw w.told-is (simp (eq-eqb _ _ w.if-refusal-eq0.true))
      | else-refusal-eq0 w ↦ rw w.told-is (simp (ne_eqb _ _ w.if-refusal-eq0.false))
    ]
