-- `bay::gap::ticks_to` meets its contract: the counter's difference goes round as the definition's, and without a base there is none.
use Rattle.std.proofs.Common.{arith, eq-eqb, ne_eqb}
use Rattle.bay.proofs.Steps.{base_few, moved_by}
use Rattle.bay.proofs.gap.ticks_to.Goals as goal

pub overflow_cast-bay : goal.overflow_cast-bay
overflow_cast-bay c = omega (arith, base_few _ c.requires.0 (eq-eqb _ _ c.if-bay-eq-ON.true))

pub returns-then-bay-eq-ON : goal.returns-then-bay-eq-ON
returns-then-bay-eq-ON c = let t = eq-eqb _ _ c.if-bay-eq-ON.true in rw t (moved_by _ _ _ (base_few _ c.requires.0 t) c.requires.1 (omega arith) c.wrapping_sub_u32.ensures.value)

pub returns : goal.returns
returns c = simp (ne_eqb _ _ c.if-bay-eq-ON.false)
