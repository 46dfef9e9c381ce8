-- What counts a timer down is known by its two cases.
use Rattle.std.proofs.Common.{◌≡◌, ◌<◌, ◌≤◌, ◌-◌}
use borrow.Author.Tests.{le-leb, lt-leb}
use Rattle.table.proofs.Laws.{by_order}
use Rattle.phy.specs.Shapes.{quiet, with_timer}
use Rattle.phy.specs.Ticks.{counts}
use Rattle.phy.specs.declared.Phy.{Phy}
use Rattle.phy.specs.declared.Stepped.{Stepped}

pub counted : (p : Phy) {r : Stepped} (over : Stepped) → (p.timer ≤ 1 → r ≡ over) → (1 < p.timer → r ≡ quiet (with_timer p (p.timer - 1))) → r ≡ counts p over
counted p {r} over ends falls =
    by_order 1 p.timer (λ l. rw (lt-leb p.timer 1 l) (falls l)) (λ g. rw (le-leb p.timer 1 g) (ends g))
