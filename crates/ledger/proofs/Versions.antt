-- The faults of versions two and three, by computing their logs.
use mathlib.Core.Path.{refl}
use native.Mathlib.Omega.{arith}
use Rattle.event.specs.Table.{open_of}
use Rattle.phy.specs.Moves.{to_idle, open_by_link, on_tx_open}
use Rattle.phy.specs.Ticks.{longer, aged, tick_requesting, tick_breaking, on_tick_aged, on_tick}
use Rattle.phy.specs.Step.{move_of}
use Rattle.ledger.specs.Wait.{meant, in_field, waited_for}
use Rattle.ledger.specs.Ledger.{book}
use Rattle.ledger.specs.Demand.{open_to_five}
use Rattle.ledger.specs.Versions.{step_two, step_three, VersionTwoLate, VersionThreeTwice}

-- the port stays in Req_Wait, and every tick is counted there
pub version_two_late : VersionTwoLate
unfolding step_two move_of on_tx_open open_by_link on_tick on_tick_aged aged longer book
version_two_late = (record { open_as_accepted = open_of open_to_five; ticks_in_P2 = 2000; ticks = 2000; aips = 0 }, refl, omega arith)

-- tick 1,000 answers, tick 2,000 answers again
pub version_three_twice : VersionThreeTwice
unfolding step_three move_of on_tx_open open_by_link on_tick on_tick_aged aged longer tick_requesting tick_breaking to_idle book meant in_field waited_for
version_three_twice = record { none_waits = refl; again = refl; breaks = refl }
