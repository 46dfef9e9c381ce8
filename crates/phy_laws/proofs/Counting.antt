-- What the one-step law counts by: acceptances, ticks, AIPs, the request as it waits, and how long it may yet take.
use Prim.Native.Nat.{ℕ, ◌+◌}
use mathlib.Core.Bool.{Bool, ◌&&◌}
use mathlib.Core.List.{[], ◌∷◌}
use lib.Dec.{eqb}
use Rattle.table.specs.Choice.{pick, ◌⇒◌, rows}
use Rattle.event.specs.Names.{tx_open, aip_received, tick}
use Rattle.event.specs.declared.Event.{Event}
use Rattle.phy.specs.Names.{L1, L5, full_timer}
use Rattle.phy.specs.Ticks.{aged}
use Rattle.phy.specs.declared.Phy.{Phy}
use Rattle.phy.specs.declared.Stepped.{Stepped}

-- a Tx Open is accepted: it is not refused
abbrev pub accepts : Event → Stepped → Bool
accepts e r = eqb e.code tx_open && eqb r.refusal 0

-- the phy once an event has come: a tick in P2 lets its request wait longer
unfoldable pub heard : Phy → Event → Phy
heard p e = pick (eqb e.code tick) (aged p) p

-- an event's own tick, and its own AIP
abbrev pub ticks_of : Event → ℕ
ticks_of e = pick (eqb e.code tick) 1 0

abbrev pub aips_of : Event → ℕ
aips_of e = pick (eqb e.code aip_received) 1 0

-- how many ticks a waiting request may yet take, if no AIP comes
unfoldable pub left : Phy → ℕ
left p = rows p.link ((L1 ⇒ p.timer + full_timer) ∷ (L5 ⇒ p.timer) ∷ []) 1
