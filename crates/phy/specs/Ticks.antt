-- 13, a tick: the wait rises first, then the link decides.
use Rattle.std.specs.Prelude.{ℕ, ◌+◌, ◌-◌, ◌&&◌, List, [], ◌∷◌, eqb, leb, ltb}
use Rattle.table.specs.Choice.{pick, Row, ◌⇒◌, rows}
use Rattle.table.specs.Flags.{off, is_on}
use Rattle.event.specs.Names.{most_wait}
use Rattle.phy.specs.Names.{L1, L2, L3, L4, L5, L6, P2, answer_opened_by_destination, answer_opened_by_other}
use Rattle.phy.specs.Names.{answer_open_timeout, notice_opened, notice_close_timeout, sent_open_accept}
use Rattle.phy.specs.Names.{sent_open_reject}
use Rattle.phy.specs.Names.{sent_break, full_timer, bend, most_part}
use Rattle.phy.specs.Shapes.{◌and◌, given_up, connected, with_timer, with_waited, reports, answers, quiet}
use Rattle.phy.specs.Moves.{to_idle}
use Rattle.phy.specs.declared.Waited.{Waited}
use Rattle.phy.specs.declared.Phy.{Phy}
use Rattle.phy.specs.declared.Stepped.{Stepped}

-- one tick more: up to 32,768 the wait rises, then the part, at whose thousandth the wait does; 65,535 is the most
unfoldable pub longer : Waited → Waited
longer w =
    pick (leb most_wait w.wait) w
    (pick (leb bend w.wait && ltb w.part most_part) (w.wait and (w.part + 1))
    ((w.wait + 1) and 0))

-- how long a phy's request has waited
abbrev pub waited_of : Phy → Waited
waited_of p = p.request.wait and p.part

-- first of all, in P2, the request has waited longer
unfoldable pub aged : Phy → Phy
aged p = pick (eqb p.port P2) (with_waited p (longer (waited_of p))) p

-- a running timer falls by one; at 0 it is over
abbrev pub counts : Phy → (over : Stepped) → Stepped
counts p over = pick (leb p.timer 1) over (quiet (with_timer p (p.timer - 1)))

-- L1: the Open has failed, and its answer waits for the link to be idle
abbrev pub open_failed : Phy → Stepped
open_failed p = reports (given_up p.settings L5 full_timer p.request answer_open_timeout) 0 sent_break

unfoldable pub tick_requesting : Phy → Stepped
tick_requesting p = counts p (open_failed p)

-- L4: no CLOSE came
abbrev pub close_failed : Phy → Stepped
close_failed p =
    reports (connected p.settings L5 full_timer p.connectionProtocol off) notice_close_timeout sent_break

unfoldable pub tick_closing : Phy → Stepped
tick_closing p = counts p (close_failed p)

-- L5: neither BREAK nor OPEN_REJECT came in time
unfoldable pub tick_breaking : Phy → Stepped
tick_breaking p = counts p (to_idle p 0)

-- how a request that waits is answered, by who opened the connection
unfoldable pub opened_by : (source destination : ℕ) → ℕ
opened_by source destination = pick (eqb source destination) answer_opened_by_destination answer_opened_by_other

-- L2, opens accepted: the far end's OPEN is a connection, and a request that waits is answered
abbrev pub accept_rows : Phy → List (Row Stepped)
accept_rows p =
    (P2 ⇒ answers (connected p.settings L3 0 p.inboundProtocol off)
    (opened_by p.inboundSource p.request.destination) p.request notice_opened sent_open_accept)
    ∷ []

unfoldable pub accepted : Phy → Stepped
accepted p =
    rows p.port (accept_rows p)
    (reports (connected p.settings L3 0 p.inboundProtocol off) notice_opened sent_open_accept)

-- L2: by the flag as it is now
unfoldable pub tick_selected : Phy → Stepped
tick_selected p = pick (is_on p.settings.accept) (accepted p) (to_idle p sent_open_reject)

-- by the link, in the order of the paper
abbrev pub tick_rows : Phy → List (Row Stepped)
tick_rows p =
    (L1 ⇒ tick_requesting p)
    ∷ (L4 ⇒ tick_closing p)
    ∷ (L5 ⇒ tick_breaking p)
    ∷ (L6 ⇒ to_idle p 0)
    ∷ (L2 ⇒ tick_selected p)
    ∷ []

-- what a tick does once the wait has risen
unfoldable pub on_tick_aged : Phy → Stepped
on_tick_aged p = rows p.link (tick_rows p) (quiet p)

-- the last tick in a link state, which ends it: the timer is over
unfoldable pub last_tick : Phy → Stepped
last_tick p = on_tick_aged (with_timer p 0)

-- the wait rises before all else
unfoldable pub on_tick : Phy → Stepped
on_tick p = on_tick_aged (aged p)
