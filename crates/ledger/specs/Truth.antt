-- That the wait of a phy tells the truth: what it means is the ticks in P2 since its Open, to the millisecond.
use Rattle.std.specs.Prelude.{◌+◌, ◌<◌, true, List, ◌⊎◌, ◌≡◌}
use Rattle.event.specs.Names.{most_wait, tick}
use Rattle.event.specs.declared.Event.{Event}
use Rattle.phy.specs.Names.{P2}
use Rattle.phy.specs.State.{valid_of}
use Rattle.phy.specs.Ticks.{waited_of, aged}
use Rattle.phy.specs.Step.{step_of}
use Rattle.phy.specs.declared.Phy.{Phy}
use Rattle.phy_laws.specs.Laws.{Judged}
use Rattle.ledger.specs.Wait.{microseconds, Truthful}
use Rattle.ledger.specs.Log.{entry, answered}
use Rattle.ledger.specs.Ledger.{Waiting, waiting, waited, through}
use Rattle.ledger.specs.Demand.{phy_after, books_of}

-- each tick in P2, whatever the link then does, adds exactly one microsecond to what the request's wait and part mean,
-- until the wait is 65,535
abbrev pub OneMoreEachTick : Type 0
OneMoreEachTick =
    (p : Phy) → valid_of p ≡ true → p.port ≡ P2 → p.request.wait < most_wait
    → microseconds (waited_of (aged p)) ≡ microseconds (waited_of p) + 1

-- and so does a step by a tick that leaves the phy in P2
abbrev pub OneMoreByStep : Type 0
OneMoreByStep =
    (p : Phy) (e : Event) → Judged p e → e.code ≡ tick → (step_of p e).next.port ≡ P2 → p.request.wait < most_wait
    → microseconds (waited_of (step_of p e).next) ≡ microseconds (waited_of p) + 1

-- whether the phy stays in P2 or leaves it, the request, or the answer to it, is the one that has waited a tick longer
abbrev pub LongerByTick : Type 0
LongerByTick =
    (p : Phy) (e : Event) → Judged p e → e.code ≡ tick → p.port ≡ P2
    → ((step_of p e).next.request ≡ (aged p).request) ⊎ ((step_of p e).answered ≡ (aged p).request)

-- after any events, the part of a millisecond in P2 is the one that the ticks there since the Open give
abbrev pub PartHeld : Type 0
PartHeld =
    (es : List Event) (w : Waiting) → books_of es ≡ waiting w → (phy_after es).port ≡ P2
    → (phy_after es).part ≡ (waited w).part

-- and the wait of a request that waits is true of the ticks in P2 since its Open
abbrev pub TrueWhileWaiting : Type 0
TrueWhileWaiting =
    (es : List Event) (w : Waiting) → books_of es ≡ waiting w
    → Truthful w.open_as_accepted.wait (phy_after es).request.wait w.ticks_in_P2

-- as is the wait that its answer carries
abbrev pub TrueWhenAnswered : Type 0
TrueWhenAnswered =
    (es : List Event) (e : Event) (w : Waiting) → books_of es ≡ waiting w
    → answered (entry step_of (phy_after es) e) ≡ true
    → Truthful w.open_as_accepted.wait (step_of (phy_after es) e).answered.wait
    (through w (entry step_of (phy_after es) e)).ticks_in_P2
