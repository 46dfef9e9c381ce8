-- The wait tells the truth: the books say that it is the closed form of the ticks in P2, and that is truthful.
use Prim.Native.Nat.{ℕ}
use mathlib.Core.Bool.{true, false≢true}
use mathlib.Core.List.{List}
use mathlib.Core.Logic.{◌⊎◌, inl, inr}
use mathlib.Core.Path.{◌≡◌, refl, sym, ap, subst, ◌∙◌}
use native.Mathlib.Omega.{arith}
use borrow.Author.Tests.{eqb-true}
use lib.Dec.{eqb}
use Rattle.table.proofs.Laws.{parts}
use Rattle.event.specs.Names.{tick, tx_open}
use Rattle.event.specs.declared.Event.{Event}
use Rattle.phy.specs.Names.{P2}
use Rattle.phy.specs.Shapes.{◌and◌, fresh_phy}
use Rattle.phy.specs.State.{valid_part, valid_of}
use Rattle.phy.specs.Ticks.{longer, waited_of, aged}
use Rattle.phy.specs.Step.{step_of}
use Rattle.phy.specs.declared.Phy.{Phy}
use Rattle.phy.specs.declared.Stepped.{Stepped}
use Rattle.phy_laws.proofs.Counting.{heard}
use Rattle.phy_laws.proofs.Shapes.{facts}
use Rattle.phy_laws.proofs.OneStep.{Stepping, wait_known}
use Rattle.phy_laws.proofs.ByEvent.{one_step}
use Rattle.phy_laws.proofs.Steps.{fresh_valid}
use Rattle.phy_laws.proofs.Refusals.{step_is_move}
use Rattle.phy_laws.proofs.Answers.{by_tally, request_known}
use Rattle.ledger.specs.Wait.{microseconds, InP2}
use Rattle.ledger.specs.Log.{Entry, entry, answered}
use Rattle.ledger.specs.Ledger.{Waiting, free, waiting, grown, through, book}
use Rattle.ledger.specs.Demand.{phy_after, books_of}
use Rattle.ledger.specs.Truth.{OneMoreEachTick, OneMoreByStep, LongerByTick, PartHeld, TrueWhileWaiting, TrueWhenAnswered}
use Rattle.ledger.proofs.Wait.{one_more, true_after}
use Rattle.ledger.proofs.OneEntry.{Holds, Agrees, not_broken, agree}
use Rattle.ledger.proofs.Demand.{follow}
use Rattle.ledger.proofs.AnsweredBy.{Next, waits_on, answered_now, next}

-- ---- one tick

-- a valid phy in P2 has a wait and a part that may stand there
in_P2 : (p : Phy) → valid_of p ≡ true → p.port ≡ P2 → InP2 (waited_of p)
in_P2 p v u =
    record {
      wait = wait_known p.request (request_known p v (rw u));
      part = subst (λ (port : ℕ). valid_part port p.request.wait p.part ≡ true) u (facts p v).1.part;
    }

aged_longer : (p : Phy) → p.port ≡ P2 → waited_of (aged p) ≡ longer (waited_of p)
unfolding aged
aged_longer p u = rw u

pub one_more_each_tick : OneMoreEachTick
one_more_each_tick p v u l = ap microseconds (aged_longer p u) ∙ one_more (waited_of p) (in_P2 p v u) l

heard_tick : (p : Phy) (e : Event) → e.code ≡ tick → heard p e ≡ aged p
unfolding heard
heard_tick p e c = rw c

heard_longer : (p : Phy) (e : Event) → e.code ≡ tick → p.port ≡ P2 → waited_of (heard p e) ≡ longer (waited_of p)
heard_longer p e c u = ap waited_of (heard_tick p e c) ∙ aged_longer p u

-- a tick that leaves it there is one tick more
ticked_on : (p : Phy) (e : Event) (r : Stepped) → Stepping p e r → e.code ≡ tick → r.next.port ≡ P2 → (p.port ≡ P2) × (waited_of r.next ≡ longer (waited_of p))
ticked_on p e r s c u =
    by_tally ((p.port ≡ P2) × (waited_of r.next ≡ longer (waited_of p))) p e r s.tally
    (λ _ _ k. let h = k.part u in
    let same : waited_of r.next ≡ waited_of (heard p e) = λ i. (k.request i).wait and h.1 i in
    (h.0, same ∙ heard_longer p e c h.0))
    (λ _ w _. absurd (false≢true (sym w ∙ rw u)))
    (λ _ _ t. absurd (omega (arith, eqb-true e.code tx_open (parts (eqb e.code tx_open) (eqb r.refusal 0) t.opens).0)))
    (λ _ w _. absurd (false≢true (sym w ∙ rw u)))

pub one_more_by_step : OneMoreByStep
one_more_by_step p e j c u l =
    let m = step_is_move p e j in
    let t = ticked_on p e (step_of p e) (subst (Stepping p e) (sym m) (one_step p e j.valid j.known)) c u in
    ap microseconds t.1 ∙ one_more (waited_of p) (in_P2 p j.valid t.0) l

-- the request as it has grown waits on, or its answer carries it
pub longer_by_tick : LongerByTick
longer_by_tick p e j c u =
    let m = step_is_move p e j in
    let s = subst (Stepping p e) (sym m) (one_step p e j.valid j.known) in
    let h = heard_tick p e c in
    by_tally (((step_of p e).next.request ≡ (aged p).request) ⊎ ((step_of p e).answered ≡ (aged p).request)) p e (step_of p e) s.tally
    (λ _ _ k. inl (k.request ∙ ap (λ (q : Phy). q.request) h))
    (λ _ _ k. inr (k.carries ∙ ap (λ (q : Phy). q.request) h))
    (λ w _ _. absurd (false≢true (sym w ∙ rw u)))
    (λ w _ _. absurd (false≢true (sym w ∙ rw u)))

-- ---- over any events

-- what the books wait with, the phy holds
holds : (es : List Event) (w : Waiting) → books_of es ≡ waiting w → Holds (phy_after es) w
holds es w q = subst (Agrees (phy_after es)) q (follow fresh_phy free es fresh_valid refl).1

pub part_held : PartHeld
part_held es w q u = (holds es w q).part u

pub true_while_waiting : TrueWhileWaiting
true_while_waiting es w q = rw (holds es w q).request (true_after w.open_as_accepted.wait w.ticks_in_P2)

-- an answer carries the Open that the books wait with, grown
carries : {w : Waiting} {x : Entry} → answered x ≡ true → Next w x → x.result.answered ≡ grown (through w x)
carries a (waits_on _ z _) = absurd (false≢true (rw z at a))
carries a (answered_now _ r) = r

pub true_when_answered : TrueWhenAnswered
true_when_answered es e w q a =
    let p = phy_after es in
    let x = entry step_of p e in
    let n = not_broken (step_of p e).next (book (waiting w) x) (agree p e (waiting w) (follow fresh_phy free es fresh_valid refl).0 (holds es w q)) in
    rw (carries a (next w x n)) (true_after w.open_as_accepted.wait (through w x).ticks_in_P2)
