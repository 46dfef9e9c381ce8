-- An answer comes where a request waits and then waits no more: by the four kinds of a step.
use Prim.Native.Nat.{ℕ}
use mathlib.Core.Bool.{true, false, false≢true}
use mathlib.Core.Logic.{◌↔◌, ◌⊎◌, inl, inr}
use mathlib.Core.Path.{◌≡◌, refl, sym, subst}
use lib.Dec.{eqb}
use Rattle.table.proofs.Laws.{by_test, by_pick}
use Rattle.event.specs.Table.{argument_range, arguments_known, open_known}
use Rattle.event.specs.Names.{tick}
use Rattle.event.specs.declared.Event.{Event}
use Rattle.event.specs.declared.Open.{Open}
use Rattle.phy.specs.Names.{P1, P2, P3}
use Rattle.phy.specs.Shapes.{no_open}
use Rattle.phy.specs.State.{valid_of}
use Rattle.phy.specs.Ticks.{aged}
use Rattle.phy.specs.Step.{move_of}
use Rattle.phy.specs.declared.Phy.{Phy}
use Rattle.phy.specs.declared.Stepped.{Stepped}
use Rattle.phy_laws.specs.Waiting.{waits, is_answer}
use Rattle.phy_laws.proofs.Counting.{heard}
use Rattle.phy_laws.specs.Laws.{AnswersComeFromWaiting, ArgumentsExactly}
use Rattle.phy_laws.proofs.Shapes.{by_shape}
use Rattle.phy_laws.proofs.OneStep.{Nothing, Taken, Kept, Answered, Tally, Stepping, longer_known}
use Rattle.phy_laws.proofs.InUse.{asked}
use Rattle.phy_laws.proofs.Steps.{by_way}

-- ---- the four kinds, by whether a request waits before and after

pub by_tally :
    (Q : Type 0) (p : Phy) (e : Event) (r : Stepped) → Tally p e r
    → (waits p.port ≡ true → waits r.next.port ≡ true → Kept p e r → Q)
    → (waits p.port ≡ true → waits r.next.port ≡ false → Answered p e r → Q)
    → (waits p.port ≡ false → waits r.next.port ≡ true → Taken e r → Q)
    → (waits p.port ≡ false → waits r.next.port ≡ false → Nothing e r → Q)
    → Q
by_tally Q p e r t a b c d =
    by_test (waits p.port)
    (λ w. by_test (waits r.next.port) (λ u. a w u (rw (w, u) at t)) (λ u. b w u (rw (w, u) at t)))
    (λ w. by_test (waits r.next.port) (λ u. c w u (rw (w, u) at t)) (λ u. d w u (rw (w, u) at t)))

-- a valid phy in which no request waits is in P1 or P3
settled : (p : Phy) → valid_of p ≡ true → waits p.port ≡ false → (p.port ≡ P1) ⊎ (p.port ≡ P3)
settled =
    by_shape (λ p. waits p.port ≡ false → (p.port ≡ P1) ⊎ (p.port ≡ P3))
    (λ f v w. inl refl) (λ f v w. inl refl) (λ f v w. inl refl)
    (λ f v w. absurd (false≢true (sym w))) (λ f v w. absurd (false≢true (sym w))) (λ f v w. absurd (false≢true (sym w)))
    (λ f v w. inr refl) (λ f v w. inr refl) (λ f v w. inr refl) (λ f v w. inr refl)
    (λ f v w. absurd (false≢true (sym w))) (λ f v w. absurd (false≢true (sym w)))

record From (p : Phy) (r : Stepped) : Type 0 where
  waited : waits p.port ≡ true
  code : is_answer r.answer ≡ true
  after : (r.next.port ≡ P1) ⊎ (r.next.port ≡ P3)

from : (p : Phy) (e : Event) (r : Stepped) → Stepping p e r → (r.answer ≡ 0 → ⊥) → From p r
from p e r s n =
    by_tally (From p r) p e r s.tally
    (λ _ _ k. absurd (n k.silent))
    (λ w u a. record { waited = w; code = a.code; after = settled r.next s.valid u })
    (λ _ _ k. absurd (n k.silent))
    (λ _ _ k. absurd (n k.silent))

pub answers_come_from_waiting : AnswersComeFromWaiting
answers_come_from_waiting p e n =
    let f = by_way (λ r. (r.answer ≡ 0 → ⊥) → From p r) p e (λ _ n. absurd (n refl)) (λ _ _ n. absurd (n refl)) (λ _ _ s. from p e (move_of p e) s) n in
    record { waited = f.waited; code = f.code; after = f.after }

-- ---- the arguments

-- a known Open is not none: its rate is 8 or 9
known_not_none : (o : Open) → open_known o ≡ true → o ≡ no_open → ⊥
unfolding open_known arguments_known argument_range
known_not_none o k n = false≢true (subst (λ (x : Open). open_known x ≡ true) n k)

-- a request that waits is known, and stays so as it waits
pub request_known : (p : Phy) → valid_of p ≡ true → waits p.port ≡ true → open_known p.request ≡ true
request_known =
    by_shape (λ p. waits p.port ≡ true → open_known p.request ≡ true)
    (λ f v w. absurd (false≢true w)) (λ f v w. absurd (false≢true w)) (λ f v w. absurd (false≢true w))
    (λ f v w. asked refl v) (λ f v w. asked refl v) (λ f v w. asked refl v)
    (λ f v w. absurd (false≢true w)) (λ f v w. absurd (false≢true w)) (λ f v w. absurd (false≢true w)) (λ f v w. absurd (false≢true w))
    (λ f v w. asked refl v) (λ f v w. asked refl v)

heard_known : (p : Phy) (e : Event) → valid_of p ≡ true → waits p.port ≡ true → open_known (heard p e).request ≡ true
unfolding heard aged
heard_known p e v w =
    let P : Phy → Type 0 = λ q. open_known q.request ≡ true in
    by_pick P (eqb e.code tick)
    (λ _. by_pick P (eqb p.port P2) (λ _. longer_known p.request p.part (request_known p v w)) (λ _. request_known p v w))
    (λ _. request_known p v w)

arguments : (p : Phy) (e : Event) (r : Stepped) → valid_of p ≡ true → Stepping p e r → r.answered ≡ no_open ↔ (r.answer ≡ 0)
arguments p e r v s =
    by_tally (r.answered ≡ no_open ↔ (r.answer ≡ 0)) p e r s.tally
    (λ _ _ k. (λ _. k.silent, λ _. k.none))
    (λ w _ a. (
      λ n. absurd (known_not_none r.answered (rw a.carries (heard_known p e v w)) n),
      λ z. absurd (false≢true (subst (λ (n : ℕ). is_answer n ≡ true) z a.code)),
    ))
    (λ _ _ k. (λ _. k.silent, λ _. k.none))
    (λ _ _ k. (λ _. k.silent, λ _. k.none))

pub arguments_exactly : ArgumentsExactly
arguments_exactly p e =
    by_way (λ r. r.answered ≡ no_open ↔ (r.answer ≡ 0)) p e
    (λ _. (λ _. refl, λ _. refl))
    (λ _ _. (λ _. refl, λ _. refl))
    (λ v _ s. arguments p e (move_of p e) v s)
