-- A refusal and an answer of a bay are bytes: an answer is one of the sixteen, since each of a phy is, and a refusal is at most 6.
use Prim.Native.Nat.{ℕ, zero, suc, ◌≤◌}
use mathlib.Core.Bool.{true}
use mathlib.Core.List.{List, ◌++◌}
use mathlib.Core.Logic.{◌⊎◌, inl, inr, ⊎_elim}
use mathlib.Core.Path.{◌≡◌, refl}
use native.Mathlib.Omega.{arith}
use lib.Dec.{eqb}
use lib.ListN.{get_or}
use Rattle.table.specs.Refusals.{wrong_protocol}
use Rattle.table.proofs.Laws.{by_pick}
use Rattle.event.specs.Names.{tick}
use Rattle.event.specs.declared.Event.{Event}
use Rattle.phy.specs.Step.{step_of}
use Rattle.phy.specs.declared.Phy.{Phy}
use Rattle.phy_laws.specs.Waiting.{is_answer}
use Rattle.phy_laws.proofs.Steps.{reports_are_listed}
use Rattle.phy_laws.proofs.Bytes as phy
use Rattle.ledger.specs.Log.{log}
use Rattle.ledger.specs.Demand.{plain}
use Rattle.bay.specs.Gap.{ticks, in_order, answer_at, gap_of}
use Rattle.bay.specs.Step as bay
use Rattle.bay.specs.Step.{no_report, ticks_to, on_stamp}
use Rattle.bay.specs.declared.Bay.{Bay}
use Rattle.bay.specs.declared.Report.{Report}
use Rattle.bay_laws.specs.Laws.{AreBytes}
use Rattle.bay_laws.proofs.Steps.{by_way}

abbrev NoneOrAnswer : ℕ → Type 0
NoneOrAnswer n = (n ≡ 0) ⊎ (is_answer n ≡ true)

-- the first answer of a gap is that of its first tick, or the first of the others
first : (n : ℕ) (p : Phy) (at : ℕ) → NoneOrAnswer (get_or (in_order answer_at at (log step_of p (ticks n))) 0 no_report).code
first zero p at = inl refl
first (suc n) p at =
    by_pick (λ (l : List Report). NoneOrAnswer (get_or (l ++ in_order answer_at (suc at) (log step_of (step_of p (plain tick)).next (ticks n))) 0 no_report).code) (eqb (step_of p (plain tick)).answer 0)
    (λ _. first n (step_of p (plain tick)).next (suc at))
    (λ _. phy.none_or_answer p (plain tick) inl inr)

pub none_or_answer : {A : Type 0} (b : Bay) (e : Event) → ((bay.step_of b e).answer.code ≡ 0 → A) → (is_answer (bay.step_of b e).answer.code ≡ true → A) → A
unfolding on_stamp gap_of
none_or_answer b e x y =
    ⊎_elim x y
    (by_way (λ r. NoneOrAnswer r.answer.code) b e (λ _. inl refl) (λ _ _. first (ticks_to b e.first) b.phy 1) (λ _ _. phy.none_or_answer b.phy e inl inr))

pub few_refusals : (b : Bay) (e : Event) → (bay.step_of b e).refusal ≤ wrong_protocol
unfolding on_stamp
few_refusals b e = by_way (λ r. r.refusal ≤ wrong_protocol) b e (λ _. omega arith) (λ _ _. omega arith) (λ _ _. (reports_are_listed b.phy e).refusal)

pub are_bytes : AreBytes
are_bytes b e =
    record {
      answer = none_or_answer b e (λ z. omega arith) (λ a. omega (arith, phy.answer_most (bay.step_of b e).answer.code a));
      refusal = omega (arith, few_refusals b e);
    }
