-- A refusal and an answer are bytes: the answers lie from 32 to 80, and a refusal is at most 6.
use Prim.Native.Nat.{ℕ, ◌≤◌}
use mathlib.Core.Bool.{true, false, false≢true}
use mathlib.Core.Path.{◌≡◌, refl, sym, ◌∙◌}
use native.Mathlib.Omega.{arith}
use borrow.Author.Tests.{ne_eqb, eqb-true, eqb-false}
use lib.Dec.{eqb}
use Rattle.table.proofs.Laws.{by_test, by_order}
use Rattle.event.specs.declared.Event.{Event}
use Rattle.phy.specs.Names.{answer_opened, answer_retry, answer_no_destination, answer_pathway_blocked, answer_collided, answer_opened_by_destination, answer_opened_by_other, answer_bad_destination, answer_rate, answer_protocol, answer_stp_busy, answer_wrong_destination, answer_open_timeout, answer_break_received, answer_port_layer_request, answer_terminated}
use Rattle.phy.specs.Step.{step_of}
use Rattle.phy.specs.declared.Phy.{Phy}
use Rattle.phy_laws.specs.Waiting.{is_answer}
use Rattle.phy_laws.specs.Laws.{AreBytes}
use Rattle.phy_laws.proofs.Answers.{answers_come_from_waiting}
use Rattle.phy_laws.proofs.Steps.{reports_are_listed}

-- ---- answers

-- a number that none of those from 32 to 80 is, is no answer
none : (n : ℕ) → ((k : ℕ) → answer_opened ≤ k → k ≤ answer_terminated → n ≡ k → ⊥) → is_answer n ≡ false
none n h =
    let not : (k : ℕ) → answer_opened ≤ k → k ≤ answer_terminated → eqb n k ≡ false = λ k a b. ne_eqb n k (h k a b) in
    rw (
      not answer_opened (omega arith) (omega arith),
      not answer_retry (omega arith) (omega arith),
      not answer_no_destination (omega arith) (omega arith),
      not answer_pathway_blocked (omega arith) (omega arith),
      not answer_collided (omega arith) (omega arith),
      not answer_opened_by_destination (omega arith) (omega arith),
      not answer_opened_by_other (omega arith) (omega arith),
      not answer_bad_destination (omega arith) (omega arith),
      not answer_rate (omega arith) (omega arith),
      not answer_protocol (omega arith) (omega arith),
      not answer_stp_busy (omega arith) (omega arith),
      not answer_wrong_destination (omega arith) (omega arith),
      not answer_open_timeout (omega arith) (omega arith),
      not answer_break_received (omega arith) (omega arith),
      not answer_port_layer_request (omega arith) (omega arith),
      not answer_terminated (omega arith) (omega arith),
    )
    refl

pub answer_least : (n : ℕ) → is_answer n ≡ true → answer_opened ≤ n
answer_least n a = by_order n answer_opened (λ l. absurd (false≢true (sym (none n (λ k g h q. omega arith)) ∙ a))) (λ g. g)

pub answer_most : (n : ℕ) → is_answer n ≡ true → n ≤ answer_terminated
answer_most n a = by_order answer_terminated n (λ l. absurd (false≢true (sym (none n (λ k g h q. omega arith)) ∙ a))) (λ g. g)

-- a step's answer is none or one of the sixteen
pub none_or_answer : {A : Type 0} (p : Phy) (e : Event) → ((step_of p e).answer ≡ 0 → A) → (is_answer (step_of p e).answer ≡ true → A) → A
none_or_answer p e a b =
    by_test (eqb (step_of p e).answer 0) (λ t. a (eqb-true (step_of p e).answer 0 t))
    (λ f. b (answers_come_from_waiting p e (eqb-false (step_of p e).answer 0 f)).code)

pub are_bytes : AreBytes
are_bytes p e =
    record {
      answer = none_or_answer p e (λ z. omega arith) (λ a. omega (arith, answer_most (step_of p e).answer a));
      refusal = omega (arith, (reports_are_listed p e).refusal);
    }
