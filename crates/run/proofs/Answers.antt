-- The answers among the bytes are those of the log: a byte is an answer exactly where its step answers, since refusals lie below the answers.
use Prim.Native.Nat.{ℕ, ◌+◌, ◌≤◌}
use mathlib.Core.Bool.{true, false, false≢true}
use mathlib.Core.List.{List, [], ◌∷◌}
use mathlib.Core.Path.{◌≡◌, refl, sym, ap, ap₂, ◌∙◌}
use native.Mathlib.Omega.{arith}
use borrow.Author.Tests.{eqb-false, eq-eqb, ne_eqb, le-leb}
use lib.Dec.{eqb}
use lib.ListN.{length, length-map}
use Rattle.table.specs.Refusals.{bad_state, bad_event, wrong_protocol}
use Rattle.table.proofs.Laws.{by_test}
use Rattle.event.specs.Table.{known_in_trace}
use Rattle.event.specs.declared.Event.{Event}
use Rattle.trace.specs.Laws.{Passes, here, on}
use Rattle.trace.proofs.Accepted.{read_known}
use Rattle.phy.specs.Shapes.{fresh_phy}
use Rattle.phy_laws.specs.Waiting.{is_answer}
use Rattle.phy_laws.proofs.Steps as phy
use Rattle.phy_laws.proofs.Bytes.{answer_least}
use Rattle.ledger.specs.Demand.{one_if_waiting}
use Rattle.bay.specs.State.{valid_of, unstamped, fresh_bay}
use Rattle.bay.specs.Step.{step_of}
use Rattle.bay.specs.Log.{log, after}
use Rattle.bay.specs.declared.Bay.{Bay}
use Rattle.bay.specs.declared.Stepped.{Stepped}
use Rattle.bay_laws.specs.Spelled.{bay_answers}
use Rattle.bay_laws.proofs.Steps.{stays_valid}
use Rattle.bay_laws.proofs.Refusals.{bad_state_exactly, bad_event_exactly, refused_keeps}
use Rattle.bay_laws.proofs.Bytes.{none_or_answer, few_refusals}
use Rattle.bay_laws.proofs.Spelled.{spelled_out_lem}
use Rattle.run.specs.Running.{taking, byte_for, byte_of, bytes_of, run_of}
use Rattle.run.specs.Laws.{NeitherOneNorTwo, NoOneNorTwo, answers_in, AnswersInOrder, RunsLawful}
use Rattle.run.proofs.Loop.{as_valid}
use Rattle.run.proofs.Stopping.{stops_well_always}
use Rattle.run.proofs.Written.{writes_taken}

-- ---- the byte of a step is its refusal, or else its answer

small_no_answer : (n : ℕ) → n ≤ wrong_protocol → is_answer n ≡ false
small_no_answer n h = by_test (is_answer n) (λ t. absurd (omega (arith, answer_least n t))) (λ f. f)

module _ {A : Type 0} (b : Bay) (e : Event) where
  by_byte : (((step_of b e).refusal ≡ 0 → ⊥) → byte_of (step_of b e) ≡ (step_of b e).refusal → A) → (byte_of (step_of b e) ≡ (step_of b e).answer.code → A) → A
  unfolding byte_for
  by_byte x y =
      by_test (eqb (step_of b e).refusal 0) (λ t. y (rw t refl))
      (λ f. x (eqb-false (step_of b e).refusal 0 f) (rw f refl))

  -- a byte is an answer exactly where the step answers, and then it is that answer
  by_answer :
      (is_answer (byte_of (step_of b e)) ≡ true → eqb (step_of b e).answer.code 0 ≡ false → byte_of (step_of b e) ≡ (step_of b e).answer.code → A)
      → (is_answer (byte_of (step_of b e)) ≡ false → eqb (step_of b e).answer.code 0 ≡ true → A)
      → A
  by_answer x y =
      by_byte
      (λ n q. y (rw q (small_no_answer (step_of b e).refusal (few_refusals b e))) (eq-eqb (step_of b e).answer.code 0 (ap (λ (r : Stepped). r.answer.code) (refused_keeps b e n))))
      (λ q. none_or_answer b e
      (λ z. y (rw (q, z) refl) (eq-eqb (step_of b e).answer.code 0 z))
      (λ t. x (rw q t) (ne_eqb (step_of b e).answer.code 0 (λ z. omega (arith, answer_least (step_of b e).answer.code t))) q))

-- ---- the whole log

pub answers_in_order : AnswersInOrder
answers_in_order b [] = refl
answers_in_order b (e ∷ es) =
    by_answer b e
    (λ x y q. rw (x, y, q) (ap (λ (l : List ℕ). (step_of b e).answer.code ∷ l) (answers_in_order (step_of b e).next es)))
    (λ x y. rw (x, y) (answers_in_order (step_of b e).next es))

pub runs_lawful : RunsLawful
runs_lawful s budget buffer h =
    let es : List Event = (taking budget s 0).events in
    let given = ap answers_in (writes_taken fresh_phy s budget buffer phy.fresh_valid h) ∙ answers_in_order fresh_bay es in
    let state : (run_of fresh_phy s budget buffer).state ≡ after fresh_bay es = rw (phy.fresh_valid, le-leb budget (length buffer) h) refl in
    record {
      lawful = spelled_out_lem es;
      answers = given;
      balance = (spelled_out_lem es).balance ∙ ap₂ (λ (m n : ℕ). m + n) (sym (ap length given ∙ length-map (bay_answers (log fresh_bay es)) (λ a. a.code))) (ap (λ (b : Bay). one_if_waiting b.phy) (sym state));
    }

-- ---- neither 1 nor 2

not_one : (b : Bay) (e : Event) → valid_of b ≡ true → byte_of (step_of b e) ≡ bad_state → ⊥
not_one b e v z =
    by_byte b e
    (λ n q. false≢true (sym ((bad_state_exactly b e).0 (sym q ∙ z)) ∙ v))
    (λ q. none_or_answer b e (λ y. omega arith) (λ t. omega (arith, answer_least (step_of b e).answer.code t)))

not_two : (b : Bay) (e : Event) → known_in_trace e ≡ true → byte_of (step_of b e) ≡ bad_event → ⊥
not_two b e k z =
    by_byte b e
    (λ n q. false≢true (sym ((bad_event_exactly b e).0 (sym q ∙ z)).1 ∙ k))
    (λ q. none_or_answer b e (λ y. omega arith) (λ t. omega (arith, answer_least (step_of b e).answer.code t)))

passed : (s : List ℕ) (b : Bay) (place : ℕ) (es : List Event) (last : ℕ) → valid_of b ≡ true → Passes s place es last → NeitherOneNorTwo (bytes_of b es)
passed s b place es last v here = tt
passed s b place es last v (on {e = e} {next} {es = later} r t) =
    ((not_one b e v, not_two b e (read_known s place e next r)), passed s (step_of b e).next next later last (stays_valid b e v) t)

pub no_one_nor_two : NoOneNorTwo
no_one_nor_two p s budget v =
    let w = stops_well_always s budget in
    passed s (unstamped p) 0 (taking budget s 0).events w.last (as_valid p refl v) w.passes
