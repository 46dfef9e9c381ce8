-- A gap in two legs: behind the second no tick is left, or the link rests and the others do nothing.
use Rattle.std.proofs.Common.{◌≡◌, ℕ, ◌+◌, ◌-◌, ◌≤◌, true, eqb, List, [], ◌++◌, get_or, sym, refl, ap, ◌∙◌, ap₂, ⊎_elim, append-nil, arith, eqb-true}
use Rattle.table.specs.Choice.{pick}
use Rattle.table.specs.Flags.{on}
use Rattle.table.proofs.Laws.{by_test}
use Rattle.event.specs.Names.{tick, most_counter}
use Rattle.event.specs.declared.Open.{Open}
use Rattle.phy.specs.Shapes.{no_open, quiet}
use Rattle.phy.specs.State.{valid_of}
use Rattle.phy.specs.Step.{step_of}
use Rattle.phy.specs.declared.Phy.{Phy}
use Rattle.phy.specs.declared.Stepped.{Stepped}
use Rattle.phy_laws.proofs.Ticking.{moves_left, few_moves}
use Rattle.ledger.specs.Log.{log, after}
use Rattle.ledger.specs.Demand.{plain}
use Rattle.bay.specs.Gap.{ticks, in_order, code_at, answer_at, notice_at, sent_at, open_at, gap_of}
use Rattle.bay.specs.Step.{no_report, passed}
use Rattle.bay.specs.Legs.{Ready, leg_of, first_of, second_of, both_legs}
use Rattle.bay.specs.declared.Leg.{Leg}
use Rattle.bay.specs.declared.Report.{Report}
use Rattle.bay.proofs.Calm.{ticking, still_leads, still_silent}
use Rattle.bay.proofs.Legs.{after_ticks, order_ticks, Passes, passes, reports}

-- ---- a link that ticks no longer move

pub rest_still : (q : Phy) → valid_of q ≡ true → moves_left q ≡ 0 → step_of q (plain tick) ≡ quiet q
rest_still q v m = (ticking q v).rests m

pub rest_leads : (q : Phy) → valid_of q ≡ true → moves_left q ≡ 0 → (n : ℕ) → after step_of q (ticks n) ≡ q
rest_leads q v m n = still_leads (λ _. q) n (λ _ _. rest_still q v m)

module _ (p : Phy) (n : ℕ) (v : valid_of p ≡ true) where
  abbrev first : Leg
  first = leg_of p n

  abbrev between : Phy
  between = first.stepped.next

  abbrev second : Leg
  second = leg_of between (n - first.ticks)

  abbrev last : Phy
  last = second.stepped.next

  abbrev rest : ℕ
  rest = n - first.ticks - second.ticks

  pub one : Passes p n first
  one = passes p n v

  pub two : Passes between (n - first.ticks) second
  two = passes between (n - first.ticks) one.valid

  all : first.ticks + (second.ticks + rest) ≡ n
  all = omega (arith, one.few, two.few)

  over : {B : Type 0} → (rest ≡ 0 → B) → (moves_left last ≡ 0 → B) → B
  over a b =
      ⊎_elim (λ e. a (omega arith))
      (λ m. ⊎_elim (λ e. a (omega (arith, one.few))) (λ k. b (omega (arith, few_moves p))) two.nearer)
      one.nearer

  -- what is left does nothing
  leads_nowhere : after step_of last (ticks rest) ≡ last
  leads_nowhere = over (λ e. ap (λ (k : ℕ). after step_of last (ticks k)) e) (λ m. rest_leads last two.valid m rest)

  pub passed_leads : after step_of p (ticks n) ≡ last
  passed_leads =
      ap (λ (k : ℕ). after step_of p (ticks k)) (sym all)
      ∙ after_ticks p first.ticks (second.ticks + rest)
      ∙ ap (λ (q : Phy). after step_of q (ticks (second.ticks + rest))) one.leads
      ∙ after_ticks between second.ticks rest
      ∙ ap (λ (q : Phy). after step_of q (ticks rest)) two.leads
      ∙ leads_nowhere

  module _ {A : Type 0} (reported : ℕ → Stepped → List A) (silent : (at : ℕ) (q : Phy) → reported at (quiet q) ≡ []) where
    says_nothing : (at : ℕ) → in_order reported at (log step_of last (ticks rest)) ≡ []
    says_nothing at =
        over (λ e. ap (λ (k : ℕ). in_order reported at (log step_of last (ticks k))) e)
        (λ m. still_silent reported silent (λ _. last) rest at (λ _ _. rest_still last two.valid m))

    pub passed_reports : in_order reported 1 (log step_of p (ticks n)) ≡ reported first.ticks first.stepped ++ reported (first.ticks + second.ticks) second.stepped
    passed_reports =
        let k = first.ticks in
        let m = second.ticks in
        ap (λ (j : ℕ). in_order reported 1 (log step_of p (ticks j))) (sym all)
        ∙ order_ticks reported p 1 k (m + rest)
        ∙ ap₂ ◌++◌
        (reports p n v reported silent 0 ∙ ap (λ (j : ℕ). reported j first.stepped) (omega arith))
        (ap (λ (q : Phy). in_order reported (1 + k) (log step_of q (ticks (m + rest)))) one.leads
        ∙ order_ticks reported between (1 + k) m rest
        ∙ ap₂ ◌++◌
        (ap (λ (j : ℕ). in_order reported j (log step_of between (ticks m))) (omega arith) ∙ reports between (n - k) one.valid reported silent k)
        (ap (λ (q : Phy). in_order reported (1 + k + m) (log step_of q (ticks rest))) two.leads ∙ says_nothing (1 + k + m))
        ∙ append-nil (reported (k + m) second.stepped))

  -- ---- what is reported, of the two legs

  -- the first of two reports, and the second
  first_of_lem : (c a d b : ℕ) → first_of c a d b ≡ get_or (code_at c a ++ code_at d b) 0 no_report
  first_of_lem c a d b =
      by_test (eqb c 0) (λ t. rw t (by_test (eqb d 0) (λ u. rw u refl) (λ u. rw u refl))) (λ f. rw f refl)

  second_of_lem : (c a d b : ℕ) → second_of c d b ≡ get_or (code_at c a ++ code_at d b) 1 no_report
  second_of_lem c a d b =
      by_test (eqb c 0)
      (λ t. rw t (by_test (eqb d 0) (λ u. rw u refl) (λ u. rw u refl)))
      (λ f. rw f (by_test (eqb d 0) (λ u. rw u refl) (λ u. rw u refl)))

  -- and the Open of the first answer
  open_of : pick (eqb first.stepped.answer 0) second.stepped.answered first.stepped.answered
      ≡ get_or (open_at first.ticks first.stepped ++ open_at (first.ticks + second.ticks) second.stepped) 0 no_open
  open_of =
      by_test (eqb first.stepped.answer 0)
      (λ t. rw t (by_test (eqb second.stepped.answer 0) (λ u. rw u (two.none (eqb-true second.stepped.answer 0 u))) (λ u. rw u refl)))
      (λ f. rw f refl)

  pub both : (counter : ℕ) → both_legs first second counter ≡ passed (gap_of p n) counter
  unfolding gap_of
  both counter =
      let a = first.stepped in
      let b = second.stepped in
      let k = first.ticks in
      let m = first.ticks + second.ticks in
      let reported : (i : ℕ) (l : List Report) (r : Report) → r ≡ get_or l i no_report → (all : List Report) → all ≡ l → r ≡ get_or all i no_report =
      λ i l r e all q. e ∙ ap (λ (x : List Report). get_or x i no_report) (sym q) in
      λ i. record {
        next = record { phy = sym passed_leads i; base = counter; baseSet = on };
        answered = (open_of ∙ ap (λ (x : List Open). get_or x 0 no_open) (sym (passed_reports open_at (λ _ _. refl)))) i;
        answer = reported 0 _ _ (first_of_lem a.answer k b.answer m) _ (passed_reports answer_at (λ _ _. refl)) i;
        notice = reported 0 _ _ (first_of_lem a.notice k b.notice m) _ (passed_reports notice_at (λ _ _. refl)) i;
        secondNotice = reported 1 _ _ (second_of_lem a.notice k b.notice m) _ (passed_reports notice_at (λ _ _. refl)) i;
        sent = reported 0 _ _ (first_of_lem a.sent k b.sent m) _ (passed_reports sent_at (λ _ _. refl)) i;
        refusal = 0;
      }

  -- ---- the code's legs, each equal to the definition's

  module _ {l : Leg} (e : l ≡ first) where
    pub first_few : l.ticks ≤ n
    first_few = rw e one.few

    module _ (few : n ≤ most_counter) where
      pub then_ready : Ready l.stepped.next (n - l.ticks)
      then_ready = record { valid = rw e one.valid; few = omega arith }

      module _ {m : Leg} (g : m ≡ leg_of l.stepped.next (n - l.ticks)) where
        pub all_few : l.ticks + m.ticks ≤ most_counter
        all_few = rw (g, e) (omega (arith, one.few, two.few))

        pub is_gap : (counter : ℕ) → both_legs l m counter ≡ passed (gap_of p n) counter
        is_gap counter = rw (g, e) (both counter)
