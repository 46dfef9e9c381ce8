-- Each refusal exactly when: the definition's tests one after the other, each with a number of its own.
use Prim.Native.Nat.{ℕ, ◌≤◌, ◌<◌}
use mathlib.Core.Bool.{true, false, false≢true}
use mathlib.Core.List.{List}
use mathlib.Core.Path.{◌≡◌, refl, sym, ◌∙◌}
use native.Mathlib.Omega.{arith}
use borrow.Author.Tests.{lt-ltb, le-ltb, eq-eqb, ne_eqb}
use lib.Dec.{ltb}
use lib.ListN.{length}
use Rattle.table.specs.Refusals.{bad_state}
use Rattle.table.proofs.Laws.{by_test, by_order}
use Rattle.counts.specs.Names.{row_count, column_count, column_of}
use Rattle.counts.specs.Counters.{is_counter, refusal_at, raised_of, asked_of}
use Rattle.counts.specs.Lent.{lent_length, good_length, is_lent, lent_refusal, lent_raised, lent_asked}
use Rattle.counts.specs.Laws.{NoSuchBayExactly, BadAnswerExactly, NotRefusedExactly, RefusedKeeps, LentRefusesAll}
use Rattle.counts.proofs.Columns.{is_answer_lem}
use Rattle.counts.proofs.Places.{not_refused}

-- the three ways
by_refusal : {A : Type 0} (bay column : ℕ) → (bay < row_count → ltb column column_count ≡ true → refusal_at bay column ≡ 0 → A)
    → (bay < row_count → ltb column column_count ≡ false → refusal_at bay column ≡ 2 → A) → (row_count ≤ bay → refusal_at bay column ≡ 12 → A) → A
by_refusal bay column good bad none =
    by_order bay row_count
    (λ h. by_test (ltb column column_count) (λ t. good h t (rw (lt-ltb bay row_count h, t) refl)) (λ t. bad h t (rw (lt-ltb bay row_count h, t) refl)))
    (λ h. none h (rw (le-ltb bay row_count h) refl))

pub no_such_bay_exactly : NoSuchBayExactly
no_such_bay_exactly bay answer =
    by_refusal bay (column_of answer) (λ h t r. (λ e. absurd (omega (arith, e, r)), λ le. absurd (omega (arith, h, le))))
    (λ h t r. (λ e. absurd (omega (arith, e, r)), λ le. absurd (omega (arith, h, le)))) (λ h r. (λ _. h, λ _. r))

pub bad_answer_exactly : BadAnswerExactly
bad_answer_exactly bay answer =
    by_refusal bay (column_of answer)
    (λ h t r. (λ e. absurd (omega (arith, e, r)), λ p. absurd (false≢true (sym p.1 ∙ sym (is_answer_lem answer) ∙ t))))
    (λ h t r. (λ _. (h, sym (is_answer_lem answer) ∙ t), λ _. r))
    (λ h r. (λ e. absurd (omega (arith, e, r)), λ p. absurd (omega (arith, h, p.0))))

pub not_refused_exactly : NotRefusedExactly
not_refused_exactly bay answer =
    by_refusal bay (column_of answer) (λ h t r. (λ _. (h, sym (is_answer_lem answer) ∙ t), λ _. r))
    (λ h t r. (λ e. absurd (omega (arith, e, r)), λ p. absurd (false≢true (sym t ∙ is_answer_lem answer ∙ p.1))))
    (λ h r. (λ e. absurd (omega (arith, e, r)), λ p. absurd (omega (arith, h, p.0))))

-- what is refused is not there
not_there : (bay column : ℕ) → (refusal_at bay column ≡ 0 → ⊥) → is_counter bay column ≡ false
not_there bay column r = by_test (is_counter bay column) (λ t. absurd (r (not_refused bay column t))) (λ t. t)

pub refused_keeps : RefusedKeeps
unfolding raised_of asked_of
refused_keeps t bay answer r =
    record { raising = rw (not_there bay (column_of answer) r) refl; asking = rw (not_there bay (column_of answer) r) refl }

not_lent : (ns : List ℕ) (bay answer : ℕ) → (lent_refusal ns bay answer ≡ 0 → ⊥) → is_lent ns bay (column_of answer) ≡ false
not_lent ns bay answer r =
    by_test (good_length ns) (λ t. rw t (not_there bay (column_of answer) (λ e. r (rw t e)))) (λ t. rw t refl)

-- none of the others is 1
other_numbers : (bay column : ℕ) → refusal_at bay column ≡ bad_state → ⊥
other_numbers bay column e = by_refusal bay column (λ h t r. omega (arith, e, r)) (λ h t r. omega (arith, e, r)) (λ h r. omega (arith, e, r))

pub lent_refuses_all : LentRefusesAll
unfolding lent_raised lent_asked
lent_refuses_all ns bay answer =
    record {
      another_length =
          (λ e n. other_numbers bay (column_of answer) (rw (eq-eqb (length ns) lent_length n) at e), λ n. rw (ne_eqb (length ns) lent_length n) refl);
      others = λ e. rw (eq-eqb (length ns) lent_length e) refl;
      keeps = λ r. rw (not_lent ns bay answer r) refl;
      tells = λ r. rw (not_lent ns bay answer r) refl;
      clear = λ r. by_test (good_length ns) (λ t. absurd (r (rw t refl))) (λ t. rw t (refl, refl));
    }
