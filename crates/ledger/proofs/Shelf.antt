-- What a shelf engineer would ask, from demand 3.
use mathlib.Core.Bool.{true, false, false≢true}
use mathlib.Core.List.{List, [], ◌∷◌, ◌++◌}
use mathlib.Core.Logic.{◌⊎◌, ⊎_elim}
use mathlib.Core.Path.{◌≡◌, refl, ap, ◌∙◌}
use native.Mathlib.Omega.{arith}
use borrow.Author.Tests.{ne_eqb}
use lib.Dec.{eqb}
use Rattle.table.proofs.Laws.{by_test, every}
use Rattle.event.specs.Names.{hard_reset, phy_disabled}
use Rattle.event.specs.declared.Event.{Event}
use Rattle.phy.specs.Shapes.{fresh_phy}
use Rattle.phy.specs.Moves.{reset_rows, on_reset}
use Rattle.phy.specs.Step.{move_of, step_of}
use Rattle.phy.specs.declared.Phy.{Phy}
use Rattle.phy_laws.specs.Waiting.{waits}
use Rattle.phy_laws.proofs.Steps.{fresh_valid}
use Rattle.phy_laws.proofs.Refusals.{step_is_move, refused_keeps}
use Rattle.ledger.specs.Log.{Entry, entry, accepted, answered, many}
use Rattle.ledger.specs.Ledger.{Ledger, free, waiting, broken, through, silent, answers, book, books}
use Rattle.ledger.specs.Demand.{phy_after, books_of}
use Rattle.ledger.specs.Shelf.{NoHang, AcceptedBetween, RefusedLeaves, ResetFrees}
use Rattle.ledger.proofs.OneEntry.{not_broken, agree, refused_book}
use Rattle.ledger.proofs.Demand.{follow, rests_by, demand3}
use Rattle.ledger.proofs.AnsweredBy.{answered_by}

pub no_hang : NoHang
no_hang es e fs t a d = answered_by es e fs t (omega arith)

-- ---- between two answers

-- broken books stay broken
stays_broken : (xs : List Entry) → books broken xs ≡ broken
unfolding book
stays_broken [] = refl
stays_broken (x ∷ xs) = stays_broken xs

-- the books after one list and then another
books_append : (l : Ledger) (xs ys : List Entry) → books l (xs ++ ys) ≡ books (books l xs) ys
books_append l [] ys = refl
books_append l (x ∷ xs) ys = books_append (book l x) xs ys

-- an entry that answers is not silent
loud : (x : Entry) → answered x ≡ true → silent x ≡ false
loud x a = by_test (eqb x.result.answer 0) (λ t. absurd (false≢true (rw t at a))) (λ f. rw f)

-- an answer that does not break the books leaves none waiting
answer_frees : (l : Ledger) (x : Entry) → answered x ≡ true → (book l x ≡ broken → ⊥) → book l x ≡ free
unfolding book
answer_frees free x a n = absurd (n (rw (loud x a)))
answer_frees (waiting w) x a n =
    by_test (accepted x)
    (λ t. absurd (n (rw t)))
    (λ f. by_test (answers (through w x) x) (λ t. rw (f, loud x a, t)) (λ g. absurd (n (rw (f, loud x a, g)))))
answer_frees broken x a n = absurd (n refl)

-- an entry that neither accepts nor breaks leaves free books free
passes_free : (y : Entry) → accepted y ≡ false → (book free y ≡ broken → ⊥) → book free y ≡ free
unfolding book
passes_free y f n = by_test (silent y) (λ s. rw (s, f)) (λ s. absurd (n (rw s)))

-- books that are not broken after a list were not broken on the way
on_the_way : (l : Ledger) (xs : List Entry) → (books l xs ≡ broken → ⊥) → l ≡ broken → ⊥
on_the_way l xs n b = n (ap (λ (m : Ledger). books m xs) b ∙ stays_broken xs)

none_first : (y : Entry) (ys : List Entry) → many accepted (y ∷ ys) ≡ 0 → (accepted y ≡ false) × (many accepted ys ≡ 0)
none_first y ys z = by_test (accepted y) (λ t. absurd (omega (arith, rw t at z))) (λ f. (f, omega (arith, rw f at z)))

-- with nothing accepted, free books stay free
stays_free : (ys : List Entry) → many accepted ys ≡ 0 → (books free ys ≡ broken → ⊥) → books free ys ≡ free
stays_free [] z n = refl
stays_free (y ∷ ys) z n =
    let f = none_first y ys z in
    let b = passes_free y f.0 (on_the_way (book free y) ys n) in
    ap (λ (l : Ledger). books l ys) b ∙ stays_free ys f.1 (λ q. n (ap (λ (l : Ledger). books l ys) b ∙ q))

-- an answer in free books breaks them
breaks_free : (y : Entry) → answered y ≡ true → book free y ≡ broken
unfolding book
breaks_free y a = rw (loud y a)

pub accepted_between : AcceptedBetween
accepted_between es xs x ys y zs e a b z =
    let n : books free (xs ++ (x ∷ (ys ++ (y ∷ zs)))) ≡ broken → ⊥ = λ q. (demand3 es).books_hold (ap (books free) e ∙ q) in
    let l = books free xs in
    let n₁ : books (book l x) (ys ++ (y ∷ zs)) ≡ broken → ⊥ = λ q. n (books_append free xs (x ∷ (ys ++ (y ∷ zs))) ∙ q) in
    let fx = answer_frees l x a (on_the_way (book l x) (ys ++ (y ∷ zs)) n₁) in
    let n₂ : books (books free ys) (y ∷ zs) ≡ broken → ⊥ = λ q. n₁ (ap (λ (m : Ledger). books m (ys ++ (y ∷ zs))) fx ∙ books_append free ys (y ∷ zs) ∙ q) in
    let fy = stays_free ys z (on_the_way (books free ys) (y ∷ zs) n₂) in
    n₂ (ap (λ (m : Ledger). books (book m y) zs) fy ∙ ap (λ (m : Ledger). books m zs) (breaks_free y b) ∙ stays_broken zs)

-- ---- refused events, and resets

pub refused_leaves : RefusedLeaves
refused_leaves es e n =
    let p = phy_after es in
    let f = follow fresh_phy free es fresh_valid refl in
    refused_book (books_of es) (entry step_of p e) (ne_eqb (step_of p e).refusal 0 n) (rw (refused_keeps p e n)) (not_broken p (books_of es) f.1)

-- a reset leaves no request
reset_rests : (p : Phy) → waits (on_reset p).next.port ≡ false
unfolding on_reset
reset_rests p = every (λ r. waits r.next.port ≡ false) p.port (reset_rows p) (refl, (refl, (refl, tt))) refl

reset_moves : (p : Phy) (e : Event) → (e.code ≡ hard_reset) ⊎ (e.code ≡ phy_disabled) → move_of p e ≡ on_reset p
unfolding move_of
reset_moves p e c = ⊎_elim (λ h. rw h) (λ h. rw h) c

pub reset_frees : ResetFrees
reset_frees es e k c =
    let p = phy_after es in
    let f = follow fresh_phy free es fresh_valid refl in
    let m : step_of p e ≡ on_reset p = step_is_move p e (record { valid = f.0; known = k }) ∙ reset_moves p e c in
    rests_by (step_of p e).next (book (books_of es) (entry step_of p e)) (agree p e (books_of es) f.0 f.1) (rw m (reset_rests p))
