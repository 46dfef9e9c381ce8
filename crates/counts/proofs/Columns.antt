-- The columns: which answer has which, found by a walk over the answers, and that every answer has one of its own.
use Prim.Native.Nat.{ℕ, suc, ◌+◌, ◌<◌}
use mathlib.Core.Bool.{Bool, true, false, cond, ◌||◌}
use mathlib.Core.List.{List, [], ◌∷◌}
use mathlib.Core.Path.{◌≡◌, refl, sym, ap, ◌∙◌, subst}
use native.Mathlib.Omega.{arith}
use borrow.Author.Rules.{rules}
use borrow.Author.Tests.{eqb-true, ltb-true, lt-ltb, le-ltb}
use lib.Dec.{eqb, ltb}
use lib.ListN.{length, get_or, drop}
use Rattle.std.specs.Prelude.{Some, None, position, ◌==◌}
use Rattle.std.specs.List.{position_or_len}
use Rattle.std.proofs.lemmas.List.Recursion.{is_position_or_len}
use Rattle.std.proofs.lemmas.List.Sums.{passes_at_first}
use Rattle.table.specs.Choice.{pick}
use Rattle.table.proofs.Laws.{by_test, by_order}
use Rattle.phy.specs.Names.{answer_opened}
use Rattle.phy_laws.specs.Waiting.{is_answer}
use Rattle.counts.specs.Names.{column_count, answers, place_in, column_of, answer_at}
use Rattle.counts.specs.Laws as laws

-- ---- the search of an answer

-- one more place, as the library counts it
one_on : (test : Bool) (n : ℕ) → pick test 0 (suc n) ≡ cond test 0 (1 + n)
one_on true n = refl
one_on false n = omega arith

-- the place of a number is the first that passes a test for it
first_place : (n : ℕ) (l : List ℕ) → place_in n l ≡ position_or_len (λ a. n == a) l
first_place n l = is_position_or_len (place_in n) (λ a. n == a) refl (λ a rest. one_on (eqb n a) (place_in n rest)) l

-- and where a search finds it
placed : (n : ℕ) (l : List ℕ) → cond (ltb (place_in n l) (length l)) (Some (place_in n l)) None ≡ position (λ a. n == a) l
placed n l = ap (λ (k : ℕ). cond (ltb k (length l)) (Some k) None) (first_place n l)

-- what is found is the column, and a column
pub column_found : (answer at : ℕ) → Some at ≡ position (λ a. answer == a) answers
    → (at ≡ column_of answer) × (ltb (column_of answer) column_count ≡ true)
unfolding column_of
column_found answer at e =
    by_test (ltb (place_in answer answers) column_count)
    (λ t. let f = rw t at (e ∙ sym (placed answer answers)) in (cc, t))
    (λ t. let f = rw t at (e ∙ sym (placed answer answers)) in absurd cc)

-- a code that is not found is no answer's
pub column_missing : (answer : ℕ) → None ≡ position (λ a. answer == a) answers → ltb (column_of answer) column_count ≡ false
unfolding column_of
column_missing answer e = by_test (ltb (place_in answer answers) column_count) (λ t. let f = rw t at (e ∙ sym (placed answer answers)) in absurd cc) (λ t. t)

-- ---- which codes are answers

-- a number is one of a list, beside what is known before
abbrev is_in : ℕ → List ℕ → Bool
is_in n [] = false
is_in n (a ∷ rest) = eqb n a || is_in n rest

abbrev among : ℕ → Bool → List ℕ → Bool
among n known [] = known
among n known (a ∷ rest) = among n (known || eqb n a) rest

among_is : (n : ℕ) (known : Bool) (l : List ℕ) → among n known l ≡ (known || is_in n l)
among_is n true [] = refl
among_is n false [] = refl
among_is n true (a ∷ rest) = among_is n true rest
among_is n false (a ∷ rest) = among_is n (eqb n a) rest

-- a number has a place within a list exactly where it is there
below_suc : (p m : ℕ) → ltb (suc p) (suc m) ≡ ltb p m
below_suc p m =
    by_order p m (λ h. lt-ltb (suc p) (suc m) (omega arith) ∙ sym (lt-ltb p m h)) (λ h. le-ltb (suc p) (suc m) (omega arith) ∙ sym (le-ltb p m h))

within : (n : ℕ) (l : List ℕ) → ltb (place_in n l) (length l) ≡ is_in n l
within n [] = refl
within n (a ∷ rest) =
    by_test (eqb n a) (λ t. rw t (lt-ltb 0 (suc (length rest)) (omega arith)))
    (λ t. rw t (below_suc (place_in n rest) (length rest) ∙ within n rest))

-- and there it stands
found : (n : ℕ) (l : List ℕ) → place_in n l < length l → get_or l (place_in n l) 0 ≡ n
found n l =
    subst (λ (k : ℕ). k < length l → get_or l k 0 ≡ n) (sym (first_place n l))
    (λ h. sym (eqb-true n _ (passes_at_first (λ a. n == a) l 0 h)))

-- the answers are those that a phy gives
pub is_answer_lem : (n : ℕ) → ltb (column_of n) column_count ≡ is_answer n
unfolding column_of
is_answer_lem n = within n answers ∙ sym (among_is n (eqb n answer_opened) (drop 1 answers))

pub columns : laws.Columns
unfolding column_of
columns =
    record {
      many = refl;
      ascending = search rules;
      exactly = λ n. (λ h. sym (is_answer_lem n) ∙ lt-ltb _ _ h, λ a. ltb-true _ _ (is_answer_lem n ∙ a));
      back = λ n a. found n answers (ltb-true _ _ (is_answer_lem n ∙ a));
    }

-- two codes in one column are one answer
pub column_once : (n m : ℕ) → column_of n < column_count → column_of m ≡ column_of n → m ≡ n
unfolding column_of
column_once n m h e = sym (found m answers (omega (arith, h, e))) ∙ ap answer_at e ∙ found n answers h
