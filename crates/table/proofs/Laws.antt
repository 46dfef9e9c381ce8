-- Laws of a choice by a number, the row at a listed number and the default at any other; and of flags.
use Prim.Native.Nat.{ℕ, zero, suc, ◌<◌, ◌≤◌}
use mathlib.Core.Bool.{Bool, true, false, ◌&&◌, false≢true}
use mathlib.Core.List.{List, [], ◌∷◌}
use mathlib.Core.Path.{◌≡◌, refl, subst}
use native.Mathlib.Nat.{le_antisymm, le_of_suc-le-suc}
use native.Mathlib.Omega.{arith}
use borrow.Author.Tests.{eq-eqb, ne_eqb, ltb-true, ltb-false, leb-true}
use lib.Dec.{eqb, ltb}
use Rattle.table.specs.Choice.{pick, Row, rows, Listed, OthersFrom, Unlisted}
use Rattle.table.specs.Flags.{on, is_flag, is_on, flag_of}

-- the first row of a number is what the table says there: each row before it has another number
pub listed : {A : Type 0} {n : ℕ} {a : A} {table : List (Row A)} (other : A) → Listed n a table → rows n table other ≡ a
listed {n = n} other Listed.here = rw (eq-eqb n n refl)
listed {n = n} other (Listed.later {r = r} ne l) = rw (ne_eqb n r.key ne) (listed other l)

-- what was known before a table's rows were passed is known after them
known_of : {A : Type 0} {known : Type 0} (n : ℕ) (table : List (Row A)) → OthersFrom known n table → known
known_of n [] o = o
known_of n (r ∷ rs) o = (known_of n rs o).0

-- the same, where more is known before the table's rows
pub others_from : {A : Type 0} (known : Type 0) (n : ℕ) (table : List (Row A)) (other : A) → OthersFrom known n table → rows n table other ≡ other
others_from known n [] other o = refl
others_from known n (r ∷ rs) other o =
    rw (ne_eqb n r.key (known_of n rs o).1) (others_from (known × (n ≡ r.key → ⊥)) n rs other o)

-- at a number that no row has the table says its default: every row is passed over
pub unlisted : {A : Type 0} (n : ℕ) (table : List (Row A)) (other : A) → Unlisted n table → rows n table other ≡ other
unlisted n table other o = others_from Unit n table other o

-- what is done with a choice is done with the chosen one
pub along : {A B : Type 0} (f : A → B) (test : Bool) (a b : A) → f (pick test a b) ≡ pick test (f a) (f b)
along f true a b = refl
along f false a b = refl

-- by the value of a test, with the equation at hand
pub by_test : {A : Type 0} (test : Bool) → (test ≡ true → A) → (test ≡ false → A) → A
by_test true a b = a refl
by_test false a b = b refl

-- numbers that would tell two equal things apart: `cc` finds them where constructors differ
pub apart : {A : Type 0} → ◌≡◌ {A = ℕ} 0 1 → A
apart e = absurd (omega arith)

-- both parts of a test that holds
pub parts : (a b : Bool) → a && b ≡ true → (a ≡ true) × (b ≡ true)
parts true b e = (refl, e)
parts false b e = absurd (false≢true e)

-- tests joined one behind the other, as a definition joins them
abbrev pub joined : Bool → List Bool → Bool
joined first [] = first
joined first (test ∷ tests) = joined (first && test) tests

-- one of a list of tests, counted from 0
abbrev pub one : List Bool → ℕ → Bool
one [] i = true
one (test ∷ tests) zero = test
one (test ∷ tests) (suc i) = one tests i

-- where tests hold together each of them does
pub all_hold : (first : Bool) (tests : List Bool) → joined first tests ≡ true → (i : ℕ) → one (first ∷ tests) i ≡ true
all_hold first [] e zero = e
all_hold first [] e (suc i) = refl
all_hold first (test ∷ tests) e zero = (parts first test (all_hold (first && test) tests e 0)).0
all_hold first (test ∷ tests) e (suc zero) = (parts first test (all_hold (first && test) tests e 0)).1
all_hold first (test ∷ tests) e (suc (suc i)) = all_hold (first && test) tests e (suc i)

-- by the order of two numbers
pub by_order : {A : Type 0} (m n : ℕ) → (m < n → A) → (n ≤ m → A) → A
by_order m n a b = by_test (ltb m n) (λ t. a (ltb-true m n t)) (λ t. b (ltb-false m n t))

-- a statement at each number below a bound, one by one
abbrev pub Each : (ℕ → Type 0) → ℕ → Type 0
Each P zero = Unit
Each P (suc n) = Each P n × P n

pub each : (P : ℕ → Type 0) (n : ℕ) → Each P n → (k : ℕ) → k < n → P k
each P zero e k h = absurd (omega arith)
each P (suc n) e k h = by_order k n (λ l. each P n e.0 k l) (λ g. subst P (le_antisymm g (le_of_suc-le-suc h)) e.1)

-- what holds of both choices, each where its test says so, holds of the choice
pub by_pick : {A : Type 0} (P : A → Type 0) (test : Bool) {a b : A} → (test ≡ true → P a) → (test ≡ false → P b) → P (pick test a b)
by_pick P true f g = f refl
by_pick P false f g = g refl

-- each entry of a table has a property
abbrev pub EachRow : {A : Type 0} → (A → Type 0) → List (Row A) → Type 0
EachRow P [] = Unit
EachRow P (r ∷ rs) = P r.entry × EachRow P rs

-- what holds of each row and of the default holds of the table at any number
pub every : {A : Type 0} (P : A → Type 0) (n : ℕ) (table : List (Row A)) {other : A} → EachRow P table → P other → P (rows n table other)
every P n [] h o = o
every P n (r ∷ rs) h o = by_pick P (eqb n r.key) (λ _. h.0) (λ _. every P n rs h.1 o)

-- the flag of a test is a flag
pub is_flag_lem : (test : Bool) → is_flag (flag_of test) ≡ true
is_flag_lem true = refl
is_flag_lem false = refl

-- a flag is that of its own test
pub flag_says : (n : ℕ) → is_flag n ≡ true → flag_of (is_on n) ≡ n
flag_says zero e = refl
flag_says (suc zero) e = refl
flag_says (suc (suc n)) e = absurd (omega (arith, leb-true (suc (suc n)) on e))
