-- How a definition chooses: one of two by a test, or the row of a table by a number.
use Rattle.std.specs.Prelude.{ℕ, Bool, true, false, ◌&&◌, ◌||◌, not, List, [], ◌∷◌, ◌≡◌, eqb}

infixr 20 ◌⇒◌
-- the first where the test holds, else the second
abbrev pub pick {ℓ} : {A : Type ℓ} → Bool → A → A → A
pick true a b = a
pick false a b = b

-- one test where something holds, another where it does not; a formula, so that code can say it without a branch
abbrev pub split : (holds there elsewhere : Bool) → Bool
split holds there elsewhere = (holds && there) || (not holds && elsewhere)

-- a row: a number and what stands beside it
pub record Row {ℓ} (A : Type ℓ) : Type ℓ where
  pub key : ℕ
  pub entry : A

-- a row as it is written
abbrev pub ◌⇒◌ {ℓ} : {A : Type ℓ} → ℕ → A → Row A
k ⇒ a = record { key = k; entry = a }

-- the entry of the first row whose number is n, or `other` where no row has it
abbrev pub rows {ℓ} : {A : Type ℓ} → ℕ → List (Row A) → A → A
rows n [] other = other
rows n (r ∷ rs) other = pick (eqb n r.key) r.entry (rows n rs other)

-- n's first row has the entry a
pub data Listed {A : Type 0} (n : ℕ) (a : A) : List (Row A) → Type 0 where
  here : {rs : List (Row A)} → Listed n a ((n ⇒ a) ∷ rs)
  later : {r : Row A} {rs : List (Row A)} → (n ≡ r.key → ⊥) → Listed n a rs → Listed n a (r ∷ rs)

-- n is not among the table's numbers, as a `match` says it: one inequality a row, the last row's outermost
abbrev pub OthersFrom : {A : Type 0} → Type 0 → ℕ → List (Row A) → Type 0
OthersFrom known n [] = known
OthersFrom known n (r ∷ rs) = OthersFrom (known × (n ≡ r.key → ⊥)) n rs

-- no row has the number n
abbrev pub Unlisted : {A : Type 0} → ℕ → List (Row A) → Type 0
Unlisted n table = OthersFrom Unit n table
