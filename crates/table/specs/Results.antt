-- What a contract allows: one result, and one state of what was lent.
use Rattle.std.specs.Prelude.{◌≡◌}

-- no two results say the same
abbrev pub TellsOnce : {R T : Type 0} → (R → T) → Type 0
TellsOnce {R} tells = (r q : R) → tells r ≡ tells q → r ≡ q

-- two results that a contract allows coincide
abbrev pub Determines : {R : Type 0} → (R → Type 0) → Type 0
Determines {R} Contract = (r q : R) → Contract r → Contract q → r ≡ q

-- and so do two states in which it may leave what was lent
abbrev pub DeterminesLent : {R B : Type 0} → (R → B → Type 0) → Type 0
DeterminesLent {R} {B} Contract =
    (r q : R) (after later : B) → Contract r after → Contract q later → (r ≡ q) × (after ≡ later)

-- a call says what is told, and leaves what was lent as `left`
pub record Leaves {T B : Type 0} (said told : T) (after left : B) : Type 0 where
  pub says : said ≡ told
  pub leaves : after ≡ left
