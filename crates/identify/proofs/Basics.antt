-- Small facts on tests and equivalences that every law here goes by.
use mathlib.Core.Bool.{Bool, true, false, false≢true}
use mathlib.Core.Logic.{◌↔◌}
use mathlib.Core.Path.{◌≡◌, sym, ◌∙◌}

-- a test has one value
pub clash : {b : Bool} → b ≡ true → b ≡ false → ⊥
clash t f = false≢true (sym f ∙ t)

-- two things that both do not hold are equivalent
pub neither : {A B : Type 0} → (A → ⊥) → (B → ⊥) → A ↔ B
neither a b = (λ x. absurd (a x), λ y. absurd (b y))

-- two things that both hold are equivalent
pub together : {A B : Type 0} → A → B → A ↔ B
together a b = (λ x. b, λ y. a)
