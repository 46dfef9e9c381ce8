-- A contract that gives what a result says gives the result, where no two results say the same: both are equal to what is told.
use Prim.Native.Nat.{ℕ}
use mathlib.Core.List.{[], ◌∷◌}
use mathlib.Core.Path.{◌≡◌, refl, sym, ap, ◌∙◌}
use Rattle.table.specs.Choice.{◌⇒◌, rows}
use Rattle.table.specs.Refusals.{number_of}
use Rattle.table.specs.Results.{TellsOnce, Determines, DeterminesLent, Leaves}
use Rattle.table.specs.declared.Refusal.{Refusal}
use Rattle.table.specs.declared.Refusal.TheVariants.{BadState, BadEvent, Busy, NothingPending, NotConnected, WrongProtocol}
use Rattle.table.specs.declared.Refusal.TheVariants.{Cut, Overlong, TooLarge, NoRoom, QueueFull, NoSuchPhy}

-- no two results say the same where what is said leads back to the result
pub leads_back : {R T : Type 0} {tells : R → T} (back : T → R) → ((r : R) → back (tells r) ≡ r) → TellsOnce tells
leads_back back same r q e = sym (same r) ∙ ap back e ∙ same q

pub by_telling : {R T : Type 0} {tells : R → T} → TellsOnce tells → (told : T) → Determines (λ (r : R). tells r ≡ told)
by_telling once told r q a b = once r q (a ∙ sym b)

pub by_equation : {R : Type 0} (told : R) → Determines (λ (r : R). r ≡ told)
by_equation told = by_telling (λ r q e. e) told

pub with_lent : {R T B : Type 0} {tells : R → T} → TellsOnce tells → (told : T) (left : B)
    → DeterminesLent (λ (r : R) (after : B). Leaves (tells r) told after left)
with_lent once told left r q after later a b =
    (by_telling once told r q a.says b.says, by_equation left after later a.leaves b.leaves)

pub by_equation_lent : {R B : Type 0} (told : R) (left : B) → DeterminesLent (λ (r : R) (after : B). Leaves r told after left)
by_equation_lent = with_lent (λ r q e. e)

-- the same of a contract from which it follows what is told
pub by_result : {R : Type 0} {Contract : R → Type 0} {told : R} → ((r : R) → Contract r → r ≡ told) → Determines Contract
by_result f r q a b = by_equation _ r q (f r a) (f q b)

pub by_result_lent : {R T B : Type 0} {Contract : R → B → Type 0} {tells : R → T} {told : T} {left : B}
    → TellsOnce tells → ((r : R) (after : B) → Contract r after → Leaves (tells r) told after left) → DeterminesLent Contract
by_result_lent once f r q after later a b = with_lent once _ _ r q after later (f r after a) (f q later b)

-- the refusal of a number
pub refusal_of : ℕ → Refusal
refusal_of n =
    rows n
    (
    (1 ⇒ BadState) ∷ (2 ⇒ BadEvent) ∷ (3 ⇒ Busy) ∷ (4 ⇒ NothingPending) ∷ (5 ⇒ NotConnected) ∷ (6 ⇒ WrongProtocol)
    ∷ (7 ⇒ Cut) ∷ (8 ⇒ Overlong) ∷ (9 ⇒ TooLarge) ∷ (10 ⇒ NoRoom) ∷ (11 ⇒ QueueFull) ∷ []
    )
    NoSuchPhy

-- a refusal's number leads back to it
pub refusal_back : (refusal : Refusal) → refusal_of (number_of refusal) ≡ refusal
unfolding refusal_of
refusal_back BadState = refl
refusal_back BadEvent = refl
refusal_back Busy = refl
refusal_back NothingPending = refl
refusal_back NotConnected = refl
refusal_back WrongProtocol = refl
refusal_back Cut = refl
refusal_back Overlong = refl
refusal_back TooLarge = refl
refusal_back NoRoom = refl
refusal_back QueueFull = refl
refusal_back NoSuchPhy = refl
