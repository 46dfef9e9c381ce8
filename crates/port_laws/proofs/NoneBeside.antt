-- No Open waits beside a free phy: a valid port is one where none does, and one that is not valid stays as it is.
use Prim.Native.Nat.{ℕ, ◌<◌}
use mathlib.Core.Bool.{true, false, ◌||◌}
use mathlib.Core.List.{List, [], ◌∷◌}
use mathlib.Core.Logic.{◌⊎◌, inl, inr, ⊎_elim}
use mathlib.Core.Path.{◌≡◌, refl, sym, ap, subst, ◌∙◌}
use native.Mathlib.Omega.{arith}
use borrow.Author.Tests.{eqb-true}
use lib.Dec.{eqb, eqb-suc-zero}
use lib.ListN.{length, length-replicate}
use Rattle.table.proofs.Laws.{by_test}
use Rattle.event.specs.declared.Open.{Open}
use Rattle.event.specs.declared.ShelfEvent.{ShelfEvent}
use Rattle.bay.specs.State.{fresh_bay}
use Rattle.port.specs.State.{Port, free_phys, none_beside, valid_of, fresh_port}
use Rattle.port.specs.Step.{PortStepped}
use Rattle.port.specs.Log.{step_on, after}
use Rattle.port.proofs.Valid.{sound}
use Rattle.port_laws.specs.Laws.{NoneBeside, NoPort}
use Rattle.port_laws.proofs.Steps.{stays_valid}
use Rattle.port_laws.proofs.Refusals.{bad_state_first}

-- a port that is not valid stays as it is
pub still : (limit : ℕ) (p : Port) (e : ShelfEvent) → valid_of limit p ≡ false → (step_on limit p e).next ≡ p
still limit p e f = ap (λ (r : PortStepped). r.next) (bad_state_first limit p e.number e.event f)

stays_beside : (limit : ℕ) (es : List ShelfEvent) (p : Port) → none_beside p ≡ true → none_beside (after limit p es) ≡ true
stays_beside limit [] p h = h
stays_beside limit (e ∷ es) p h =
    stays_beside limit es (step_on limit p e).next
    (by_test (valid_of limit p)
    (λ v. (sound limit (step_on limit p e).next (stays_valid limit p e.number e.event v)).beside)
    (λ f. subst (λ (q : Port). none_beside q ≡ true) (sym (still limit p e f)) h))

empty_or : (queue : List Open) (n : ℕ) → eqb (length queue) 0 || eqb n 0 ≡ true → (queue ≡ []) ⊎ (n ≡ 0)
empty_or [] n h = inl refl
empty_or (o ∷ os) n h = inr (eqb-true n 0 (rw (eqb-suc-zero (length os)) at h))

pub none_beside_lem : NoneBeside
none_beside_lem limit n es = let p = after limit (fresh_port n) es in empty_or p.queue (free_phys p.bays) (stays_beside limit es (fresh_port n) refl)

-- ---- no port

no_phys : (limit n : ℕ) → (n ≡ 0) ⊎ (limit < n) → valid_of limit (fresh_port n) ≡ false
no_phys limit n h =
    by_test (valid_of limit (fresh_port n))
    (λ v. let s = sound limit (fresh_port n) v in absurd (⊎_elim {0, 0, 0} (λ z. omega (arith, s.some, length-replicate n fresh_bay)) (λ l. omega (arith, s.few, length-replicate n fresh_bay)) h))
    (λ f. f)

stays : (limit : ℕ) (es : List ShelfEvent) (p : Port) → valid_of limit p ≡ false → after limit p es ≡ p
stays limit [] p f = refl
stays limit (e ∷ es) p f = ap (λ (q : Port). after limit q es) (still limit p e f) ∙ stays limit es p f

pub no_port : NoPort
no_port limit n h =
    let f = no_phys limit n h in
    record { each = λ number e. bad_state_first limit (fresh_port n) number e f; stays = λ es. stays limit es (fresh_port n) f }
