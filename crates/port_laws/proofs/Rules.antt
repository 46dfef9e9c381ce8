-- A port is valid exactly by the paper's rules: the tests of the definition, one by one, in other words.
use Prim.Native.Nat.{ℕ, zero, suc, ◌<◌}
use mathlib.Core.Bool.{true, false, or-true, false≢true}
use mathlib.Core.List.{List, [], ◌∷◌}
use mathlib.Core.Logic.{◌⊎◌, inl, inr, ⊎_elim}
use mathlib.Core.Path.{◌≡◌, refl, sym, ◌∙◌}
use native.Mathlib.Omega.{arith}
use borrow.Author.Tests.{eq-eqb, eqb-true}
use lib.Dec.{eqb}
use lib.ListN.{length, length-replicate}
use Rattle.table.proofs.Laws.{by_test, parts}
use Rattle.std.proofs.lemmas.List.{get_or-map}
use Rattle.event.specs.Table.{open_known}
use Rattle.event.specs.declared.Open.{Open}
use Rattle.phy.specs.Names.{L0, P1}
use Rattle.bay.specs.State as bayState
use Rattle.bay.specs.State.{fresh_bay}
use Rattle.bay.specs.declared.Bay.{Bay}
use Rattle.queue.specs.Laws.{AllKnown}
use Rattle.port.proofs.Surveyed.{opens_pass}
use Rattle.port.specs.State.{Port, is_free, free_of, free_phys, all_pass, none_beside, fresh_port}
use Rattle.port.specs.Step.{bay_at}
use Rattle.port.specs.Log.{after}
use Rattle.port.proofs.Flags.{none_set}
use Rattle.port.proofs.Valid.{known_all, sound, sound_valid, bay_valid, lowest_free_lem}
use Rattle.port_laws.specs.Laws.{Idle, ValidExactly, IdleNoneWaits}
use Rattle.port_laws.proofs.EachPhy.{after_count}
use Rattle.port_laws.proofs.NoneBeside.{none_beside_lem}

-- ---- free and idle

pub is_idle : (b : Bay) → is_free b ≡ true → Idle b.phy
unfolding is_free
is_idle b f = let q = parts (eqb b.phy.link L0) (eqb b.phy.port P1) f in (eqb-true b.phy.link L0 q.0, eqb-true b.phy.port P1 q.1)

pub is_free_lem : (b : Bay) → Idle b.phy → is_free b ≡ true
unfolding is_free
is_free_lem b i = rw (eq-eqb b.phy.link L0 i.0, eq-eqb b.phy.port P1 i.1)

-- where none is free, none is idle
pub none_idle : (bays : List Bay) → free_phys bays ≡ 0 → (i : ℕ) → i < length bays → Idle (bay_at bays i).phy → ⊥
none_idle bays n i l d = false≢true (sym (none_set (free_of bays) i n) ∙ get_or-map is_free bays i fresh_bay false l ∙ is_free_lem (bay_at bays i) d)

-- ---- the rules

all_valid : (bays : List Bay) → ((i : ℕ) → i < length bays → bayState.valid_of (bay_at bays i) ≡ true) → all_pass bayState.valid_of bays ≡ true
all_valid [] h = refl
all_valid (b ∷ bays) h = rw (h 0 (omega arith), all_valid bays (λ i l. h (suc i) (omega arith)))

alone : (p : Port) → none_beside p ≡ true → (p.queue ≡ []) ⊎ ((i : ℕ) → i < length p.bays → Idle (bay_at p.bays i).phy → ⊥)
alone p h =
    by_test (eqb (length p.queue) 0)
    (λ t. inl (empty p.queue (eqb-true (length p.queue) 0 t)))
    (λ f. inr (none_idle p.bays (eqb-true (free_phys p.bays) 0 (rw f at h))))
  where
    empty : (os : List Open) → length os ≡ 0 → os ≡ []
    empty [] z = refl
    empty (o ∷ os) z = absurd (omega arith)

not_beside : (p : Port) → (p.queue ≡ []) ⊎ ((i : ℕ) → i < length p.bays → Idle (bay_at p.bays i).phy → ⊥) → none_beside p ≡ true
not_beside p (inl q) = rw q
not_beside p (inr n) = rw (eq-eqb (free_phys p.bays) 0 (none (free_phys p.bays) refl)) (or-true (eqb (length p.queue) 0))
  where
    none : (k : ℕ) → free_phys p.bays ≡ k → k ≡ 0
    none zero e = refl
    none (suc k) e = let q = lowest_free_lem p.bays (omega (arith, e)) in absurd (n _ q.0 (is_idle (bay_at p.bays _) q.1))

pub valid_exactly : ValidExactly
valid_exactly limit p = (
  (λ v. let s = sound limit p v in record { some = s.some; few = s.few; bays = bay_valid limit p v; short = s.short; known = known_all p.queue s.known; alone = alone p s.beside }),
  (λ r. sound_valid limit p (record { some = r.some; few = r.few; bays = all_valid p.bays r.bays; short = r.short; known = opens_pass p.queue r.known; beside = not_beside p r.alone })),
)

-- ---- after every list of shelf events

pub idle_none_waits : IdleNoneWaits
idle_none_waits limit n es j l i =
    let p = after limit (fresh_port n) es in
    let there : j < length p.bays = rw (after_count limit es (fresh_port n), length-replicate) l in
    ⊎_elim (λ q. q) (λ z. absurd (none_idle p.bays z j there i)) (none_beside_lem limit n es)
