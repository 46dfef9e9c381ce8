-- Synchronization is acquired by the third primitive, and not again without a loss or a restart.
use Prim.Native.Nat.{ℕ, ◌+◌, ◌-◌, ◌≤◌, min}
use mathlib.Core.Bool.{false, ◌&&◌, ◌||◌}
use mathlib.Core.List.{List, [], ◌∷◌}
use mathlib.Core.Logic.{⊎_elim}
use mathlib.Core.Path.{◌≡◌, refl, sym, subst}
use native.Mathlib.Nat.{zero-add}
use native.Mathlib.Omega.{arith}
use borrow.Author.Tests.{ne_eqb, eqb-true, eqb-false}
use lib.Dec.{eqb, leb, ltb}
use Rattle.std.proofs.lemmas.Bool.{or_parts}
use Rattle.table.specs.Choice.{pick}
use Rattle.table.proofs.Laws.{by_test, by_order, parts, Each, each}
use Rattle.dws.specs.Names.{acquire_sync, valid2, sync_acquired, lost3, invalid_dword, restart, data_dword, primitive, acquired, lost}
use Rattle.dws.specs.Step.{step_of, next_state, after_invalid, after_valid, after_primitive, report_of}
use Rattle.dws.specs.Laws.{Synchronized, run, AllValid, primitives, acquisitions, ThreePrimitives, acquired_still, LostBetween}
use Rattle.dws.proofs.Refusals.{by_way, bad_event_lem}
use Rattle.dws.proofs.Lost.{synchronized}

-- ---- towards synchronization: the state is the number of primitives, up to three

-- from a state s up to 3, over p primitives: the state r, and a reports of acquisition
abbrev Leads : (s r a p : ℕ) → Type 0
Leads s r a p = (r ≡ min 3 (s + p)) × (a ≡ pick (ltb s 3) (min 1 (s + p - 2)) 0)

abbrev Way : List ℕ → ℕ → Type 0
Way events s = Leads s (run s events) (acquisitions s events) (primitives events)

by_data : (s r a p : ℕ) → Leads s r a p → Leads s r (0 + a) (0 + p)
by_data s r a p l = rw (zero-add a, zero-add p) l

by_primitive : (r a p : ℕ) → Each (λ s. Leads (min 3 (s + 1)) r a p → Leads s r (pick (eqb s 2) 1 0 + a) (1 + p)) 4
by_primitive r a p = omega arith

none : Each (Way []) 4
none = omega arith

one_data : (events : List ℕ) → Each (Way events) 4 → Each (Way (data_dword ∷ events)) 4
unfolding step_of next_state after_valid report_of
one_data events w = ((((tt, by_data 0 _ _ _ w.0.0.0.1), by_data 1 _ _ _ w.0.0.1), by_data 2 _ _ _ w.0.1), by_data 3 _ _ _ w.1)

one_primitive : (events : List ℕ) → Each (Way events) 4 → Each (Way (primitive ∷ events)) 4
unfolding step_of next_state after_valid after_primitive report_of
one_primitive events w = ((((tt, (by_primitive _ _ _).0.0.0.1 w.0.0.1), (by_primitive _ _ _).0.0.1 w.0.1), (by_primitive _ _ _).0.1 w.1), (by_primitive _ _ _).1 w.1)

ways : (events : List ℕ) → AllValid events → Each (Way events) 4
ways [] v = none
ways (e ∷ events) v =
    let w = ways events v.1 in
    ⊎_elim
    (λ d. subst (λ (n : ℕ). Each (Way (n ∷ events)) 4) (sym d) (one_data events w))
    (λ p. subst (λ (n : ℕ). Each (Way (n ∷ events)) 4) (sym p) (one_primitive events w))
    v.0

pub three_primitives : ThreePrimitives
three_primitives events v = let w = (ways events v).0.0.0.1 in omega arith

-- ---- once synchronized: no acquisition, and synchronized still unless it is lost or restarted

-- one event, in a synchronized state
record Held (s event : ℕ) : Type 0 where
  not_again : (step_of s event).report ≡ acquired → ⊥
  still : ((step_of s event).report ≡ lost → ⊥) → (event ≡ restart → ⊥) → Synchronized (step_of s event).state

held_known : (s event : ℕ) → Synchronized s → event ≤ restart → Held s event
unfolding step_of next_state after_invalid after_valid after_primitive report_of
held_known s event h k =
    each (Held s) 4
    (synchronized (λ n. Each (Held n) 4) (((((((tt, omega arith), omega arith), omega arith), omega arith), omega arith), omega arith), omega arith) s h)
    event (omega arith)

held : (s event : ℕ) → Synchronized s → Held s event
held s event h =
    by_order restart event
    (λ k. let r = bad_event_lem s event h.most k in record { not_again = rw r (omega arith); still = λ _ _. rw r h })
    (λ k. held_known s event h k)

held_still : (s : ℕ) (events : List ℕ) → Synchronized s → acquired_still s events ≡ false
held_still s [] h = refl
held_still s (event ∷ events) h =
    let o = held s event h in
    rw (ne_eqb (step_of s event).report acquired o.not_again)
    (by_test (eqb (step_of s event).report lost || eqb event restart)
    (λ t. rw t)
    (λ f. let n = or_parts (eqb (step_of s event).report lost) (eqb event restart) f in
    rw f (held_still (step_of s event).state events (o.still (eqb-false (step_of s event).report lost n.0) (eqb-false event restart n.1)))))

-- a report of acquisition says that 3 is entered
entered : (s event next : ℕ) → report_of s event next ≡ acquired → next ≡ sync_acquired
unfolding report_of
entered s event next e =
    by_test (eqb s valid2 && eqb next sync_acquired)
    (λ t. eqb-true next sync_acquired (parts (eqb s valid2) (eqb next sync_acquired) t).1)
    (λ f. by_test (leb lost3 s && eqb next acquire_sync && eqb event invalid_dword)
    (λ t. absurd (omega (arith, rw (f, t) at e)))
    (λ g. absurd (omega (arith, rw (f, g) at e))))

enters : (s event : ℕ) → (step_of s event).report ≡ acquired → Synchronized (step_of s event).state
enters s event =
    by_way (λ r. r.report ≡ acquired → Synchronized r.state) s event
    (λ h e. absurd (omega arith))
    (λ h k e. absurd (omega arith))
    (λ h k e. let n = entered s event (next_state s event) e in record { least = omega arith; most = omega arith })

pub lost_between : LostBetween
lost_between s event events e = held_still (step_of s event).state events (enters s event e)
