-- Lost dwords are counted and cleared as stated: by computing at each synchronized state.
use Prim.Native.Nat.{ℕ, zero, suc, ◌+◌, ◌-◌, ◌≤◌, ◌<◌}
use mathlib.Core.List.{List, [], ◌∷◌}
use mathlib.Core.Logic.{⊎_elim}
use mathlib.Core.Path.{◌≡◌, refl, sym, ap, ◌∙◌, subst}
use native.Mathlib.Omega.{arith}
use lib.ListN.{length}
use Rattle.table.proofs.Laws.{Each, each}
use Rattle.dws.specs.Names.{sync_acquired, lost3, data_dword, primitive}
use Rattle.dws.specs.Step.{step_of, next_state, after_invalid, after_valid, after_primitive, report_of}
use Rattle.dws.specs.Laws.{lost_count, Synchronized, run, Valid, AllValid, OneMore, InvalidAdds, Loses, FourthLoses, TwoValidClearOne, SixFromLost3}

-- a statement at each synchronized state
pub synchronized : (P : ℕ → Type 0) → Each (λ n. P (n + sync_acquired)) 7 → (s : ℕ) → Synchronized s → P s
synchronized P e s h = subst P (omega arith) (each (λ n. P (n + sync_acquired)) 7 e (s - sync_acquired) (omega arith))

pub invalid_adds : InvalidAdds
unfolding step_of next_state after_invalid report_of
invalid_adds s h = synchronized (λ n. lost_count n < 3 → OneMore n) (omega arith) s h

pub fourth_loses : FourthLoses
unfolding step_of next_state after_invalid report_of
fourth_loses s h = synchronized (λ n. lost_count n ≡ 3 → Loses n) (omega arith) s h

-- a valid dword of either kind moves a synchronized state alike, and keeps it synchronized
pub record Alike (s : ℕ) : Type 0 where
  pub by_data : (step_of s data_dword).state ≡ after_valid s
  pub by_primitive : (step_of s primitive).state ≡ after_valid s
  pub held : Synchronized (after_valid s)
  pub clears : lost_count (after_valid (after_valid s)) ≡ lost_count s - 1

pub alike : (s : ℕ) → Synchronized s → Alike s
unfolding step_of next_state after_primitive after_valid
alike s h = synchronized Alike (omega arith) s h

pub valid_moves : (s e : ℕ) → Synchronized s → Valid e → (step_of s e).state ≡ after_valid s
valid_moves s e h v =
    ⊎_elim (λ d. ap (λ (n : ℕ). (step_of s n).state) d ∙ (alike s h).by_data) (λ p. ap (λ (n : ℕ). (step_of s n).state) p ∙ (alike s h).by_primitive) v

pub two_valid_clear_one : TwoValidClearOne
two_valid_clear_one s e f h v w =
    ap lost_count (ap (λ (n : ℕ). (step_of n f).state) (valid_moves s e h v) ∙ valid_moves (after_valid s) f (alike s h).held w) ∙ (alike s h).clears

-- n valid dwords
steps : ℕ → ℕ → ℕ
steps zero s = s
steps (suc n) s = steps n (after_valid s)

run_steps : (s : ℕ) (events : List ℕ) → Synchronized s → AllValid events → run s events ≡ steps (length events) s
unfolding steps
run_steps s [] h v = refl
run_steps s (e ∷ events) h v = rw (valid_moves s e h v.0) (run_steps (after_valid s) events (alike s h).held v.1)

rests : (n : ℕ) → steps n sync_acquired ≡ sync_acquired
unfolding steps after_valid
rests zero = refl
rests (suc n) = rests n

-- five steps fall short, at the sixth the state is 3 and rests there
six : (n : ℕ) → (steps n lost3 ≡ sync_acquired → 6 ≤ n) × (6 ≤ n → steps n lost3 ≡ sync_acquired)
unfolding steps after_valid
six zero = (λ e. omega arith, λ h. absurd (omega arith))
six (suc zero) = (λ e. omega arith, λ h. absurd (omega arith))
six (suc (suc zero)) = (λ e. omega arith, λ h. absurd (omega arith))
six (suc (suc (suc zero))) = (λ e. omega arith, λ h. absurd (omega arith))
six (suc (suc (suc (suc zero)))) = (λ e. omega arith, λ h. absurd (omega arith))
six (suc (suc (suc (suc (suc zero))))) = (λ e. omega arith, λ h. absurd (omega arith))
six (suc (suc (suc (suc (suc (suc n)))))) = (λ e. omega arith, λ h. rests n)

pub six_from_lost3 : SixFromLost3
six_from_lost3 events v =
    let e = run_steps lost3 events (record { least = omega arith; most = omega arith }) v in
    (λ r. (six (length events)).0 (sym e ∙ r), λ h. e ∙ (six (length events)).1 h)
