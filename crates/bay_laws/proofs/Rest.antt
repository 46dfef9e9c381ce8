-- After 2,000 ticks none is left before a phy rests; and at rest a tick does nothing.
use Prim.Native.Nat.{ℕ, zero, suc, ◌+◌, ◌-◌, ◌≤◌}
use mathlib.Core.Bool.{true}
use mathlib.Core.List.{List, [], append-nil}
use mathlib.Core.Path.{◌≡◌, refl, ap, ◌∙◌}
use native.Mathlib.Omega.{arith}
use Rattle.event.specs.Names.{tick}
use Rattle.phy.specs.Shapes.{quiet}
use Rattle.phy.specs.State.{valid_of}
use Rattle.phy.specs.Step.{step_of}
use Rattle.phy.specs.declared.Phy.{Phy}
use Rattle.phy.specs.declared.Stepped.{Stepped}
use Rattle.phy_laws.proofs.Ticking.{moves_left, ticks_left, distance}
use Rattle.phy_laws.proofs.Steps.{stays_valid}
use Rattle.ledger.specs.Log.{log, after}
use Rattle.ledger.specs.Demand.{plain}
use Rattle.bay.specs.Gap.{ticks, in_order, answer_at, notice_at, sent_at, open_at, gap_of}
use Rattle.bay.proofs.Calm.{ticking, still_silent}
use Rattle.bay.proofs.Legs.{after_ticks, order_ticks}
use Rattle.bay.proofs.Passing.{rest_still, rest_leads}
use Rattle.bay_laws.specs.Gaps.{rest_by, Rests}

-- ---- each tick is one fewer

pub after_valid : (n : ℕ) (p : Phy) → valid_of p ≡ true → valid_of (after step_of p (ticks n)) ≡ true
after_valid zero p v = v
after_valid (suc n) p v = after_valid n (step_of p (plain tick)).next (stays_valid p (plain tick) v)

fewer : (n : ℕ) (p : Phy) → valid_of p ≡ true → ticks_left (after step_of p (ticks n)) ≡ ticks_left p - n
fewer zero p v = omega arith
fewer (suc n) p v = omega (arith, fewer n (step_of p (plain tick)).next (stays_valid p (plain tick) v), (ticking p v).nears)

pub at_rest : (n : ℕ) (p : Phy) → valid_of p ≡ true → rest_by ≤ n → moves_left (after step_of p (ticks n)) ≡ 0
at_rest n p v h = (distance (after step_of p (ticks n)) (after_valid n p v)).1 (omega (arith, fewer n p v, (distance p v).0))

-- ---- and then nothing more

module _ (p : Phy) (v : valid_of p ≡ true) (m : ℕ) where
  abbrev rested : Phy
  rested = after step_of p (ticks rest_by)

  good : valid_of rested ≡ true
  good = after_valid rest_by p v

  done : moves_left rested ≡ 0
  done = at_rest rest_by p v (omega arith)

  leads : after step_of p (ticks (rest_by + m)) ≡ rested
  leads = after_ticks p rest_by m ∙ rest_leads rested good done m

  reports : {A : Type 0} (reported : ℕ → Stepped → List A) → ((at : ℕ) (q : Phy) → reported at (quiet q) ≡ [])
      → in_order reported 1 (log step_of p (ticks (rest_by + m))) ≡ in_order reported 1 (log step_of p (ticks rest_by))
  reports reported silent =
      order_ticks reported p 1 rest_by m
      ∙ rw (still_silent reported silent (λ _. rested) m (1 + rest_by) (λ _ _. rest_still rested good done))
      (append-nil (in_order reported 1 (log step_of p (ticks rest_by))))

pub rests : Rests
unfolding gap_of
rests p n v h =
    let m = n - rest_by in
    let e : n ≡ rest_by + m = omega arith in
    record {
      still = rest_still (after step_of p (ticks n)) (after_valid n p v) (at_rest n p v h);
      same = ap (gap_of p) e ∙ λ i. record {
        phy = leads p v m i;
        answers = reports p v m answer_at (λ _ _. refl) i;
        opens = reports p v m open_at (λ _ _. refl) i;
        notices = reports p v m notice_at (λ _ _. refl) i;
        sents = reports p v m sent_at (λ _ _. refl) i;
      };
    }
