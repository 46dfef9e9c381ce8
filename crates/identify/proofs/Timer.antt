-- The timer runs in one kind of shape, and each tick there takes one off until the last gives the outcome.
use Prim.Native.Nat.{ℕ, zero, suc, ◌-◌, ◌≤◌, ◌<◌}
use mathlib.Core.Bool.{Bool, true, false}
use mathlib.Core.Logic.{◌↔◌}
use mathlib.Core.Path.{◌≡◌, refl, sym, ap, ◌∙◌}
use native.Mathlib.Omega.{arith}
use borrow.Author.Tests.{eqb-false, ne_eqb}
use Rattle.table.proofs.Laws.{apart}
use Rattle.identify.specs.Names.{own_frame_sent, tick, none, complete, time_out, reset_received, full_timer}
use Rattle.identify.specs.Step.{with_timer, quiet, ends, exchanged, on_own_frame_sent, on_tick, most_of, known_of, move_of, step_of}
use Rattle.identify.specs.Run.{after_sent, after_ticks}
use Rattle.identify.specs.Laws.{Awaited, TimerRunsExactly, StartsTimer, TimerFalls, TicksSilent, RanOut, ThousandthTick}
use Rattle.identify.specs.declared.Identification.{Identification}
use Rattle.identify.specs.declared.Stepped.{Stepped}
use Rattle.identify.proofs.Basics.{neither, together}
use Rattle.identify.proofs.Shapes.{state, Place, unsent, runs, awaits, holds, joined, late, was_reset, Shape, going, ended, shape, shape_valid}

exactly : {i : Identification} → Shape i → (i.timer ≡ 0 → ⊥) ↔ Awaited i
exactly (going (awaits p unsent)) = neither (λ h. h refl) (λ w. apart w.sent)
exactly (going (awaits p (runs a b))) = together (λ e. omega arith) (record { sent = refl; not_got = refl; no_outcome = refl })
exactly (going holds) = neither (λ h. h refl) (λ w. apart w.sent)
exactly (ended joined) = neither (λ h. h refl) (λ w. eqb-false complete none refl w.no_outcome)
exactly (ended (late p)) = neither (λ h. h refl) (λ w. eqb-false time_out none refl w.no_outcome)
exactly (ended (was_reset p e k)) = neither (λ h. h refl) (λ w. eqb-false reset_received none refl w.no_outcome)

pub timer_runs_exactly : TimerRunsExactly
timer_runs_exactly i v = exactly (shape i v)

-- ---- the thousand ticks, from any place of the receiver

abbrev running : (r n : ℕ) (typed : Bool) (t : ℕ) → Identification
running r n typed t = state r n t none typed false true

module _ {r n : ℕ} {typed : Bool} (p : Place r n typed) where
  sending : step_of (state r n 0 none typed false false) own_frame_sent 0 ≡ quiet (running r n typed full_timer)
  unfolding step_of known_of most_of move_of on_own_frame_sent exchanged
  sending = rw (shape_valid (going (awaits p unsent)))

  starts : after_sent (state r n 0 none typed false false) ≡ running r n typed full_timer
  starts = ap (λ (s : Stepped). s.next) sending

  ticked : (t : ℕ) → 1 < t → t ≤ full_timer → step_of (running r n typed t) tick 0 ≡ quiet (running r n typed (t - 1))
  unfolding step_of known_of most_of move_of on_tick
  ticked t h k =
      rw (shape_valid (going (awaits p (runs {t = t} (omega arith) k))), ne_eqb t 0 (λ e. omega arith), ne_eqb (t - 1) 0 (λ e. omega arith))

  last_tick : step_of (running r n typed 1) tick 0 ≡ ends (running r n typed 1) time_out
  unfolding step_of known_of most_of move_of on_tick
  last_tick = rw (shape_valid (going (awaits p (runs {t = 1} (omega arith) (omega arith)))))

  falling : (m : ℕ) → m < full_timer → after_ticks m (running r n typed full_timer) ≡ running r n typed (full_timer - m)
  unfolding after_ticks
  falling zero h = refl
  falling (suc m) h =
      ap (λ (i : Identification). (step_of i tick 0).next) (falling m (omega arith))
      ∙ ap (λ (s : Stepped). s.next) (ticked (full_timer - m) (omega arith) (omega arith))
      ∙ ap (running r n typed) (omega arith)

  tick_after : (m : ℕ) → m < full_timer → step_of (after_ticks m (running r n typed full_timer)) tick 0 ≡ step_of (running r n typed (full_timer - m)) tick 0
  tick_after m h = ap (λ (i : Identification). step_of i tick 0) (falling m h)

-- where our own frame starts the timer there is one shape
from_start : (P : Identification → Type 0) → ((r n : ℕ) (typed : Bool) → Place r n typed → P (state r n 0 none typed false false))
    → {i : Identification} → Shape i → StartsTimer i → P i
from_start P at (going (awaits p unsent)) s = at _ _ _ p
from_start P at (going (awaits p (runs a b))) s = apart (sym s.not_sent)
from_start P at (going holds) s = apart (sym s.not_got)
from_start P at (ended joined) s = apart (sym s.not_got)
from_start P at (ended (late p)) s = apart (sym s.not_sent)
from_start P at (ended (was_reset p e k)) s = absurd (eqb-false reset_received none refl s.no_outcome)

pub timer_falls : TimerFalls
timer_falls i s =
    from_start (λ i. (m : ℕ) → m < full_timer → after_ticks m (after_sent i) ≡ with_timer (after_sent i) (full_timer - m))
    (λ r n typed p m h. rw (starts p) (falling p m h)) (shape i s.right) s

pub ticks_silent : TicksSilent
ticks_silent i s =
    from_start (λ i. (m : ℕ) → suc m < full_timer → (step_of (after_ticks m (after_sent i)) tick 0).report ≡ none)
    (λ r n typed p m h. rw (starts p, tick_after p m (omega arith), ticked p (full_timer - m) (omega arith) (omega arith))) (shape i s.right) s

-- the timer after 999 ticks is at 1
at_last : {r n : ℕ} {typed : Bool} → Place r n typed → (t : ℕ) → t ≡ 1 → RanOut (step_of (running r n typed t) tick 0)
at_last p t e = rw (e, last_tick p) (record { told = refl; kept = refl; stopped = refl })

pub thousandth_tick : ThousandthTick
thousandth_tick i s =
    from_start (λ i. (m : ℕ) → suc m ≡ full_timer → RanOut (step_of (after_ticks m (after_sent i)) tick 0))
    (λ r n typed p m e. rw (starts p, tick_after p m (omega arith)) (at_last p (full_timer - m) (omega arith))) (shape i s.right) s
