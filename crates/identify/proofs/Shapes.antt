-- A valid state has one of a few shapes, and each of these is valid: every law over valid states goes by them.
use Prim.Native.Nat.{ℕ, zero, suc, ◌≤◌, ◌<◌}
use mathlib.Core.Bool.{Bool, true, false, ◌&&◌, ◌||◌, and-false, or-false, false≢true}
use mathlib.Core.List.{[], ◌∷◌}
use mathlib.Core.Path.{◌≡◌, refl, sym, ◌∙◌, subst}
use native.Mathlib.Omega.{arith}
use borrow.Author.Tests.{le-leb, leb-true, eqb-true, ne_eqb}
use lib.Dec.{eqb, leb}
use Rattle.table.proofs.Laws.{parts, all_hold, is_flag_lem, flag_says}
use Rattle.identify.specs.Names.{idle, receiving, spoiled, completed, none, complete, time_out, reset_received, frame_dwords, full_timer}
use Rattle.table.specs.Choice.{split}
use Rattle.table.specs.Flags.{is_flag, is_on, flag_of}
use Rattle.identify.specs.State.{only, flags_right, receiver_right, count_right, typed_right, got_right, timer_right, outcome_right, complete_right, time_out_right, reset_right, valid_of}
use Rattle.identify.specs.declared.Identification.{Identification}

-- ---- the shapes

-- a state by its fields, its flags by what they say
abbrev pub state : (receiver count timer outcome : ℕ) (typed got sent : Bool) → Identification
state receiver count timer outcome typed got sent =
    record {
      receiver = receiver;
      count = count;
      timer = timer;
      outcome = outcome;
      typed = flag_of typed;
      got = flag_of got;
      sent = flag_of sent;
    }

-- where the receiver is, what it has counted, and whether the type is known
pub data Place : ℕ → ℕ → Bool → Type 0 where
  at_idle : Place idle 0 false
  in_frame : {n : ℕ} {typed : Bool} → only (is_on (flag_of typed)) (leb 1 n) ≡ true → leb n frame_dwords ≡ true → Place receiving n typed
  at_spoiled : Place spoiled 0 false
  at_completed : Place completed 0 false

-- the timer, before an identify is got
pub data Clock : ℕ → Bool → Type 0 where
  unsent : Clock 0 false
  runs : {t : ℕ} → 1 ≤ t → t ≤ full_timer → Clock t true

-- no outcome yet
pub data Going : Identification → Type 0 where
  awaits : {r n t : ℕ} {typed sent : Bool} → Place r n typed → Clock t sent → Going (state r n t none typed false sent)
  holds : Going (state completed 0 0 none false true false)

-- an outcome
pub data Ended : Identification → Type 0 where
  joined : Ended (state completed 0 0 complete false true true)
  late : {r n : ℕ} {typed : Bool} → Place r n typed → Ended (state r n 0 time_out typed false true)
  was_reset : {r n t : ℕ} {typed sent : Bool} → Place r n typed → eqb r idle || eqb r completed ≡ true → Clock t sent → Ended (state r n 0 reset_received typed false sent)

-- either
pub data Shape : Identification → Type 0 where
  going : {i : Identification} → Going i → Shape i
  ended : {i : Identification} → Ended i → Shape i

-- ---- each shape is valid

going_valid : {i : Identification} → Going i → valid_of i ≡ true
unfolding valid_of
going_valid (awaits at_idle unsent) = refl
going_valid (awaits at_idle (runs a b)) = rw (le-leb _ _ a, le-leb _ _ b)
going_valid (awaits (in_frame {typed = typed} l h) unsent) = rw (is_flag_lem typed, l, h)
going_valid (awaits (in_frame {typed = typed} l h) (runs a b)) = rw (is_flag_lem typed, l, h, le-leb _ _ a, le-leb _ _ b)
going_valid (awaits at_spoiled unsent) = refl
going_valid (awaits at_spoiled (runs a b)) = rw (le-leb _ _ a, le-leb _ _ b)
going_valid (awaits at_completed unsent) = refl
going_valid (awaits at_completed (runs a b)) = rw (le-leb _ _ a, le-leb _ _ b)
going_valid holds = refl

ended_valid : {i : Identification} → Ended i → valid_of i ≡ true
unfolding valid_of
ended_valid joined = refl
ended_valid (late at_idle) = refl
ended_valid (late (in_frame {typed = typed} l h)) = rw (is_flag_lem typed, l, h)
ended_valid (late at_spoiled) = refl
ended_valid (late at_completed) = refl
ended_valid (was_reset {sent = sent} at_idle e k) = simp (is_flag_lem sent, and-false)
ended_valid (was_reset (in_frame l h) e k) = absurd (false≢true e)
ended_valid (was_reset at_spoiled e k) = absurd (false≢true e)
ended_valid (was_reset {sent = sent} at_completed e k) = simp (is_flag_lem sent, and-false)

pub shape_valid : {i : Identification} → Shape i → valid_of i ≡ true
shape_valid (going g) = going_valid g
shape_valid (ended e) = ended_valid e

-- ---- a valid state has a shape

-- the rules, one by one
record Rules (i : Identification) : Type 0 where
  pub flags : flags_right i ≡ true
  pub receiver : receiver_right i ≡ true
  pub count : count_right i ≡ true
  pub timer : timer_right i ≡ true
  pub got : got_right i ≡ true
  pub typed : typed_right i ≡ true
  pub outcome : outcome_right i ≡ true
  pub complete : complete_right i ≡ true
  pub time_out : time_out_right i ≡ true
  pub reset : reset_right i ≡ true

rules : (i : Identification) → valid_of i ≡ true → Rules i
unfolding valid_of
rules i v =
    let v = all_hold (flags_right i) (receiver_right i ∷ count_right i ∷ timer_right i ∷ got_right i ∷ typed_right i ∷ outcome_right i ∷ complete_right i ∷ time_out_right i ∷ reset_right i ∷ []) v in
    record { flags = v 0; receiver = v 1; count = v 2; timer = v 3; got = v 4; typed = v 5; outcome = v 6; complete = v 7; time_out = v 8; reset = v 9 }

-- what holds at 0 holds of a number that the test says is 0
at_zero : (P : ℕ → Type 0) → P 0 → (n : ℕ) → eqb n 0 ≡ true → P n
at_zero P p n e = subst P (sym (eqb-true n 0 e)) p

-- outside a frame nothing is counted and no type known
outside : {r : ℕ} → Place r 0 false → (n : ℕ) (typed : Bool) → eqb n 0 ≡ true → only (is_on (flag_of typed)) false ≡ true → Place r n typed
outside {r} p n true e f = absurd (false≢true f)
outside {r} p n false e f = at_zero (λ m. Place r m false) p n e

-- the receiver's rules alone give its place
place : (r n t o : ℕ) (typed got sent : Bool) → Rules (state r n t o typed got sent) → Place r n typed
place zero n t o typed got sent v = outside at_idle n typed v.count v.typed
place (suc zero) n t o typed got sent v = in_frame v.typed (sym (or-false (leb n frame_dwords)) ∙ v.count)
place (suc (suc zero)) n t o typed got sent v = outside at_spoiled n typed v.count v.typed
place (suc (suc (suc zero))) n t o typed got sent v = outside at_completed n typed v.count v.typed
place (suc (suc (suc (suc r)))) n t o typed got sent v = absurd (omega (arith, leb-true (suc (suc (suc (suc r)))) completed v.receiver))

-- what holds where a frame has ended
at_end_lem : (P : ℕ → ℕ → Bool → Type 0) → P completed 0 false → {r n : ℕ} {typed : Bool} → Place r n typed → eqb r completed ≡ true → P r n typed
at_end_lem P p at_idle e = absurd (false≢true e)
at_end_lem P p (in_frame l h) e = absurd (false≢true e)
at_end_lem P p at_spoiled e = absurd (false≢true e)
at_end_lem P p at_completed e = p

-- the timer's rule gives the clock, while nothing is got and there is no outcome
clock : (t : ℕ) (sent : Bool) → split (is_on (flag_of sent) && true && true) (leb 1 t && leb t full_timer) (eqb t 0) ≡ true → Clock t sent
clock t true e =
    let h = parts (leb 1 t) (leb t full_timer) (sym (or-false (leb 1 t && leb t full_timer)) ∙ e) in
    runs (leb-true 1 t h.0) (leb-true t full_timer h.1)
clock t false e = at_zero (λ u. Clock u false) unsent t e

-- ---- by the outcome

no_outcome : (r n t : ℕ) (typed got sent : Bool) → Rules (state r n t none typed got sent) → Going (state r n t none typed got sent)
no_outcome r n t typed false sent v = awaits (place r n t none typed false sent v) (clock t sent v.timer)
no_outcome r n t typed true true v = absurd (false≢true v.complete)
no_outcome r n t typed true false v =
    at_end_lem (λ r n typed. Going (state r n t none typed true false))
    (at_zero (λ u. Going (state completed 0 u none false true false)) holds t v.timer)
    (place r n t none typed true false v) v.got

when_complete : (r n t : ℕ) (typed got sent : Bool) → Rules (state r n t complete typed got sent) → Ended (state r n t complete typed got sent)
when_complete r n t typed false sent v = absurd (false≢true v.complete)
when_complete r n t typed true false v = absurd (false≢true v.complete)
when_complete r n t typed true true v =
    at_end_lem (λ r n typed. Ended (state r n t complete typed true true))
    (at_zero (λ u. Ended (state completed 0 u complete false true true)) joined t v.timer)
    (place r n t complete typed true true v) v.got

when_late : (r n t : ℕ) (typed got sent : Bool) → Rules (state r n t time_out typed got sent) → Ended (state r n t time_out typed got sent)
when_late r n t typed got false v = absurd (false≢true v.time_out)
when_late r n t typed true true v = absurd (false≢true v.time_out)
when_late r n t typed false true v =
    at_zero (λ u. Ended (state r n u time_out typed false true)) (late (place r n t time_out typed false true v)) t v.timer

when_reset : (r n t : ℕ) (typed got sent : Bool) → Rules (state r n t reset_received typed got sent) → Ended (state r n t reset_received typed got sent)
when_reset r n t typed true sent v = absurd (false≢true v.reset)
when_reset r n t typed false true v =
    at_zero (λ u. Ended (state r n u reset_received typed false true))
    (was_reset (place r n t reset_received typed false true v) v.reset (runs {t = 1} (omega arith) (omega arith))) t v.timer
when_reset r n t typed false false v =
    at_zero (λ u. Ended (state r n u reset_received typed false false)) (was_reset (place r n t reset_received typed false false v) v.reset unsent) t v.timer

-- there are no further outcomes
beyond : (o : ℕ) → reset_received < o → eqb o none || eqb o complete || eqb o time_out || eqb o reset_received ≡ true → ⊥
beyond o h e =
    false≢true
    (rw (ne_eqb o none (λ k. omega arith), ne_eqb o complete (λ k. omega arith), ne_eqb o time_out (λ k. omega arith), ne_eqb o reset_received (λ k. omega arith)) at e)

shaped : (r n t o : ℕ) (typed got sent : Bool) → Rules (state r n t o typed got sent) → Shape (state r n t o typed got sent)
shaped r n t zero typed got sent v = going (no_outcome r n t typed got sent v)
shaped r n t (suc zero) typed got sent v = absurd (false≢true v.outcome)
shaped r n t (suc (suc zero)) typed got sent v = ended (when_complete r n t typed got sent v)
shaped r n t (suc (suc (suc zero))) typed got sent v = ended (when_late r n t typed got sent v)
shaped r n t (suc (suc (suc (suc zero)))) typed got sent v = ended (when_reset r n t typed got sent v)
shaped r n t (suc (suc (suc (suc (suc o))))) typed got sent v = absurd (beyond (suc (suc (suc (suc (suc o))))) (omega arith) v.outcome)

-- a state whose flags are right is one by what they say
by_flags : (i : Identification) → flags_right i ≡ true → state i.receiver i.count i.timer i.outcome (is_on i.typed) (is_on i.got) (is_on i.sent) ≡ i
by_flags i e =
    let f = all_hold (is_flag i.typed) (is_flag i.got ∷ is_flag i.sent ∷ []) e in
    rw (flag_says i.typed (f 0), flag_says i.got (f 1), flag_says i.sent (f 2))

pub shape : (i : Identification) → valid_of i ≡ true → Shape i
shape i v =
    let p = by_flags i (rules i v).flags in
    subst Shape p (shaped i.receiver i.count i.timer i.outcome (is_on i.typed) (is_on i.got) (is_on i.sent) (subst Rules (sym p) (rules i v)))
