-- What a bay's step gives, by the tests of its definition.
use Rattle.std.proofs.Common.{◌≡◌, ℕ, ◌+◌, ◌%◌, ◌^◌, ◌<◌, ◌≤◌, true, false, ◌&&◌, eqb, leb, [], ◌∷◌, sym, ap, ◌∙◌, arith, eq-eqb, leb-true}
use mathlib.Core.Bool.{and-true, and-false, and_assoc, false≢true}
use Rattle.table.specs.Flags.{is_on}
use Rattle.table.specs.Refusals.{bad_state, bad_event}
use Rattle.table.proofs.Laws.{by_test, by_pick, parts, all_hold}
use Rattle.event.specs.Names.{time_stamp, most_counter}
use Rattle.event.specs.Table.{known_of, known_in_trace, stamp_of}
use Rattle.event.specs.declared.Event.{Event}
use Rattle.event.proofs.InTrace.{phys, stamp}
use Rattle.phy.specs.State as phy
use Rattle.phy.specs.Step as step
use Rattle.phy_laws.proofs.Tests.{in_range_lem}
use Rattle.bay.specs.State.{valid_base_set, valid_base, valid_of}
use Rattle.bay.specs.Step.{at_once, refused, counter_moved, ticks_to, on_stamp, is_stamp, step_of}
use Rattle.bay.specs.declared.Bay.{Bay}

-- ---- a valid bay

module _ (b : Bay) (v : valid_of b ≡ true) where
  pub phy_valid : phy.valid_of b.phy ≡ true
  unfolding valid_of
  phy_valid = all_hold _ (_ ∷ _ ∷ []) v 0

  pub base_few : is_on b.baseSet ≡ true → b.base ≤ most_counter
  unfolding valid_of
  base_few t = leb-true b.base most_counter (in_range_lem (leb b.base most_counter) (eqb b.base 0) (rw t at (all_hold (phy.valid_of b.phy) (valid_base_set b.baseSet ∷ valid_base b.base b.baseSet ∷ []) v 2)))

-- the clock is valid, and so is the bay exactly where its phy is
pub with_clock : (b : Bay) → (valid_base_set b.baseSet && valid_base b.base b.baseSet) ≡ true → valid_of b ≡ phy.valid_of b.phy
unfolding valid_of
with_clock b c =
    let q = parts (valid_base_set b.baseSet) (valid_base b.base b.baseSet) c in
    simp (q.0, q.1, and-true)

pub no_clock : (b : Bay) → (valid_base_set b.baseSet && valid_base b.base b.baseSet) ≡ false → valid_of b ≡ false
unfolding valid_of
no_clock b c = and_assoc (phy.valid_of b.phy) (valid_base_set b.baseSet) (valid_base b.base b.baseSet) ∙ rw (c, and-false)

-- ---- the ticks of a stamp

-- the code's difference is the definition's
pub moved_by : (base counter r : ℕ) → base ≤ most_counter → counter ≤ most_counter → r < 2 ^ 32 → (r + base) % 2 ^ 32 ≡ counter → r ≡ counter_moved base counter
unfolding counter_moved
moved_by base counter r b c f w = omega arith

pub few_ticks : (b : Bay) (counter : ℕ) → ticks_to b counter ≤ most_counter
unfolding counter_moved
few_ticks b counter = by_pick (λ (n : ℕ). n ≤ most_counter) (is_on b.baseSet) (λ _. omega arith) (λ _. omega arith)

-- ---- any bay and any event

module _ (b : Bay) (e : Event) where
  pub not_valid : valid_of b ≡ false → step_of b e ≡ refused b bad_state
  unfolding step_of
  not_valid v = rw v

  pub a_stamp : valid_of b ≡ true → e.code ≡ time_stamp → known_in_trace e ≡ true → step_of b e ≡ on_stamp b e.first
  unfolding step_of
  a_stamp v c k = rw (v, eq-eqb e.code time_stamp c, k)

  -- an event that may not stand in a trace is none of the phy's either
  pub not_known : valid_of b ≡ true → known_in_trace e ≡ false → step_of b e ≡ refused b bad_event
  unfolding step_of step.step_of
  not_known v k =
      let f : known_of e ≡ false = by_test (known_of e) (λ t. absurd (false≢true (sym k ∙ phys e t))) (λ f. f) in
      simp (v, phy_valid b v, f, k, and-false)

  -- a stamp is that of its counter
  pub as_stamp : is_stamp e ≡ true → step_of b (stamp_of e.first) ≡ step_of b e
  as_stamp t =
      let q = parts (eqb e.code time_stamp) (known_in_trace e) t in
      ap (step_of b) (sym (stamp e q.0 q.1).nothing_else)

  -- every other event is the phy's, which judges itself
  pub no_stamp : is_stamp e ≡ false → (valid_base_set b.baseSet && valid_base b.base b.baseSet) ≡ true → step_of b e ≡ at_once b (step.step_of b.phy e)
  unfolding step_of step.step_of
  no_stamp n c = by_test (phy.valid_of b.phy) (λ t. rw (with_clock b c, t, n)) (λ f. rw (with_clock b c, f))
