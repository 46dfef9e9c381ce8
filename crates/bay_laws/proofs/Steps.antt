-- A step of a bay is a gap, or the phy's own step with the base kept: so what holds of a phy's holds of a bay's.
use Prim.Native.Nat.{ℕ, ◌+◌, ◌-◌, ◌%◌, ◌^◌, ◌≤◌, ◌<◌}
use mathlib.Core.Bool.{true, false}
use mathlib.Core.List.{[], ◌∷◌}
use mathlib.Core.Path.{◌≡◌, sym, ap, ◌∙◌}
use native.Mathlib.Omega.{arith}
use borrow.Author.Tests.{le-leb}
use lib.Dec.{eqb}
use Rattle.table.specs.Flags.{on}
use Rattle.table.specs.Refusals.{bad_state}
use Rattle.table.proofs.Laws.{by_pick, by_order, parts, all_hold}
use Rattle.event.specs.Names.{time_stamp, most_counter}
use Rattle.event.specs.Table.{known_in_trace, stamp_of}
use Rattle.event.specs.declared.Event.{Event}
use Rattle.event.proofs.InTrace.{stamp, stamps}
use Rattle.phy.specs.State as phy
use Rattle.phy.specs.Step as phyStep
use Rattle.phy.specs.declared.Phy.{Phy}
use Rattle.phy_laws.proofs.Steps as phySteps
use Rattle.ledger.specs.Log.{after}
use Rattle.bay.specs.State.{valid_base_set, valid_base, valid_of}
use Rattle.bay.specs.Gap.{ticks, gap_of}
use Rattle.bay.specs.Step.{at_once, refused, passed, counter_values, counter_moved, ticks_to, on_stamp, is_stamp, step_of}
use Rattle.bay.specs.declared.Bay.{Bay}
use Rattle.bay.specs.declared.Stepped.{Stepped}
use Rattle.bay.proofs.Legs.{after_ticks}
use Rattle.bay.proofs.Steps.{phy_valid, base_few}
use Rattle.bay_laws.specs.Laws.{FreshValid, StaysValid, OthersArePhys, StampsAreBase, FirstOnlySets, LaterIsGap}
use Rattle.bay_laws.specs.Gaps.{StampBetween}
use Rattle.bay_laws.proofs.Rest.{after_valid}

-- any step goes one of three ways
pub by_way :
    (P : Stepped → Type 0) (b : Bay) (e : Event)
    → (valid_of b ≡ false → P (refused b bad_state))
    → (valid_of b ≡ true → is_stamp e ≡ true → P (on_stamp b e.first))
    → (valid_of b ≡ true → is_stamp e ≡ false → P (at_once b (phyStep.step_of b.phy e)))
    → P (step_of b e)
unfolding step_of
by_way P b e a s o = by_pick P (valid_of b) (λ v. by_pick P (is_stamp e) (s v) (o v)) a

pub others_are_phys : OthersArePhys
unfolding step_of
others_are_phys b e v n = rw (v, n)

pub a_gap : (b : Bay) (e : Event) → valid_of b ≡ true → is_stamp e ≡ true → step_of b e ≡ passed (gap_of b.phy (ticks_to b e.first)) e.first
unfolding step_of on_stamp
a_gap b e v t = rw (v, t)

pub stamps_are_base : StampsAreBase
stamps_are_base b e v t = let q = a_gap b e v t in record { base = ap (λ (r : Stepped). r.next.base) q; set = ap (λ (r : Stepped). r.next.baseSet) q }

pub first_only_sets : FirstOnlySets
unfolding gap_of
first_only_sets b e v t f = a_gap b e v t ∙ rw f

-- ---- validity

pub fresh_valid : FreshValid
unfolding valid_of
fresh_valid = rw phySteps.fresh_valid

-- a stamp's counter has 32 bits
pub counter_few : (e : Event) → is_stamp e ≡ true → e.first ≤ most_counter
counter_few e t = let q = parts (eqb e.code time_stamp) (known_in_trace e) t in (stamp e q.0 q.1).counter

based_valid : (p : Phy) (base : ℕ) → phy.valid_of p ≡ true → base ≤ most_counter → valid_of (record { phy = p; base = base; baseSet = on }) ≡ true
unfolding valid_of
based_valid p base v h = rw (v, le-leb base most_counter h)

kept_valid : (b : Bay) (p : Phy) → valid_of b ≡ true → phy.valid_of p ≡ true → valid_of (record { phy = p; base = b.base; baseSet = b.baseSet }) ≡ true
unfolding valid_of
kept_valid b p v w = let q = all_hold (phy.valid_of b.phy) (valid_base_set b.baseSet ∷ valid_base b.base b.baseSet ∷ []) v in rw (w, q 1, q 2)

pub stays_valid : StaysValid
unfolding on_stamp gap_of
stays_valid b e v =
    by_way (λ r. valid_of r.next ≡ true) b e
    (λ _. v)
    (λ _ t. based_valid (after phyStep.step_of b.phy (ticks (ticks_to b e.first))) e.first (after_valid (ticks_to b e.first) b.phy (phy_valid b v)) (counter_few e t))
    (λ _ _. kept_valid b (phyStep.step_of b.phy e).next v (phySteps.stays_valid b.phy e (phy_valid b v)))

-- ---- a stamp between

-- the counter has moved up, or has gone round once
module _ (base counter : ℕ) (b : base ≤ most_counter) (c : counter ≤ most_counter) where
  by_round : {A : Type 0} → (base ≤ counter → counter_moved base counter ≡ counter - base → A) → (counter < base → counter_moved base counter ≡ counter + counter_values - base → A) → A
  unfolding counter_moved
  by_round up round = by_order counter base (λ l. round l (omega arith)) (λ g. up g (omega arith))

-- its ways add up within one round
way_adds : (base counter last : ℕ) → base ≤ most_counter → counter ≤ most_counter → last ≤ most_counter → counter_moved base counter + counter_moved counter last ≤ most_counter
    → counter_moved base last ≡ counter_moved base counter + counter_moved counter last
way_adds base counter last b c d h =
    by_round base counter b c
    (λ o p. by_round counter last c d (λ q r. by_round base last b d (λ s t. omega arith) (λ s t. omega arith)) (λ q r. by_round base last b d (λ s t. omega arith) (λ s t. omega arith)))
    (λ o p. by_round counter last c d (λ q r. by_round base last b d (λ s t. omega arith) (λ s t. omega arith)) (λ q r. by_round base last b d (λ s t. omega arith) (λ s t. omega arith)))

is_stamp_lem : (counter : ℕ) → counter ≤ most_counter → is_stamp (stamp_of counter) ≡ true
is_stamp_lem counter h = rw (stamps counter h)

-- a counter that has gone n from a base has moved n
moved_on : (base n : ℕ) → base ≤ most_counter → n ≤ most_counter → counter_moved base ((base + n) % 2 ^ 32) ≡ n
unfolding counter_moved
moved_on base n b h = omega arith

pub later_is_gap : LaterIsGap
later_is_gap b n v t h =
    let counter = (b.base + n) % 2 ^ 32 in
    let m : ticks_to b counter ≡ n = rw t (moved_on b.base n (base_few b v t) h) in
    a_gap b (stamp_of counter) v (is_stamp_lem counter (omega arith)) ∙ ap (λ (k : ℕ). passed (gap_of b.phy k) counter) m

pub stamp_between : StampBetween
unfolding gap_of
stamp_between b counter last v t c d h =
    let s = stamp_of counter in
    let e = stamp_of last in
    let next : Stepped → Bay = λ r. r.next in
    let base = base_few b v t in
    let n : ticks_to b counter ≡ counter_moved b.base counter = rw t in
    let m : ticks_to b last ≡ counter_moved b.base last = rw t in
    let all : ticks_to b counter + counter_moved counter last ≡ ticks_to b last = omega (arith, way_adds b.base counter last base c d (omega arith)) in
    ap next (a_gap (step_of b s).next e (stays_valid b s v) (is_stamp_lem last d))
    ∙ ap (λ (q : Phy). record { phy = q; base = last; baseSet = on })
    (ap (λ (x : Bay). after phyStep.step_of x.phy (ticks (ticks_to x last))) (ap next (a_gap b s v (is_stamp_lem counter c)))
    ∙ sym (after_ticks b.phy (ticks_to b counter) (counter_moved counter last))
    ∙ ap (λ (j : ℕ). after phyStep.step_of b.phy (ticks j)) all)
    ∙ sym (ap next (a_gap b e v (is_stamp_lem last d)))
