-- The codes of a trace are those of a phy and one more, whose one argument is the counter.
use Prim.Native.Nat.{ℕ, ◌≤◌, ◌<◌}
use mathlib.Core.Bool.{true, false, ◌&&◌}
use mathlib.Core.Logic.{inl, inr, ⊎_elim}
use mathlib.Core.Path.{◌≡◌, refl, sym, subst}
use native.Mathlib.Omega.{arith}
use borrow.Author.Tests.{leb-true, le-leb, lt-leb, eqb-true, eqb-false}
use lib.Dec.{leb, eqb, leb-zero}
use Rattle.table.proofs.Laws.{by_test, parts}
use Rattle.event.specs.Names.{tx_open, phy_disabled, time_stamp, most_counter}
use Rattle.event.specs.Table.{argument_range, within, phy_codes, trace_codes, arguments_known, known_of, known_in_trace, stamp_of}
use Rattle.event.specs.Laws.{IsStamp, InTraceExactly, NoPhyKnowsStamps}
use Rattle.event.specs.declared.Event.{Event}
use Rattle.event.proofs.Ranges.{in_ranges}

-- an argument that an event lacks is zero
lacking : (v : ℕ) → leb 0 v && leb v 0 ≡ true → v ≡ 0
lacking v h = omega (arith, leb-true v 0 (parts (leb 0 v) (leb v 0) h).1)

module _ (e : Event) where
  -- what both tests say of an event
  both : (known_in_trace e ≡ true) → (within trace_codes e.code ≡ true) × (arguments_known e.code e.first e.second e.third e.fourth e.fifth e.sixth ≡ true)
  unfolding known_in_trace
  both k = parts (within trace_codes e.code) _ k

  pub phys : known_of e ≡ true → known_in_trace e ≡ true
  unfolding known_of known_in_trace
  phys k =
      let q = parts (within phy_codes e.code) _ k in
      let c = parts (leb tx_open e.code) (leb e.code phy_disabled) q.0 in
      rw (c.0, le-leb e.code time_stamp (omega (arith, leb-true e.code phy_disabled c.1)), q.1)

  pub others : eqb e.code time_stamp ≡ false → known_in_trace e ≡ true → known_of e ≡ true
  unfolding known_of
  others n k =
      let q = both k in
      let c = parts (leb tx_open e.code) (leb e.code time_stamp) q.0 in
      rw (c.0, le-leb e.code phy_disabled (omega (arith, leb-true e.code time_stamp c.1, eqb-false e.code time_stamp n)), q.1)

  pub stamp : eqb e.code time_stamp ≡ true → known_in_trace e ≡ true → IsStamp e
  unfolding argument_range
  stamp t k =
      let c = eqb-true e.code time_stamp t in
      let known = subst (λ (code : ℕ). arguments_known code e.first e.second e.third e.fourth e.fifth e.sixth ≡ true) c (both k).1 in
      let q = in_ranges time_stamp e.first e.second e.third e.fourth e.fifth e.sixth known in
      record {
        nothing_else =
            λ i. record {
              code = c i;
              first = e.first;
              second = lacking e.second (q 1) i;
              third = lacking e.third (q 2) i;
              fourth = lacking e.fourth (q 3) i;
              fifth = lacking e.fifth (q 4) i;
              sixth = lacking e.sixth (q 5) i;
            };
        counter = leb-true e.first most_counter (parts (leb 0 e.first) (leb e.first most_counter) (q 0)).1;
      }

-- a stamp of 32 bits may stand there, and no other
pub stamps : (counter : ℕ) → counter ≤ most_counter → known_in_trace (stamp_of counter) ≡ true
unfolding known_in_trace arguments_known argument_range
stamps counter h = rw (le-leb counter most_counter h, leb-zero counter)

pub no_stamps : (counter : ℕ) → most_counter < counter → known_in_trace (stamp_of counter) ≡ false
unfolding known_in_trace arguments_known argument_range
no_stamps counter h = rw (lt-leb counter most_counter h, leb-zero counter)

pub in_trace_exactly : InTraceExactly
in_trace_exactly e = (
  λ k. by_test (eqb e.code time_stamp) (λ t. inr (stamp e t k)) (λ f. inl (others e f k)),
  ⊎_elim (phys e) (λ s. subst (λ (x : Event). known_in_trace x ≡ true) (sym s.nothing_else) (stamps e.first s.counter)),
)

pub no_phy_knows_stamps : NoPhyKnowsStamps
unfolding known_of
no_phy_knows_stamps counter = refl
