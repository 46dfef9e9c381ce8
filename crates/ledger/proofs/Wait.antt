-- The closed form of a wait: `in_field` and `microseconds` undo each other, and a tick is one microsecond more.
use Prim.Native.Nat.{ℕ, zero, suc, ◌+◌, ◌-◌, ◌*◌, ◌/◌, ◌%◌, ◌≤◌, ◌<◌, min}
use mathlib.Core.Bool.{true}
use mathlib.Core.Path.{◌≡◌, refl, sym, ap, subst, ◌∙◌}
use native.Mathlib.Omega.{arith}
use borrow.Author.Tests.{lt-ltb, le-ltb, le-leb, lt-leb, eqb-true, leb-true}
use lib.Dec.{eqb, leb, ltb}
use Rattle.table.proofs.Laws.{by_order, by_pick}
use Rattle.event.specs.Names.{most_wait}
use Rattle.phy.specs.Names.{P2, bend, most_part}
use Rattle.phy.specs.Shapes.{◌and◌}
use Rattle.phy.specs.State.{valid_part}
use Rattle.phy.specs.Ticks.{longer}
use Rattle.phy.specs.declared.Waited.{Waited}
use Rattle.phy_laws.proofs.Tests.{in_range_lem}
use Rattle.ledger.specs.Wait.{millisecond, meant, microseconds, in_field, waited_for, InP2, TicksGive, WaitsAdd, OneMore, AtTheEnds, TrueAfter}

-- ---- the two slopes, by their numbers

abbrev most : ℕ
most = meant most_wait

pub most_is : most ≡ 32799768
unfolding meant
most_is = refl

-- no wait means more
pub meant_few : (v : ℕ) → v ≤ most_wait → meant v ≤ 32799768
unfolding meant
meant_few v h = by_pick (λ (m : ℕ). m ≤ 32799768) (ltb v bend) (λ _. omega arith) (λ _. omega arith)

meant_below : (v : ℕ) → v < bend → meant v ≡ v
unfolding meant
meant_below v l = rw (lt-ltb v bend l)

meant_above : (q : ℕ) → meant (bend + q) ≡ bend + q * millisecond
unfolding meant
meant_above q = rw (le-ltb (bend + q) bend (omega arith)) (omega arith)

same_waited : (v w : Waited) → v.wait ≡ w.wait → v.part ≡ w.part → v ≡ w
same_waited v w a b = λ i. a i and b i

field_below : (m : ℕ) → m < bend → in_field m ≡ m and 0
unfolding in_field
field_below m l = rw (lt-ltb m bend l)

field_above : (q r : ℕ) → r < millisecond → in_field (bend + q * millisecond + r) ≡ (bend + q) and r
unfolding in_field
field_above q r l =
    rw (le-ltb (bend + q * millisecond + r) bend (omega arith))
    (same_waited ((bend + (bend + q * millisecond + r - bend) / millisecond) and ((bend + q * millisecond + r - bend) % millisecond)) ((bend + q) and r) (omega arith) (omega arith))

-- microseconds lie below the bend, or some milliseconds and a part above it
by_slope : (P : ℕ → Type 0) → ((m : ℕ) → m < bend → P m) → ((q r : ℕ) → r < millisecond → P (bend + q * millisecond + r)) → (m : ℕ) → P m
by_slope P below above m =
    by_order m bend (below m)
    (λ g. let e : bend + (m - bend) / millisecond * millisecond + (m - bend) % millisecond ≡ m = omega arith in
    subst P e (above ((m - bend) / millisecond) ((m - bend) % millisecond) (omega arith)))

-- ---- a tick, by its four cases

stands : (w : Waited) → most_wait ≤ w.wait → longer w ≡ w
unfolding longer
stands w g = rw (le-leb most_wait w.wait g)

rises_below : (v n : ℕ) → v < bend → longer (v and n) ≡ (v + 1) and 0
unfolding longer
rises_below v n l = rw (lt-leb most_wait v (omega arith), lt-leb bend v l)

part_rises : (q r : ℕ) → bend + q < most_wait → r < most_part → longer ((bend + q) and r) ≡ (bend + q) and (r + 1)
unfolding longer
part_rises q r l k = rw (lt-leb most_wait (bend + q) l, le-leb bend (bend + q) (omega arith), lt-ltb r most_part k)

rises_above : (q : ℕ) → bend + q < most_wait → longer ((bend + q) and most_part) ≡ (bend + (q + 1)) and 0
unfolding longer
rises_above q l = rw (lt-leb most_wait (bend + q) l, le-leb bend (bend + q) (omega arith)) (ap (λ (v : ℕ). v and 0) (omega arith))

-- ---- what the field keeps of microseconds means them, and a tick is one more of them

pub microseconds_in_field : (m : ℕ) → microseconds (in_field m) ≡ m
microseconds_in_field =
    by_slope (λ m. microseconds (in_field m) ≡ m)
    (λ m l. rw (field_below m l, meant_below m l) (omega arith))
    (λ q r l. rw (field_above q r l, meant_above q))

pub longer_in_field : (m : ℕ) → m < most → longer (in_field m) ≡ in_field (m + 1)
longer_in_field =
    by_slope (λ m. m < most → longer (in_field m) ≡ in_field (m + 1))
    (λ m l _. ap longer (field_below m l) ∙ rises_below m 0 l ∙ sym (begins m l))
    (λ q r l k. ap longer (field_above q r l) ∙ above q r l k)
  where
    begins : (m : ℕ) → m < bend → in_field (m + 1) ≡ (m + 1) and 0
    begins m l = by_order (m + 1) bend (field_below (m + 1)) (λ g. subst (λ (n : ℕ). in_field n ≡ n and 0) (omega arith) (field_above 0 0 (omega arith)))

    above : (q r : ℕ) → r < millisecond → bend + q * millisecond + r < most → longer ((bend + q) and r) ≡ in_field (bend + q * millisecond + r + 1)
    above q r l k =
        let b = most_is in
        by_order r most_part
        (λ s. part_rises q r (omega arith) s ∙ sym (ap in_field (omega arith) ∙ field_above q (r + 1) (omega arith)))
        (λ g. let e : r ≡ most_part = omega arith in
        ap (λ (n : ℕ). longer ((bend + q) and n)) e ∙ rises_above q (omega arith) ∙ sym (ap in_field (omega arith) ∙ field_above (q + 1) 0 (omega arith)))

longer_most : longer (in_field most) ≡ in_field most
longer_most = ap longer t ∙ stands (most_wait and 0) (omega arith) ∙ sym t
  where
    t : in_field most ≡ most_wait and 0
    t = ap in_field most_is ∙ field_above 32767 0 (omega arith)

-- ---- the closed form

-- one tick after n
pub longer_waited : (w : Waited) (n : ℕ) → longer (waited_for w n) ≡ waited_for w (n + 1)
unfolding waited_for
longer_waited w n =
    let m = microseconds w + n in
    by_order m most
    (λ l. ap (λ (k : ℕ). longer (in_field k)) (omega arith) ∙ longer_in_field m l ∙ ap in_field (omega arith))
    (λ g. ap (λ (k : ℕ). longer (in_field k)) (omega arith) ∙ longer_most ∙ ap in_field (omega arith))

pub waits_add : WaitsAdd
unfolding waited_for
waits_add w m n =
    let x = min most (microseconds w + m) in
    let e = microseconds_in_field x in
    ap in_field (omega arith)

-- ---- a wait and its part as they stand in P2

none_below : (v n : ℕ) → v < bend → valid_part P2 v n ≡ true → n ≡ 0
none_below v n l h = eqb-true n 0 (rw (lt-leb bend v l) at h)

none_at_most : (n : ℕ) → valid_part P2 most_wait n ≡ true → n ≡ 0
none_at_most n h = eqb-true n 0 h

part_between : (v n : ℕ) → bend ≤ v → v < most_wait → valid_part P2 v n ≡ true → n ≤ most_part
part_between v n g l h = leb-true n most_part (in_range_lem (leb n most_part) (eqb n 0) (rw (le-leb bend v g, lt-ltb v most_wait l) at h))

-- so they lie below the bend, between it and the most, or at the most
by_standing :
    (P : Waited → Type 0)
    → ((v : ℕ) → v < bend → P (v and 0))
    → ((q r : ℕ) → bend + q < most_wait → r < millisecond → P ((bend + q) and r))
    → P (most_wait and 0)
    → (w : Waited) → InP2 w → P w
by_standing P below between at_most w h =
    let v = w.wait in
    by_order v bend
    (λ l. subst (λ (n : ℕ). P (v and n)) (sym (none_below v w.part l h.part)) (below v l))
    (λ g. by_order v most_wait
    (λ l. subst (λ (k : ℕ). P (k and w.part)) (omega arith) (between (v - bend) w.part (omega arith) (omega (arith, part_between v w.part g l h.part))))
    (λ a. let e : v ≡ most_wait = omega (arith, h.wait) in
    let z = none_at_most w.part (subst (λ (k : ℕ). valid_part P2 k w.part ≡ true) e h.part) in
    subst P (same_waited (most_wait and 0) w (sym e) (sym z)) at_most))

-- and are what the field keeps of their microseconds, which are no more than the most means
record InField (w : Waited) : Type 0 where
  same : in_field (microseconds w) ≡ w
  within : microseconds w ≤ most
  below : w.wait < most_wait → microseconds w < most

field_in_P2 : (w : Waited) → InP2 w → InField w
field_in_P2 =
    let b = most_is in
    by_standing InField
    (λ v l. let e : meant v + 0 ≡ v = omega (arith, meant_below v l) in
    record { same = ap in_field e ∙ field_below v l; within = omega arith; below = λ _. omega arith })
    (λ q r l k. let e = meant_above q in
    record { same = ap (λ (m : ℕ). in_field (m + r)) e ∙ field_above q r k; within = omega arith; below = λ _. omega arith })
    (let e : meant most_wait + 0 ≡ bend + 32767 * millisecond + 0 = omega arith in
    record { same = ap in_field e ∙ field_above 32767 0 (omega arith); within = omega arith; below = λ l. absurd (omega arith) })

pub waited_none : (w : Waited) → InP2 w → waited_for w 0 ≡ w
unfolding waited_for
waited_none w h = let t = field_in_P2 w h in ap in_field (omega (arith, t.within)) ∙ t.same

pub ticks_give : TicksGive
ticks_give w zero h = sym (waited_none w h)
ticks_give w (suc n) h = ap longer (ticks_give w n h) ∙ longer_waited w n ∙ ap (waited_for w) (omega arith)

pub one_more : OneMore
one_more w h l =
    let t = field_in_P2 w h in
    ap (λ (v : Waited). microseconds (longer v)) (sym t.same) ∙ ap microseconds (longer_in_field (microseconds w) (t.below l)) ∙ microseconds_in_field (microseconds w + 1)

pub at_the_ends : AtTheEnds
unfolding longer meant
at_the_ends = record { ticks = refl; means = refl }

-- ---- the wait tells the truth: the part is what it does not tell

field_part : (m : ℕ) → (in_field m).part < millisecond
field_part = by_slope (λ m. (in_field m).part < millisecond) (λ m l. rw (field_below m l) (omega arith)) (λ q r l. rw (field_above q r l) l)

field_below_most : (m : ℕ) → (in_field m).wait < most_wait → m < most
field_below_most =
    let b = most_is in
    by_slope (λ m. (in_field m).wait < most_wait → m < most) (λ m l _. omega arith) (λ q r l h. let k = rw (field_above q r l) at h in omega arith)

field_exact : (m : ℕ) → (in_field m).wait < bend → (in_field m).part ≡ 0
field_exact =
    by_slope (λ m. (in_field m).wait < bend → (in_field m).part ≡ 0) (λ m l _. rw (field_below m l)) (λ q r l h. absurd (let k = rw (field_above q r l) at h in omega arith))

field_within : (m : ℕ) → m ≤ most → (in_field m).wait ≤ most_wait
field_within =
    let b = most_is in
    by_slope (λ m. m ≤ most → (in_field m).wait ≤ most_wait) (λ m l _. rw (field_below m l) (omega arith)) (λ q r l k. rw (field_above q r l) (omega arith))

pub true_after : TrueAfter
unfolding waited_for
true_after v n =
    let b = most_is in
    let m = min most (meant v + 0 + n) in
    let e = microseconds_in_field m in
    record {
      never_more = omega arith;
      hardly_less = λ l. omega (arith, field_part m, field_below_most m l);
      exact = λ l. omega (arith, field_exact m l, field_below_most m (omega arith));
      no_further = field_within m (omega arith);
    }
