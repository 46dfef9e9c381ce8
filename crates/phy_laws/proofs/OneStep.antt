-- One step of a valid phy by a known event, at each of the twelve shapes: the one case analysis of the phy.
use Prim.Native.Nat.{ℕ, ◌+◌, ◌-◌, ◌*◌, ◌≤◌}
use mathlib.Core.Bool.{Bool, true, false, ◌&&◌, ◌||◌}
use mathlib.Core.List.{[], ◌∷◌}
use mathlib.Core.Path.{◌≡◌, refl, subst}
use native.Mathlib.Omega.{arith}
use borrow.Author.Tests.{leb-true, leb-false, ltb-true, le-leb, lt-ltb}
use lib.Dec.{eqb, leb, ltb, leb-zero}
use Rattle.table.specs.Choice.{pick}
use Rattle.table.proofs.Laws.{by_test, by_pick, parts, one}
use Rattle.event.specs.Names.{STP, tx_open, tick, most_wait}
use Rattle.event.specs.Table.{argument_range, arguments_known, code_known, known_of, open_of, open_known}
use Rattle.event.proofs.Ranges.{fit, in_ranges}
use Rattle.event.specs.declared.Event.{Event}
use Rattle.event.specs.declared.Open.{Open}
use Rattle.phy.specs.Names.{P2, full_timer, bend, most_part}
use Rattle.phy.specs.Shapes.{◌and◌, no_open, with_wait, with_settings, refused}
use Rattle.phy.specs.State.{valid_pair, valid_part, valid_settings, valid_of}
use Rattle.phy.specs.Ticks.{longer}
use Rattle.phy.specs.declared.Waited.{Waited}
use Rattle.phy.specs.declared.Settings.{Settings}
use Rattle.phy.specs.declared.Phy.{Phy}
use Rattle.phy.specs.declared.Stepped.{Stepped}
use Rattle.phy_laws.specs.Waiting.{waits, is_answer}
use Rattle.phy_laws.proofs.Counting.{accepts, heard, ticks_of, aips_of, left}
use Rattle.phy_laws.proofs.Shapes.{Fields, phy_of, Facts, facts}

-- ---- what a step does to a waiting request

-- no request waits before or after: nothing is answered
pub record Nothing (e : Event) (r : Stepped) : Type 0 where
  pub silent : r.answer ≡ 0
  pub none : r.answered ≡ no_open
  pub opens : accepts e r ≡ false

-- a Tx Open is accepted: it is the request, with no part of a millisecond, and waits
pub record Taken (e : Event) (r : Stepped) : Type 0 where
  pub silent : r.answer ≡ 0
  pub none : r.answered ≡ no_open
  pub opens : accepts e r ≡ true
  pub request : r.next.request ≡ open_of e
  pub part : r.next.part ≡ 0
  pub soon : left r.next ≤ 2000

-- the request waits on, and if it is in P2 now it was there before; a tick takes one off what it may yet take, an AIP
-- gives at most 999
pub record Kept (p : Phy) (e : Event) (r : Stepped) : Type 0 where
  pub silent : r.answer ≡ 0
  pub none : r.answered ≡ no_open
  pub opens : accepts e r ≡ false
  pub request : r.next.request ≡ (heard p e).request
  pub part : r.next.port ≡ P2 → (p.port ≡ P2) × (r.next.part ≡ (heard p e).part)
  pub falls : left r.next + ticks_of e ≤ left p + 999 * aips_of e

-- the request is answered, by one of the sixteen codes and with its own arguments
pub record Answered (p : Phy) (e : Event) (r : Stepped) : Type 0 where
  pub code : is_answer r.answer ≡ true
  pub carries : r.answered ≡ (heard p e).request
  pub opens : accepts e r ≡ false

-- which of the four, by whether a request waits before and after
abbrev pub Tally : Phy → Event → Stepped → Type 0
Tally p e r =
    pick (waits p.port)
    (pick (waits r.next.port) (Kept p e r) (Answered p e r))
    (pick (waits r.next.port) (Taken e r) (Nothing e r))

-- events 5, 6, 14 and 15 set the accept flag
abbrev pub sets_flag : ℕ → Bool
sets_flag code = eqb code 5 || eqb code 6 || eqb code 14 || eqb code 15

pub record Stepping (p : Phy) (e : Event) (r : Stepped) : Type 0 where
  pub valid : valid_of r.next ≡ true
  pub tally : Tally p e r
  pub flag : pick (sets_flag e.code) Unit (r.next.settings ≡ p.settings)
  pub reports : leb r.notice 7 && leb r.sent 5 && leb r.refusal 6 ≡ true

-- ---- validity of a phy by its fields
pub valid_of_lem : (link port : ℕ) (f : Fields) → valid_pair link port ≡ true → Facts link port f → valid_of (phy_of link port f) ≡ true
unfolding valid_of
valid_of_lem link port f v h = rw (v, h.timer, h.request, h.part, h.reason, h.inboundProtocol, h.connectionProtocol, h.farClosed, h.settings)

-- with other settings that are valid
pub settings_valid : (p : Phy) (s : Settings) → valid_settings s ≡ true → valid_of p ≡ true → valid_of (with_settings p s) ≡ true
settings_valid p s good v =
    let t = facts p v in
    valid_of_lem p.link p.port
    (record { timer = p.timer; request = p.request; part = p.part; reason = p.reason; inboundSource = p.inboundSource; inboundProtocol = p.inboundProtocol; connectionProtocol = p.connectionProtocol; farClosed = p.farClosed; settings = s })
    t.0 (record { timer = t.1.timer; request = t.1.request; part = t.1.part; reason = t.1.reason; inboundProtocol = t.1.inboundProtocol; connectionProtocol = t.1.connectionProtocol; farClosed = t.1.farClosed; settings = good })

-- ---- an event that leaves the phy as it is: not listed, or refused
module _ (e : Event) (n : ℕ) (other : eqb e.code tick ≡ false) (opens : eqb e.code tx_open && eqb n 0 ≡ false) (few : n ≤ 6) where
  still_tally : (p : Phy) → Tally p e (refused p n)
  unfolding heard
  still_tally p =
      by_test (waits p.port)
      (λ t. rw t (record { silent = refl; none = refl; opens = opens; request = rw other; part = λ q. (q, rw other); falls = rw other (omega arith) }))
      (λ f. rw f (record { silent = refl; none = refl; opens = opens }))

  same_flag : (p : Phy) → pick (sets_flag e.code) Unit (p.settings ≡ p.settings)
  same_flag p = by_test (sets_flag e.code) (λ t. rw t tt) (λ f. rw f refl)

  pub still : (link port : ℕ) → valid_pair link port ≡ true → (f : Fields) → Facts link port f → Stepping (phy_of link port f) e (refused (phy_of link port f) n)
  still link port v f h =
      record { valid = valid_of_lem link port f v h; tally = still_tally (phy_of link port f); flag = same_flag (phy_of link port f); reports = rw (le-leb n 6 few) }

-- ---- small facts of kept Opens and of the timer

open_fits : (o : Open) → open_known o ≡ true → (i : ℕ)
    → one (fit tx_open 0 o.destination ∷ fit tx_open 1 o.protocol ∷ fit tx_open 2 o.rate ∷ fit tx_open 3 o.tag ∷ fit tx_open 4 o.blockedCount ∷ fit tx_open 5 o.wait ∷ []) i ≡ true
unfolding open_known
open_fits o = in_ranges tx_open o.destination o.protocol o.rate o.tag o.blockedCount o.wait

pub protocol_known : (o : Open) → open_known o ≡ true → leb o.protocol STP ≡ true
unfolding argument_range
protocol_known o k = (parts (leb 0 o.protocol) (leb o.protocol STP) (open_fits o k 1)).1

pub wait_known : (o : Open) → open_known o ≡ true → o.wait ≤ most_wait
unfolding argument_range
wait_known o k = leb-true o.wait most_wait (parts (leb 0 o.wait) (leb o.wait most_wait) (open_fits o k 5)).1

-- the Open of a known Tx Open
pub open_known_lem : (e : Event) → known_of e ≡ true → e.code ≡ tx_open → open_known (open_of e) ≡ true
unfolding known_of open_known
open_known_lem e k h =
    subst (λ (code : ℕ). arguments_known code e.first e.second e.third e.fourth e.fifth e.sixth ≡ true) h
    (parts (code_known e.code) (arguments_known e.code e.first e.second e.third e.fourth e.fifth e.sixth) k).1

-- a wait that has grown is still a wait
longer_wait : (w : Waited) → leb w.wait most_wait ≡ true → leb (longer w).wait most_wait ≡ true
unfolding longer
longer_wait w k =
    let P : Waited → Type 0 = λ x. leb x.wait most_wait ≡ true in
    by_pick P (leb most_wait w.wait)
    (λ _. k)
    (λ f. by_pick P (leb bend w.wait && ltb w.part most_part) (λ _. k) (λ _. le-leb (w.wait + 1) most_wait (omega (arith, leb-false most_wait w.wait f))))

longer_fits : (w : Waited) → fit tx_open 5 w.wait ≡ true → fit tx_open 5 (longer w).wait ≡ true
unfolding argument_range
longer_fits w k = rw (leb-zero (longer w).wait) (longer_wait w (parts (leb 0 w.wait) (leb w.wait most_wait) k).1)

pub longer_known : (o : Open) (part : ℕ) → open_known o ≡ true → open_known (with_wait o (longer (o.wait and part)).wait) ≡ true
unfolding open_known arguments_known
longer_known o part k = let q = open_fits o k in rw (q 0, q 1, q 2, q 3, q 4) (longer_fits (o.wait and part) (q 5))

-- no part is right with any wait, and a part that was right is right a tick later
pub no_part : (port wait : ℕ) → valid_part port wait 0 ≡ true
no_part port wait = by_test (eqb port P2 && leb bend wait && ltb wait most_wait) (λ t. rw t) (λ f. rw f)

pub longer_counts : (w : Waited) → valid_part P2 w.wait w.part ≡ true → valid_part P2 (longer w).wait (longer w).part ≡ true
unfolding longer
longer_counts w v =
    let P : Waited → Type 0 = λ x. valid_part P2 x.wait x.part ≡ true in
    by_pick P (leb most_wait w.wait)
    (λ _. v)
    (λ f. by_pick P (leb bend w.wait && ltb w.part most_part)
    (λ t. let q = parts (leb bend w.wait) (ltb w.part most_part) t in
    rw (q.0, lt-ltb w.wait most_wait (leb-false most_wait w.wait f), le-leb (w.part + 1) most_part (omega (arith, ltb-true w.part most_part q.1))))
    (λ _. no_part P2 (w.wait + 1)))

-- a timer that runs
abbrev pub timed : ℕ → Bool
timed t = leb 1 t && leb t full_timer

pub at_least_one : (t : ℕ) → timed t ≡ true → 1 ≤ t
at_least_one t h = leb-true 1 t (parts (leb 1 t) (leb t full_timer) h).0

pub at_most_full : (t : ℕ) → timed t ≡ true → t ≤ full_timer
at_most_full t h = leb-true t full_timer (parts (leb 1 t) (leb t full_timer) h).1

-- one that has not fallen to 0 still runs
pub timed_down : (t : ℕ) → timed t ≡ true → leb t 1 ≡ false → timed (t - 1) ≡ true
timed_down t h f = rw (le-leb 1 (t - 1) (omega (arith, leb-false t 1 f)), le-leb (t - 1) full_timer (omega (arith, at_most_full t h)))
