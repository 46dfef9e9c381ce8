-- How much comes in a gap: each report or change of the link takes from what ticks may yet do; notices come with its two legs alone.
use Prim.Native.Nat.{ℕ, zero, suc, ◌+◌, ◌-◌, ◌≤◌}
use mathlib.Core.Bool.{true, not}
use mathlib.Core.List.{List, [], ◌∷◌}
use mathlib.Core.Path.{◌≡◌, refl, ap}
use native.Mathlib.Omega.{arith}
use lib.Dec.{eqb}
use lib.ListN.{length, length-append}
use Rattle.table.specs.Choice.{pick}
use Rattle.table.proofs.Laws.{by_test, by_pick}
use Rattle.event.specs.Names.{tick}
use Rattle.phy.specs.Step.{step_of}
use Rattle.phy.specs.State.{valid_of}
use Rattle.phy.specs.declared.Phy.{Phy}
use Rattle.phy_laws.specs.Waiting.{waits}
use Rattle.phy_laws.proofs.Ticking.{moves_left, few_moves, sends_left, few_sends}
use Rattle.phy_laws.proofs.Steps.{stays_valid}
use Rattle.ledger.specs.Log.{Entry, log, after, accepted, answered, many}
use Rattle.ledger.specs.Demand.{plain, one_if_waiting}
use Rattle.ledger.proofs.Demand.{balances}
use Rattle.bay.specs.Gap.{ticks, in_order, code_at, answer_at, notice_at, sent_at, open_at, gap_of}
use Rattle.bay.specs.Legs.{leg_of}
use Rattle.bay.specs.declared.Report.{Report}
use Rattle.bay.proofs.Calm.{ticking}
use Rattle.bay.proofs.Passing.{passed_reports}
use Rattle.bay_laws.specs.Gaps.{link_changes, AtMost}

-- a code is one report, or none where it is 0
one_code : (c at : ℕ) → length (code_at c at) ≡ pick (eqb c 0) 0 1
one_code c at = by_test (eqb c 0) (λ t. rw t) (λ f. rw f)

at_most_one : (c at : ℕ) → length (code_at c at) ≤ 1
at_most_one c at = by_pick (λ (l : List Report). length l ≤ 1) (eqb c 0) (λ _. omega arith) (λ _. omega arith)

-- ---- primitives, and changes of the link

sends : (n : ℕ) (p : Phy) (at : ℕ) → valid_of p ≡ true → length (in_order sent_at at (log step_of p (ticks n))) + sends_left (after step_of p (ticks n)) ≤ sends_left p
sends zero p at v = omega arith
sends (suc n) p at v =
    let r = step_of p (plain tick) in
    let rest = in_order sent_at (suc at) (log step_of r.next (ticks n)) in
    omega (arith, length-append (code_at r.sent at) rest, one_code r.sent at, (ticking p v).sends, sends n r.next (suc at) (stays_valid p (plain tick) v))

changes : (n : ℕ) (p : Phy) → valid_of p ≡ true → link_changes p n + moves_left (after step_of p (ticks n)) ≤ moves_left p
changes zero p v = omega arith
changes (suc n) p v = omega (arith, (ticking p v).changes, changes n (step_of p (plain tick)).next (stays_valid p (plain tick) v))

-- ---- answers

as_many : (at : ℕ) (xs : List Entry) → length (in_order answer_at at xs) ≡ many answered xs
as_many at [] = refl
as_many at (x ∷ xs) =
    let c = x.result.answer in
    let e : ◌≡◌ {A = ℕ} (pick (eqb c 0) 0 1) (pick (not (eqb c 0)) 1 0) = by_test (eqb c 0) (λ t. rw t) (λ f. rw f) in
    omega (arith, length-append (code_at c at) (in_order answer_at (suc at) xs), one_code c at, as_many (suc at) xs)

none_accepted : (n : ℕ) (p : Phy) → many accepted (log step_of p (ticks n)) ≡ 0
none_accepted zero p = refl
none_accepted (suc n) p = omega (arith, none_accepted n (step_of p (plain tick)).next)

one_waits : (p : Phy) → one_if_waiting p ≤ 1
one_waits p = by_pick (λ (n : ℕ). n ≤ 1) (waits p.port) (λ _. omega arith) (λ _. omega arith)

pub answers : (n : ℕ) (p : Phy) → valid_of p ≡ true → many answered (log step_of p (ticks n)) ≤ 1
answers n p v = omega (arith, balances p (ticks n) v, none_accepted n p, one_waits p)

opens : (at : ℕ) (xs : List Entry) → length (in_order open_at at xs) ≡ length (in_order answer_at at xs)
opens at [] = refl
opens at (x ∷ xs) = by_test (eqb x.result.answer 0) (λ t. rw t (opens (suc at) xs)) (λ f. rw f (ap suc (opens (suc at) xs)))

-- ---- all together

pub at_most : AtMost
unfolding gap_of
at_most p n v =
    let l = log step_of p (ticks n) in
    let a = leg_of p n in
    let b = leg_of a.stepped.next (n - a.ticks) in
    let q = ap length (passed_reports p n v notice_at (λ _ _. refl)) in
    record {
      one_answer = omega (arith, as_many 1 l, answers n p v);
      its_open = opens 1 l;
      two_notices = omega (arith, length-append (code_at a.stepped.notice a.ticks) (code_at b.stepped.notice (a.ticks + b.ticks)), at_most_one a.stepped.notice a.ticks, at_most_one b.stepped.notice (a.ticks + b.ticks));
      one_sent = omega (arith, sends n p 1 v, few_sends p);
      two_changes = omega (arith, changes n p v, few_moves p);
    }
