-- A gap is its single ticks, each report at its own; and one gap after another is one, with the later reports delayed.
use Prim.Native.Nat.{ℕ, zero, suc, ◌+◌, ◌-◌}
use mathlib.Core.Bool.{◌&&◌}
use mathlib.Core.List.{List, [], ◌∷◌, ◌++◌, map, append-nil, map-append}
use mathlib.Core.Path.{◌≡◌, refl, sym, ap, ap₂, ◌∙◌}
use native.Mathlib.Numerals.{add-one}
use native.Mathlib.Omega.{arith}
use borrow.Author.Tests.{eq-eqb, ne_eqb, eqb-true, eqb-false, le-leb, lt-leb}
use lib.Dec.{eqb, leb}
use Rattle.table.specs.Choice.{pick}
use Rattle.table.proofs.Laws.{by_test, by_order}
use Rattle.event.specs.Names.{tick}
use Rattle.event.specs.declared.Open.{Open}
use Rattle.phy.specs.Step.{step_of}
use Rattle.phy.specs.declared.Phy.{Phy}
use Rattle.phy.specs.declared.Stepped.{Stepped}
use Rattle.ledger.specs.Log.{Entry, log, after}
use Rattle.ledger.specs.Demand.{plain}
use Rattle.bay.specs.Gap.{ticks, in_order, code_at, open_at, gap_of}
use Rattle.bay.specs.declared.Report.{Report}
use Rattle.bay.proofs.Legs.{after_ticks, order_ticks}
use Rattle.bay_laws.specs.Gaps.{tick_at, of_tick, HasOf, SingleTicks, delayed, GapsAdd}

-- ---- the reports at a tick

of_tick_append : (at : ℕ) (xs ys : List Report) → of_tick at (xs ++ ys) ≡ of_tick at xs ++ of_tick at ys
of_tick_append at [] ys = refl
of_tick_append at (r ∷ rs) ys =
    by_test (eqb r.tick at)
    (λ t. rw t (ap (λ (l : List Report). r ∷ l) (of_tick_append at rs ys)))
    (λ f. rw f (of_tick_append at rs ys))

-- of a code at one tick: itself there, and nothing elsewhere
of_tick_there : (c at : ℕ) → of_tick at (code_at c at) ≡ code_at c at
of_tick_there c at = by_test (eqb c 0) (λ t. rw t) (λ f. rw (f, eq-eqb at at refl))

of_tick_elsewhere : (c k at : ℕ) → (k ≡ at → ⊥) → of_tick at (code_at c k) ≡ []
of_tick_elsewhere c k at n = by_test (eqb c 0) (λ t. rw t) (λ f. rw (f, ne_eqb k at n))

module _ (code : Stepped → ℕ) (p : Phy) where
  abbrev coded : (at : ℕ) → Stepped → List Report
  coded at r = code_at (code r) at

  -- from tick k on
  abbrev From : (k m at : ℕ) → Type 0
  From k m at = of_tick at (in_order coded (suc k) (log step_of (after step_of p (ticks k)) (ticks m))) ≡ pick (leb (suc k) at && leb at (k + m)) (code_at (code (tick_at p at)) at) []

  next_tick : (k : ℕ) → (step_of (after step_of p (ticks k)) (plain tick)).next ≡ after step_of p (ticks (suc k))
  next_tick k = sym (ap (λ (n : ℕ). after step_of p (ticks n)) (sym (add-one k)) ∙ after_ticks p k 1)

  -- the first of them, and the others
  module _ (k m at : ℕ) (later : From (suc k) m at) where
    abbrev own : Stepped
    own = step_of (after step_of p (ticks k)) (plain tick)

    split : of_tick at (in_order coded (suc k) (log step_of (after step_of p (ticks k)) (ticks (suc m))))
        ≡ of_tick at (code_at (code own) (suc k)) ++ pick (leb (suc (suc k)) at && leb at (suc k + m)) (code_at (code (tick_at p at)) at) []
    split =
        of_tick_append at (code_at (code own) (suc k)) (in_order coded (suc (suc k)) (log step_of own.next (ticks m)))
        ∙ ap (λ (l : List Report). of_tick at (code_at (code own) (suc k)) ++ l) (ap (λ (q : Phy). of_tick at (in_order coded (suc (suc k)) (log step_of q (ticks m)))) (next_tick k) ∙ later)

    at_own : suc k ≡ at → From k (suc m) at
    at_own e =
        let j : at - 1 ≡ k = omega arith in
        let here : code (tick_at p at) ≡ code own = ap (λ (n : ℕ). code (step_of (after step_of p (ticks n)) (plain tick))) j in
        split
        ∙ rw (e, lt-leb (suc at) at (omega arith), le-leb at at (omega arith), le-leb at (k + suc m) (omega arith), here)
        (append-nil (of_tick at (code_at (code own) at)) ∙ of_tick_there (code own) at)

    at_other : (suc k ≡ at → ⊥) → From k (suc m) at
    at_other n =
        split
        ∙ rw (of_tick_elsewhere (code own) (suc k) at n)
        (by_order at (suc k)
        (λ l. rw (lt-leb (suc (suc k)) at (omega arith), lt-leb (suc k) at l))
        (λ g. rw (le-leb (suc (suc k)) at (omega (arith, n)), le-leb (suc k) at g) (ap (λ (j : ℕ). pick (leb at j) (code_at (code (tick_at p at)) at) []) (omega arith))))

  from : (m k at : ℕ) → From k m at
  from zero k at = by_order at (suc k) (λ l. rw (lt-leb (suc k) at l)) (λ g. rw (le-leb (suc k) at g, lt-leb at (k + 0) (omega arith)))
  from (suc m) k at =
      by_test (eqb (suc k) at) (λ t. at_own k m at (from m (suc k) at) (eqb-true (suc k) at t)) (λ f. at_other k m at (from m (suc k) at) (eqb-false (suc k) at f))

  has_of : (n : ℕ) → HasOf code p n (in_order coded 1 (log step_of p (ticks n)))
  has_of n at = from n 0 at ∙ ap (λ (j : ℕ). pick (leb 1 at && leb at j) (code_at (code (tick_at p at)) at) []) (omega arith)

pub single_ticks : SingleTicks
unfolding gap_of
single_ticks p n = record { answers = has_of (λ r. r.answer) p n; notices = has_of (λ r. r.notice) p n; sents = has_of (λ r. r.sent) p n }

-- ---- one gap after another

module _ (code : Stepped → ℕ) where
  delayed_code : (c m at : ℕ) → code_at c (m + at) ≡ map (delayed m) (code_at c at)
  delayed_code c m at = by_test (eqb c 0) (λ t. rw t) (λ f. rw f)

  delays : (m at : ℕ) (xs : List Entry) → in_order (λ k r. code_at (code r) k) (m + at) xs ≡ map (delayed m) (in_order (λ k r. code_at (code r) k) at xs)
  delays m at [] = refl
  delays m at (x ∷ xs) =
      ap₂ ◌++◌ (delayed_code (code x.result) m at) (ap (λ (k : ℕ). in_order (λ k r. code_at (code r) k) k xs) (omega arith) ∙ delays m (suc at) xs)
      ∙ sym (map-append (delayed m) (code_at (code x.result) at) (in_order (λ k r. code_at (code r) k) (suc at) xs))

  adds : (p : Phy) (m n : ℕ) → in_order (λ k r. code_at (code r) k) 1 (log step_of p (ticks (m + n)))
      ≡ in_order (λ k r. code_at (code r) k) 1 (log step_of p (ticks m)) ++ map (delayed m) (in_order (λ k r. code_at (code r) k) 1 (log step_of (after step_of p (ticks m)) (ticks n)))
  adds p m n =
      let behind = log step_of (after step_of p (ticks m)) (ticks n) in
      order_ticks (λ k r. code_at (code r) k) p 1 m n
      ∙ ap (λ (l : List Report). in_order (λ k r. code_at (code r) k) 1 (log step_of p (ticks m)) ++ l)
      (ap (λ (k : ℕ). in_order (λ k r. code_at (code r) k) k behind) (omega arith) ∙ delays m 1 behind)

-- an Open's place in the list is all that it has
opens_anywhere : (at k : ℕ) (xs : List Entry) → in_order open_at at xs ≡ in_order open_at k xs
opens_anywhere at k [] = refl
opens_anywhere at k (x ∷ xs) = ap (λ (l : List Open). open_at k x.result ++ l) (opens_anywhere (suc at) (suc k) xs)

pub gaps_add : GapsAdd
unfolding gap_of
gaps_add p m n =
    record {
      phy = after_ticks p m n;
      answers = adds (λ r. r.answer) p m n;
      opens = order_ticks open_at p 1 m n ∙ ap (λ (l : List Open). in_order open_at 1 (log step_of p (ticks m)) ++ l) (opens_anywhere (1 + m) 1 (log step_of (after step_of p (ticks m)) (ticks n)));
      notices = adds (λ r. r.notice) p m n;
      sents = adds (λ r. r.sent) p m n;
    }
