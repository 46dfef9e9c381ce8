-- Ticks that do not move the link: they report nothing, and n of them lead to `later`.
use Rattle.std.proofs.Common.{◌≡◌, ℕ, zero, suc, ◌-◌, ◌<◌, ◌≤◌, true, ◌||◌, eqb, leb, List, [], ◌++◌, sym, refl, ap, ◌∙◌, subst, ⊎_elim, add-one, arith, eqb-true, le-leb, leb-true}
use Rattle.table.proofs.Laws.{by_test}
use Rattle.event.specs.Names.{tick, most_wait}
use Rattle.event.specs.Table.{argument_range, arguments_known, known_of}
use Rattle.phy.specs.Names.{P2, most_part}
use Rattle.phy.specs.Shapes.{with_timer, with_waited, quiet}
use Rattle.phy.specs.State.{valid_part, valid_of}
use Rattle.phy.specs.Ticks.{waited_of, aged, on_tick}
use Rattle.phy.specs.Step.{move_of, step_of}
use Rattle.phy.specs.declared.Phy.{Phy}
use Rattle.phy.specs.declared.Stepped.{Stepped}
use Rattle.phy_laws.specs.Waiting.{rests}
use Rattle.phy_laws.proofs.Shapes.{facts}
use Rattle.phy_laws.proofs.OneStep.{wait_known}
use Rattle.phy_laws.proofs.InUse.{part_in_use}
use Rattle.phy_laws.proofs.Ticking.{is_calm, ticked, Ticking, tick_at}
use Rattle.phy_laws.proofs.Steps.{stays_valid}
use Rattle.phy_laws.proofs.Answers.{request_known}
use Rattle.ledger.specs.Log.{log, after}
use Rattle.ledger.specs.Wait.{waited_for, InP2}
use Rattle.ledger.specs.Demand.{plain}
use Rattle.ledger.proofs.Wait.{waited_none, longer_waited}
use Rattle.bay.specs.Gap.{ticks, in_order}
use Rattle.bay.specs.Legs.{calm, later}

-- ---- one tick

tick_known : known_of (plain tick) ≡ true
unfolding known_of arguments_known argument_range
tick_known = refl

-- a valid phy takes a tick
takes_tick : (p : Phy) → valid_of p ≡ true → step_of p (plain tick) ≡ on_tick p
unfolding step_of move_of
takes_tick p v = rw (v, tick_known)

pub ticking : (p : Phy) → valid_of p ≡ true → Ticking p (step_of p (plain tick))
ticking p v = subst (Ticking p) (sym (takes_tick p v)) (tick_at p v)

-- ---- phys each of which a tick takes to the next, with nothing to report

abbrev Still : (S : ℕ → Phy) (n : ℕ) → Type 0
Still S n = (j : ℕ) → j < n → step_of (S j) (plain tick) ≡ quiet (S (suc j))

pub still_leads : (S : ℕ → Phy) (n : ℕ) → Still S n → after step_of (S 0) (ticks n) ≡ S n
still_leads S zero h = refl
still_leads S (suc n) h =
    ap (λ (r : Stepped). after step_of r.next (ticks n)) (h 0 (omega arith))
    ∙ still_leads (λ j. S (suc j)) n (λ j l. h (suc j) (omega arith))

module _ {A : Type 0} (reported : ℕ → Stepped → List A) (silent : (at : ℕ) (p : Phy) → reported at (quiet p) ≡ []) where
  pub still_silent : (S : ℕ → Phy) (n at : ℕ) → Still S n → in_order reported at (log step_of (S 0) (ticks n)) ≡ []
  still_silent S zero at h = refl
  still_silent S (suc n) at h =
      ap (λ (r : Stepped). reported at r ++ in_order reported (suc at) (log step_of r.next (ticks n))) (h 0 (omega arith))
      ∙ rw (silent at (S 1)) (still_silent (λ j. S (suc j)) n (suc at) (λ j l. h (suc j) (omega arith)))

-- ---- the closed form

-- a request in P2 has a wait and a part in their ranges
pub in_P2 : (p : Phy) → valid_of p ≡ true → eqb p.port P2 ≡ true → InP2 (waited_of p)
in_P2 p v t =
    let e : p.port ≡ P2 = eqb-true p.port P2 t in
    record {
      wait = wait_known p.request (request_known p v (rw t));
      part = subst (λ (port : ℕ). valid_part port p.request.wait p.part ≡ true) e (facts p v).1.part;
    }

-- and so its microseconds can be counted
pub counted : (p : Phy) → valid_of p ≡ true → eqb p.port P2 ≡ true → (p.request.wait ≤ most_wait) × (p.part ≤ most_part)
counted p v t = ((in_P2 p v t).wait, ⊎_elim (λ z. omega arith) (λ u. u.3) (part_in_use p v))

later_none : (p : Phy) → valid_of p ≡ true → later p 0 ≡ p
unfolding later
later_none p v =
    let t : p.timer - 0 ≡ p.timer = omega arith in
    by_test (eqb p.port P2)
    (λ y. rw y (λ i. with_timer (with_waited p (waited_none (waited_of p) (in_P2 p v y) i)) (t i)))
    (λ f. rw f (ap (with_timer p) t))

pub ticked_later : (p : Phy) (n : ℕ) → ticked (later p n) ≡ later p (suc n)
unfolding later aged
ticked_later p n =
    let t : p.timer - n - 1 ≡ p.timer - suc n = omega arith in
    by_test (eqb p.port P2)
    (λ y. rw y (λ i. with_timer (with_waited p ((longer_waited (waited_of p) n ∙ ap (waited_for (waited_of p)) (add-one n)) i)) (t i)))
    (λ f. rw f (ap (with_timer p) t))

-- ---- n ticks of a phy that rests, or whose timer runs longer

module _ (p : Phy) (v : valid_of p ≡ true) where
  abbrev CalmFor : ℕ → Type 0
  CalmFor n = rests p.link || leb n (calm p) ≡ true

  fewer : (j n : ℕ) → j ≤ n → CalmFor n → CalmFor j
  fewer j n l h = by_test (rests p.link) (λ t. rw t) (λ f. rw f (le-leb j (calm p) (omega (arith, leb-true n (calm p) (rw f at h)))))

  still_calm : (j n : ℕ) → j < n → CalmFor n → is_calm (later p j) ≡ true
  unfolding later
  still_calm j n l h = by_test (rests p.link) (λ t. rw t) (λ f. rw f (le-leb 2 (p.timer - j) (omega (arith, leb-true n (calm p) (rw f at h)))))

  -- each of them leads one further
  one_later : (j n : ℕ) → j < n → CalmFor n → valid_of (later p j) ≡ true → step_of (later p j) (plain tick) ≡ quiet (later p (suc j))
  one_later j n l h w = (ticking (later p j) w).calm (still_calm j n l h) ∙ ap quiet (ticked_later p j)

  pub later_valid : (n : ℕ) → CalmFor n → valid_of (later p n) ≡ true
  later_valid zero h = rw (later_none p v) v
  later_valid (suc n) h =
      let w = later_valid n (fewer n (suc n) (omega arith) h) in
      subst (λ (r : Stepped). valid_of r.next ≡ true) (one_later n (suc n) (omega arith) h w) (stays_valid (later p n) (plain tick) w)

  all_still : (n : ℕ) → CalmFor n → Still (later p) n
  all_still n h j l = one_later j n l h (later_valid j (fewer j n (omega arith) h))

  pub calm_leads : (n : ℕ) → CalmFor n → after step_of p (ticks n) ≡ later p n
  calm_leads n h = subst (λ (q : Phy). after step_of q (ticks n) ≡ later p n) (later_none p v) (still_leads (later p) n (all_still n h))

  pub calm_silent : {A : Type 0} (reported : ℕ → Stepped → List A) → ((at : ℕ) (q : Phy) → reported at (quiet q) ≡ []) → (n at : ℕ) → CalmFor n
      → in_order reported at (log step_of p (ticks n)) ≡ []
  calm_silent reported silent n at h =
      subst (λ (q : Phy). in_order reported at (log step_of q (ticks n)) ≡ []) (later_none p v) (still_silent reported silent (later p) n at (all_still n h))
