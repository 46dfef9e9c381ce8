-- A leg is so many single ticks, of which only the last reports anything; behind it no tick is left, or the link is nearer to rest.
use Rattle.std.proofs.Common.{◌≡◌, ℕ, suc, ◌+◌, ◌-◌, ◌<◌, ◌≤◌, true, false, ◌||◌, leb, ◌⊎◌, List, [], ◌∷◌, ◌++◌, length, sym, refl, ap, ◌∙◌, inl, inr, true≢false, append_assoc, append-nil, arith, le-leb, leb-false}
use borrow.Author.Tests.{lt-leb}
use lib.ListN.{length-replicate, replicate-append-replicate}
use Rattle.table.proofs.Laws.{by_test, by_pick}
use Rattle.event.specs.Names.{tick}
use Rattle.event.specs.declared.Event.{Event}
use Rattle.phy.specs.Shapes.{no_open, quiet}
use Rattle.phy.specs.State.{valid_of}
use Rattle.phy.specs.Ticks.{last_tick}
use Rattle.phy.specs.Step.{step_of}
use Rattle.phy.specs.declared.Phy.{Phy}
use Rattle.phy.specs.declared.Stepped.{Stepped}
use Rattle.phy_laws.specs.Waiting.{rests}
use Rattle.phy_laws.proofs.Ticking.{is_calm, ticked, moves_left}
use Rattle.phy_laws.proofs.Steps.{stays_valid}
use Rattle.phy_laws.proofs.Answers.{arguments_exactly}
use Rattle.ledger.specs.Log.{Entry, log, after}
use Rattle.ledger.specs.Demand.{plain}
use Rattle.ledger.proofs.Log.{after_append, log_append, length_log}
use Rattle.bay.specs.Gap.{ticks, in_order}
use Rattle.bay.specs.Legs.{calm, later, leg, leg_of}
use Rattle.bay.specs.declared.Leg.{Leg}
use Rattle.bay.proofs.Calm.{ticking, ticked_later, later_valid, calm_leads, calm_silent}

-- ---- ticks and then ticks

pub ticks_on : (m n : ℕ) → ticks (m + n) ≡ ticks m ++ ticks n
ticks_on m n = sym (replicate-append-replicate m n (plain tick))

pub after_ticks : (p : Phy) (m n : ℕ) → after step_of p (ticks (m + n)) ≡ after step_of (after step_of p (ticks m)) (ticks n)
after_ticks p m n = ap (after step_of p) (ticks_on m n) ∙ after_append step_of p (ticks m) (ticks n)

module _ {A : Type 0} (reported : ℕ → Stepped → List A) where
  in_order_append : (at : ℕ) (xs ys : List Entry) → in_order reported at (xs ++ ys) ≡ in_order reported at xs ++ in_order reported (at + length xs) ys
  in_order_append at [] ys = ap (λ (n : ℕ). in_order reported n ys) (omega arith)
  in_order_append at (x ∷ xs) ys =
      ap (λ (l : List A). reported at x.result ++ l) (in_order_append (suc at) xs ys)
      ∙ sym (append_assoc (reported at x.result) (in_order reported (suc at) xs) (in_order reported (suc at + length xs) ys))
      ∙ ap (λ (n : ℕ). reported at x.result ++ in_order reported (suc at) xs ++ in_order reported n ys) (omega arith)

  pub order_ticks : (p : Phy) (at m n : ℕ) → in_order reported at (log step_of p (ticks (m + n)))
      ≡ in_order reported at (log step_of p (ticks m)) ++ in_order reported (at + m) (log step_of (after step_of p (ticks m)) (ticks n))
  order_ticks p at m n =
      ap (λ (es : List Event). in_order reported at (log step_of p es)) (ticks_on m n)
      ∙ ap (in_order reported at) (log_append step_of p (ticks m) (ticks n))
      ∙ in_order_append at (log step_of p (ticks m)) (log step_of (after step_of p (ticks m)) (ticks n))
      ∙ ap (λ (k : ℕ). in_order reported at (log step_of p (ticks m)) ++ in_order reported (at + k) (log step_of (after step_of p (ticks m)) (ticks n)))
      (length_log step_of p (ticks m) ∙ length-replicate m (plain tick))

-- ---- a leg

pub record Passes (p : Phy) (n : ℕ) (l : Leg) : Type 0 where
  pub leads : after step_of p (ticks l.ticks) ≡ l.stepped.next
  pub valid : valid_of l.stepped.next ≡ true
  pub few : l.ticks ≤ n
  pub nearer : (l.ticks ≡ n) ⊎ (moves_left l.stepped.next < moves_left p)
  pub none : l.stepped.answer ≡ 0 → l.stepped.answered ≡ no_open

-- where it does not take all ticks, the one behind its calm ones moves the link
module _ (p : Phy) (n : ℕ) (f : rests p.link || leb n (calm p) ≡ false) where
  none_rests : rests p.link ≡ false
  none_rests = by_test (rests p.link) (λ t. absurd (true≢false (rw t at f))) (λ r. r)

  pub enough : calm p < n
  enough = leb-false n (calm p) (rw none_rests at f)

  calm_first : rests p.link || leb (calm p) (calm p) ≡ true
  calm_first = rw (none_rests, le-leb (calm p) (calm p) (omega arith))

  then_moves : is_calm (later p (calm p)) ≡ false
  unfolding later
  then_moves = rw (none_rests) (lt-leb 2 (p.timer - (p.timer - 1)) (omega arith))

module _ (p : Phy) (n : ℕ) (v : valid_of p ≡ true) where
  pub passes : Passes p n (leg_of p n)
  unfolding leg_of later
  passes =
      by_pick (Passes p n) (rests p.link || leb n (calm p))
      (λ t. record { leads = calm_leads p v n t; valid = later_valid p v n t; few = omega arith; nearer = inl refl; none = λ _. refl })
      (λ f. let c = calm_first p n f in
      let w = later_valid p v (calm p) c in
      record {
        leads = after_ticks p (calm p) 1 ∙ ap (λ (q : Phy). (step_of q (plain tick)).next) (calm_leads p v (calm p) c);
        valid = stays_valid (later p (calm p)) (plain tick) w;
        few = omega (arith, enough p n f);
        nearer = inr ((ticking (later p (calm p)) w).moves (then_moves p n f));
        none = (arguments_exactly (later p (calm p)) (plain tick)).1;
      })

  -- what the code's leg gives, by its test
  pub whole : {r : Stepped} → rests p.link || leb n (calm p) ≡ true → r ≡ quiet (later p n) → leg r n ≡ leg_of p n
  unfolding leg_of
  whole t e = rw (t, e)

  pub partly : {r : Stepped} → rests p.link || leb n (calm p) ≡ false → r ≡ last_tick (later p (calm p + 1)) → leg r (calm p + 1) ≡ leg_of p n
  unfolding leg_of
  partly {r} f e =
      let w = later_valid p v (calm p) (calm_first p n f) in
      let q : ticked (later p (calm p)) ≡ later p (calm p + 1) = ticked_later p (calm p) ∙ ap (later p) (omega arith) in
      rw f (ap (λ (s : Stepped). leg s (calm p + 1)) (e ∙ ap last_tick (sym q) ∙ sym ((ticking (later p (calm p)) w).last (then_moves p n f))))

  pub reports : {A : Type 0} (reported : ℕ → Stepped → List A) → ((at : ℕ) (q : Phy) → reported at (quiet q) ≡ []) → (at : ℕ)
      → in_order reported (suc at) (log step_of p (ticks (leg_of p n).ticks)) ≡ reported (at + (leg_of p n).ticks) (leg_of p n).stepped
  unfolding leg_of
  reports reported silent at =
      by_pick (λ (l : Leg). in_order reported (suc at) (log step_of p (ticks l.ticks)) ≡ reported (at + l.ticks) l.stepped) (rests p.link || leb n (calm p))
      (λ t. calm_silent p v reported silent n (suc at) t ∙ sym (silent (at + n) (later p n)))
      (λ f. let c = calm_first p n f in
      order_ticks reported p (suc at) (calm p) 1
      ∙ rw (calm_silent p v reported silent (calm p) (suc at) c, calm_leads p v (calm p) c)
      (append-nil (reported (suc at + calm p) (step_of (later p (calm p)) (plain tick))) ∙ ap (λ (k : ℕ). reported k (step_of (later p (calm p)) (plain tick))) (omega arith)))
