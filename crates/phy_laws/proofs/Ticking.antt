-- One tick of a valid phy, at each of the twelve shapes: it leaves the link alone, or moves it nearer to rest.
use Prim.Native.Nat.{ℕ, ◌+◌, ◌-◌, ◌*◌, ◌≤◌, ◌<◌}
use mathlib.Core.Bool.{Bool, true, false, ◌||◌, false≢true}
use mathlib.Core.List.{[], ◌∷◌}
use mathlib.Core.Path.{◌≡◌, refl, sym, ap, ◌∙◌}
use native.Mathlib.Omega.{arith}
use borrow.Author.Tests.{eqb-true, leb-true, leb-false}
use lib.Dec.{eqb, leb}
use Rattle.table.specs.Choice.{pick, ◌⇒◌, rows}
use Rattle.table.specs.Flags.{is_on}
use Rattle.table.proofs.Laws.{by_pick, every}
use Rattle.phy.specs.Names.{L0, L1, L2, L3, L4, L5, full_timer}
use Rattle.phy.specs.Shapes.{with_timer, quiet}
use Rattle.phy.specs.State.{valid_of}
use Rattle.phy.specs.Moves.{to_idle}
use Rattle.phy.specs.Ticks.{aged, tick_requesting, tick_closing, tick_breaking, accepted, tick_selected, on_tick_aged, last_tick, on_tick}
use Rattle.phy.specs.declared.Phy.{Phy}
use Rattle.phy.specs.declared.Stepped.{Stepped}
use Rattle.phy_laws.specs.Waiting.{rests}
use Rattle.phy_laws.proofs.Shapes.{Fields, phy_of, by_shape}
use Rattle.phy_laws.proofs.OneStep.{at_least_one, at_most_full}
use Rattle.phy_laws.proofs.InUse.{runs}

-- the next tick does not move the link
abbrev pub is_calm : Phy → Bool
is_calm p = rests p.link || leb 2 p.timer

-- the phy after a tick that does not
abbrev pub ticked : Phy → Phy
ticked p = with_timer (aged p) (p.timer - 1)

-- how often ticks may yet move the link, and send something
abbrev pub moves_left : Phy → ℕ
moves_left p = rows p.link ((L0 ⇒ 0) ∷ (L3 ⇒ 0) ∷ (L1 ⇒ 2) ∷ (L4 ⇒ 2) ∷ []) 1

abbrev pub sends_left : Phy → ℕ
sends_left p = rows p.link ((L1 ⇒ 1) ∷ (L2 ⇒ 1) ∷ (L4 ⇒ 1) ∷ []) 0

-- and how many come before it rests
abbrev pub ticks_left : Phy → ℕ
ticks_left p =
    rows p.link ((L0 ⇒ 0) ∷ (L3 ⇒ 0) ∷ (L1 ⇒ p.timer + full_timer) ∷ (L4 ⇒ p.timer + full_timer) ∷ (L5 ⇒ p.timer) ∷ []) 1

pub few_sends : (p : Phy) → sends_left p ≤ 1
few_sends p =
    every (λ (n : ℕ). n ≤ 1) p.link ((L1 ⇒ 1) ∷ (L2 ⇒ 1) ∷ (L4 ⇒ 1) ∷ [])
    (omega arith, (omega arith, (omega arith, tt)))
    (omega arith)

pub few_moves : (p : Phy) → moves_left p ≤ 2
few_moves p =
    every (λ (n : ℕ). n ≤ 2) p.link ((L0 ⇒ 0) ∷ (L3 ⇒ 0) ∷ (L1 ⇒ 2) ∷ (L4 ⇒ 2) ∷ [])
    (omega arith, (omega arith, (omega arith, (omega arith, tt))))
    (omega arith)

-- what one tick gives
pub record Ticking (p : Phy) (r : Stepped) : Type 0 where
  pub rests : moves_left p ≡ 0 → r ≡ quiet p
  pub calm : is_calm p ≡ true → r ≡ quiet (ticked p)
  pub last : is_calm p ≡ false → r ≡ last_tick (ticked p)
  pub moves : is_calm p ≡ false → moves_left r.next < moves_left p
  pub changes : pick (eqb p.link r.next.link) 0 1 + moves_left r.next ≤ moves_left p
  pub sends : pick (eqb r.sent 0) 0 1 + sends_left r.next ≤ sends_left p
  pub nears : ticks_left r.next ≡ ticks_left p - 1

-- 2,000 ticks are left at most, and none only at rest
pub distance : (p : Phy) → valid_of p ≡ true → (ticks_left p ≤ 2 * full_timer) × (ticks_left p ≡ 0 → moves_left p ≡ 0)
distance =
    by_shape (λ p. (ticks_left p ≤ 2 * full_timer) × (ticks_left p ≡ 0 → moves_left p ≡ 0))
    (λ f v. (omega arith, λ _. refl)) (λ f v. (omega arith, λ z. omega arith)) (λ f v. (omega arith, λ z. omega arith))
    (λ f v. (omega (arith, at_most_full f.timer (runs refl v)), λ z. omega arith)) (λ f v. (omega arith, λ z. omega arith)) (λ f v. (omega arith, λ z. omega arith))
    (λ f v. (omega arith, λ _. refl)) (λ f v. (omega (arith, at_most_full f.timer (runs refl v)), λ z. omega arith))
    (λ f v. (omega (arith, at_most_full f.timer (runs refl v)), λ z. omega (arith, at_least_one f.timer (runs refl v)))) (λ f v. (omega arith, λ z. omega arith))
    (λ f v. (omega (arith, at_most_full f.timer (runs refl v)), λ z. omega (arith, at_least_one f.timer (runs refl v)))) (λ f v. (omega arith, λ z. omega arith))

-- a timer that does not run
stopped : (t : ℕ) → eqb t 0 ≡ true → t ≡ t - 1
stopped t e = omega (arith, eqb-true t 0 e)

-- it is not the timer of a calm tick
none_runs : {A : Type 0} (t : ℕ) → eqb t 0 ≡ true → leb 2 t ≡ true → A
none_runs t e c = absurd (omega (arith, eqb-true t 0 e, leb-true 2 t c))

-- nor is one that is over, and one that is not is
over_runs : {A : Type 0} (t : ℕ) → leb t 1 ≡ true → leb 2 t ≡ true → A
over_runs t o c = absurd (omega (arith, leb-true t 1 o, leb-true 2 t c))

runs_on : {A : Type 0} (t : ℕ) → leb t 1 ≡ false → leb 2 t ≡ false → A
runs_on t u c = absurd (omega (arith, leb-false t 1 u, leb-false 2 t c))

-- at rest a tick changes nothing; with no timer it moves the link at once; a timer runs on, or is over and moves it
module _ (link port : ℕ) (f : Fields) where
  abbrev here : Phy
  here = phy_of link port f

  -- what every tick takes from what is left
  abbrev Takes : Stepped → Type 0
  Takes r =
      (pick (eqb link r.next.link) 0 1 + moves_left r.next ≤ moves_left here) × (pick (eqb r.sent 0) 0 1 + sends_left r.next ≤ sends_left here)
      × (ticks_left r.next ≡ ticks_left here - 1)

  -- one of a link that rests, and no request waits longer
  at_rest : {r : Stepped} → rests link ≡ true → eqb f.timer 0 ≡ true → aged here ≡ here → r ≡ quiet here → Takes r → Ticking here r
  at_rest a t g e n =
      record {
        rests = λ _. e;
        calm = λ _. e ∙ ap (λ (k : ℕ). quiet (with_timer here k)) (stopped f.timer t) ∙ ap (λ (q : Phy). quiet (with_timer q (f.timer - 1))) (sym g);
        last = λ c. absurd (false≢true (sym (rw a at c)));
        moves = λ c. absurd (false≢true (sym (rw a at c)));
        changes = n.0;
        sends = n.1;
        nears = n.2;
      }

  -- one that moves it
  moves_it : {r : Stepped} → (is_calm here ≡ true → ⊥) → r ≡ last_tick (ticked here) → moves_left r.next < moves_left here → Takes r → Ticking here r
  moves_it c e m n = record { rests = λ z. absurd (omega (arith, m)); calm = λ q. absurd (c q); last = λ _. e; moves = λ _. m; changes = n.0; sends = n.1; nears = n.2 }

  at_once : {r : Stepped} → rests link ≡ false → eqb f.timer 0 ≡ true → r ≡ last_tick (ticked here) → moves_left r.next < moves_left here → Takes r → Ticking here r
  at_once a t = moves_it (λ c. none_runs f.timer t (rw a at c))

  is_over : {r : Stepped} → rests link ≡ false → leb f.timer 1 ≡ true → r ≡ last_tick (ticked here) → moves_left r.next < moves_left here → Takes r → Ticking here r
  is_over a o = moves_it (λ c. over_runs f.timer o (rw a at c))

  -- one that lets its timer run on
  runs_down : {r : Stepped} → rests link ≡ false → leb f.timer 1 ≡ false → (moves_left here ≡ 0 → ⊥) → r ≡ quiet (ticked here) → Takes r → Ticking here r
  runs_down a u m e n = record { rests = λ z. absurd (m z); calm = λ _. e; last = λ c. runs_on f.timer u (rw a at c); moves = λ c. runs_on f.timer u (rw a at c); changes = n.0; sends = n.1; nears = n.2 }

pub tick_at : (p : Phy) → valid_of p ≡ true → Ticking p (on_tick p)
unfolding on_tick last_tick on_tick_aged aged tick_requesting tick_closing tick_breaking tick_selected accepted to_idle
tick_at =
    by_shape (λ p. Ticking p (on_tick p))
    (λ f v. at_rest 0 1 f refl v.timer refl refl (omega arith, omega arith, refl))
    (λ f v. by_pick (Ticking (phy_of 2 1 f)) (is_on f.settings.accept)
    (λ t. at_once 2 1 f refl v.timer (rw t) (omega arith) (omega arith, omega arith, refl))
    (λ t. at_once 2 1 f refl v.timer (rw t) (omega arith) (omega arith, omega arith, refl)))
    (λ f v. at_once 6 1 f refl v.timer refl (omega arith) (omega arith, omega arith, refl))
    (λ f v. by_pick (Ticking (phy_of 1 2 f)) (leb f.timer 1)
    (λ o. is_over 1 2 f refl o refl (omega arith) (omega arith, omega arith, omega (arith, at_least_one f.timer (runs refl v), leb-true f.timer 1 o)))
    (λ u. runs_down 1 2 f refl u (λ z. omega arith) refl (omega arith, omega arith, omega (arith, leb-false f.timer 1 u))))
    (λ f v. by_pick (Ticking (phy_of 2 2 f)) (is_on f.settings.accept)
    (λ t. at_once 2 2 f refl v.timer (rw t) (omega arith) (omega arith, omega arith, refl))
    (λ t. at_once 2 2 f refl v.timer (rw t) (omega arith) (omega arith, omega arith, refl)))
    (λ f v. at_once 6 2 f refl v.timer refl (omega arith) (omega arith, omega arith, refl))
    (λ f v. at_rest 3 3 f refl v.timer refl refl (omega arith, omega arith, refl))
    (λ f v. by_pick (Ticking (phy_of 4 3 f)) (leb f.timer 1)
    (λ o. is_over 4 3 f refl o refl (omega arith) (omega arith, omega arith, omega (arith, at_least_one f.timer (runs refl v), leb-true f.timer 1 o)))
    (λ u. runs_down 4 3 f refl u (λ z. omega arith) refl (omega arith, omega arith, omega (arith, leb-false f.timer 1 u))))
    (λ f v. by_pick (Ticking (phy_of 5 3 f)) (leb f.timer 1)
    (λ o. is_over 5 3 f refl o refl (omega arith) (omega arith, omega arith, omega (arith, leb-true f.timer 1 o)))
    (λ u. runs_down 5 3 f refl u (λ z. omega arith) refl (omega arith, omega arith, refl)))
    (λ f v. at_once 6 3 f refl v.timer refl (omega arith) (omega arith, omega arith, refl))
    (λ f v. by_pick (Ticking (phy_of 5 4 f)) (leb f.timer 1)
    (λ o. is_over 5 4 f refl o refl (omega arith) (omega arith, omega arith, omega (arith, leb-true f.timer 1 o)))
    (λ u. runs_down 5 4 f refl u (λ z. omega arith) refl (omega arith, omega arith, refl)))
    (λ f v. at_once 6 4 f refl v.timer refl (omega arith) (omega arith, omega arith, refl))
