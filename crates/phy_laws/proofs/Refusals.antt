-- Each refusal exactly when the paper's table says: what a known event is judged to be, at each of the fifteen.
use Prim.Native.Nat.{ℕ}
use mathlib.Core.Bool.{true, false}
use mathlib.Core.List.{[], ◌∷◌}
use mathlib.Core.Logic.{◌⊎◌, inl, inr, ⊎_elim}
use mathlib.Core.Path.{◌≡◌, refl, sym, subst}
use native.Mathlib.Omega.{arith}
use borrow.Author.Tests.{eqb-true, eqb-false}
use lib.Dec.{eqb, leb}
use Rattle.table.specs.Choice.{◌⇒◌, rows}
use Rattle.table.specs.Flags.{is_on}
use Rattle.table.specs.Refusals.{bad_state, bad_event, busy, nothing_pending, not_connected, wrong_protocol}
use Rattle.table.proofs.Laws.{by_pick, every}
use Rattle.event.specs.Names.{SMP}
use Rattle.event.specs.Table.{known_of, open_of}
use Rattle.event.specs.declared.Event.{Event}
use Rattle.phy.specs.Names.{L3, P1, P2}
use Rattle.phy.specs.State.{valid_of}
use Rattle.phy.specs.Shapes.{refused}
use Rattle.phy.specs.Moves.{idle_rows, to_idle, tx_open_rows, open_by_link, on_tx_open, cancel_rows, on_cancel_open, on_close_connection, on_smp_transmit_break, on_accept, open_rows, on_open_received, open_accept_rows, on_open_accept, open_reject_rows, on_open_reject, aip_rows, on_aip, break_rows, on_break, close_rows, on_close, reset_rows, on_reset}
use Rattle.phy.specs.Ticks.{aged, tick_requesting, tick_closing, tick_breaking, accept_rows, accepted, tick_selected, tick_rows, on_tick_aged, on_tick}
use Rattle.phy.specs.Step.{move_of, step_of}
use Rattle.phy.specs.declared.Phy.{Phy}
use Rattle.phy.specs.declared.Stepped.{Stepped}
use Rattle.phy_laws.specs.Laws.{Judged, StepIsMove, BadStateExactly, BadEventExactly, BusyExactly, NothingPendingExactly, NotConnectedExactly, WrongProtocolExactly, Free, NotRefusedExactly, RefusedKeeps}
use Rattle.phy_laws.proofs.ByEvent.{event, by_code, code_known_lem}
use Rattle.phy_laws.proofs.Steps.{by_way}

-- ---- moves that refuse nothing

abbrev Taken : Stepped → Type 0
Taken r = r.refusal ≡ 0

idle_taken : (p : Phy) (sent : ℕ) → Taken (to_idle p sent)
unfolding to_idle
idle_taken p sent = every Taken p.port (idle_rows p sent) (refl, (refl, (refl, tt))) refl

tick_taken : (p : Phy) → Taken (on_tick_aged p)
unfolding on_tick_aged tick_requesting tick_closing tick_breaking tick_selected accepted
tick_taken p =
    every Taken p.link (tick_rows p) (
      by_pick Taken (leb p.timer 1) (λ _. refl) (λ _. refl),
      (
        by_pick Taken (leb p.timer 1) (λ _. refl) (λ _. refl),
        (
          by_pick Taken (leb p.timer 1) (λ _. idle_taken p 0) (λ _. refl),
          (
            idle_taken p 0,
            (
              by_pick Taken (is_on p.settings.accept) (λ _. every Taken p.port (accept_rows p) (refl, tt) refl) (λ _. idle_taken p 3),
              tt,
            ),
          ),
        ),
      ),
    )
    refl

-- ---- the judgement of a known event

data Judgement (p : Phy) (e : Event) : Stepped → Type 0 where
  taken : {r : Stepped} → Free p e → Taken r → Judgement p e r
  is_busy : e.code ≡ 1 → (p.port ≡ P1 → ⊥) → Judgement p e (refused p busy)
  is_idle : e.code ≡ 2 → (p.port ≡ P2 → ⊥) → Judgement p e (refused p nothing_pending)
  is_apart : (e.code ≡ 3) ⊎ (e.code ≡ 4) → (p.link ≡ L3 → ⊥) → Judgement p e (refused p not_connected)
  is_other : e.code ≡ 4 → p.link ≡ L3 → (p.connectionProtocol ≡ SMP → ⊥) → Judgement p e (refused p wrong_protocol)

-- at each code
module _ (p : Phy) (a b c d g h : ℕ) where
  open_judged : Judgement p (event 1 a b c d g h) (on_tx_open p (event 1 a b c d g h))
  unfolding on_tx_open open_by_link
  open_judged =
      by_pick (Judgement p (event 1 a b c d g h)) (eqb p.port P1)
      (λ t. taken (record { opens = λ _. eqb-true p.port P1 t; cancels = λ x. absurd (omega arith); closes = λ x. absurd (omega arith); breaks = λ x. absurd (omega arith); protocol = λ x. absurd (omega arith) })
      (every Taken p.link (tx_open_rows p (open_of (event 1 a b c d g h))) (refl, (refl, (refl, tt))) refl))
      (λ f. is_busy refl (eqb-false p.port P1 f))

  cancel_judged : Judgement p (event 2 a b c d g h) (on_cancel_open p)
  unfolding on_cancel_open
  cancel_judged =
      by_pick (Judgement p (event 2 a b c d g h)) (eqb p.port P2)
      (λ t. taken (record { opens = λ x. absurd (omega arith); cancels = λ _. eqb-true p.port P2 t; closes = λ x. absurd (omega arith); breaks = λ x. absurd (omega arith); protocol = λ x. absurd (omega arith) })
      (every Taken p.link (cancel_rows p) (refl, tt) refl))
      (λ f. is_idle refl (eqb-false p.port P2 f))

  close_judged : Judgement p (event 3 a b c d g h) (on_close_connection p)
  unfolding on_close_connection
  close_judged =
      by_pick (Judgement p (event 3 a b c d g h)) (eqb p.link L3)
      (λ t. taken (record { opens = λ x. absurd (omega arith); cancels = λ x. absurd (omega arith); closes = λ _. eqb-true p.link L3 t; breaks = λ x. absurd (omega arith); protocol = λ x. absurd (omega arith) })
      (by_pick Taken (is_on p.farClosed) (λ _. refl) (λ _. refl)))
      (λ f. is_apart (inl refl) (eqb-false p.link L3 f))

  break_judged : Judgement p (event 4 a b c d g h) (on_smp_transmit_break p)
  unfolding on_smp_transmit_break
  break_judged =
      by_pick (Judgement p (event 4 a b c d g h)) (eqb p.link L3)
      (λ t. by_pick (Judgement p (event 4 a b c d g h)) (eqb p.connectionProtocol SMP)
      (λ s. taken (record { opens = λ x. absurd (omega arith); cancels = λ x. absurd (omega arith); closes = λ x. absurd (omega arith); breaks = λ _. eqb-true p.link L3 t; protocol = λ _. eqb-true p.connectionProtocol SMP s }) refl)
      (λ s. is_other refl (eqb-true p.link L3 t) (eqb-false p.connectionProtocol SMP s)))
      (λ f. is_apart (inr refl) (eqb-false p.link L3 f))

judged : (p : Phy) (e : Event) → known_of e ≡ true → Judgement p e (move_of p e)
unfolding move_of on_accept on_open_received on_open_accept on_open_reject on_aip on_break on_close on_tick on_reset
judged p e =
    let a = e.first in
    let b = e.second in
    let c = e.third in
    let d = e.fourth in
    let g = e.fifth in
    let h = e.sixth in
    λ k. by_code (λ code. Judgement p (event code a b c d g h) (move_of p (event code a b c d g h)))
    (open_judged p a b c d g h)
    (cancel_judged p a b c d g h)
    (close_judged p a b c d g h)
    (break_judged p a b c d g h)
    (taken (omega arith) refl)
    (taken (omega arith) refl)
    (taken (omega arith) (every Taken p.link (open_rows p (event 7 a b c d g h)) (refl, (refl, tt)) refl))
    (taken (omega arith) (every Taken p.link (open_accept_rows p) (refl, tt) refl))
    (taken (omega arith) (every Taken p.link (open_reject_rows p (event 9 a b c d g h)) (refl, (idle_taken p 0, tt)) refl))
    (taken (omega arith) (every Taken p.link (aip_rows p) (refl, tt) refl))
    (taken (omega arith) (every Taken p.link (break_rows p) (refl, (refl, (refl, (refl, (idle_taken p 0, tt))))) refl))
    (taken (omega arith) (every Taken p.link (close_rows p) (refl, (refl, tt)) refl))
    (taken (omega arith) (tick_taken (aged p)))
    (taken (omega arith) (every Taken p.port (reset_rows p) (refl, (refl, (refl, tt))) refl))
    (taken (omega arith) (every Taken p.port (reset_rows p) (refl, (refl, (refl, tt))) refl))
    e.code (code_known_lem e k)

-- ---- why a number is given, and that it is given there

abbrev Why : Phy → Event → ℕ → Type 0
Why p e n =
    rows n
    ((0 ⇒ Free p e)
    ∷ (busy ⇒ ((e.code ≡ 1) × (p.port ≡ P1 → ⊥)))
    ∷ (nothing_pending ⇒ ((e.code ≡ 2) × (p.port ≡ P2 → ⊥)))
    ∷ (not_connected ⇒ (((e.code ≡ 3) ⊎ (e.code ≡ 4)) × (p.link ≡ L3 → ⊥)))
    ∷ (wrong_protocol ⇒ ((e.code ≡ 4) × (p.link ≡ L3) × (p.connectionProtocol ≡ SMP → ⊥)))
    ∷ [])
    ⊥

why : {p : Phy} {e : Event} {r : Stepped} → Judgement p e r → Why p e r.refusal
why {p} {e} (taken f z) = subst (Why p e) (sym z) f
why (is_busy c n) = (c, n)
why (is_idle c n) = (c, n)
why (is_apart c n) = (c, n)
why (is_other c l n) = (c, l, n)

-- a taken event has none of the reasons, and of two reasons one fails
give_busy : {p : Phy} {e : Event} {r : Stepped} → Judgement p e r → e.code ≡ 1 → (p.port ≡ P1 → ⊥) → r.refusal ≡ busy
give_busy (taken f z) c n = absurd (n (f.opens c))
give_busy (is_busy _ _) c n = refl
give_busy (is_idle d _) c n = absurd (omega arith)
give_busy (is_apart d _) c n = absurd (⊎_elim (λ x. omega arith) (λ x. omega arith) d)
give_busy (is_other d _ _) c n = absurd (omega arith)

give_idle : {p : Phy} {e : Event} {r : Stepped} → Judgement p e r → e.code ≡ 2 → (p.port ≡ P2 → ⊥) → r.refusal ≡ nothing_pending
give_idle (taken f z) c n = absurd (n (f.cancels c))
give_idle (is_busy d _) c n = absurd (omega arith)
give_idle (is_idle _ _) c n = refl
give_idle (is_apart d _) c n = absurd (⊎_elim (λ x. omega arith) (λ x. omega arith) d)
give_idle (is_other d _ _) c n = absurd (omega arith)

give_apart : {p : Phy} {e : Event} {r : Stepped} → Judgement p e r → (e.code ≡ 3) ⊎ (e.code ≡ 4) → (p.link ≡ L3 → ⊥) → r.refusal ≡ not_connected
give_apart (taken f z) c n = absurd (n (⊎_elim f.closes f.breaks c))
give_apart (is_busy d _) c n = absurd (⊎_elim (λ x. omega arith) (λ x. omega arith) c)
give_apart (is_idle d _) c n = absurd (⊎_elim (λ x. omega arith) (λ x. omega arith) c)
give_apart (is_apart _ _) c n = refl
give_apart (is_other _ l _) c n = absurd (n l)

give_other : {p : Phy} {e : Event} {r : Stepped} → Judgement p e r → e.code ≡ 4 → p.link ≡ L3 → (p.connectionProtocol ≡ SMP → ⊥) → r.refusal ≡ wrong_protocol
give_other (taken f z) c l n = absurd (n (f.protocol c))
give_other (is_busy d _) c l n = absurd (omega arith)
give_other (is_idle d _) c l n = absurd (omega arith)
give_other (is_apart _ m) c l n = absurd (m l)
give_other (is_other _ _ _) c l n = refl

give_none : {p : Phy} {e : Event} {r : Stepped} → Judgement p e r → Free p e → r.refusal ≡ 0
give_none (taken f z) g = z
give_none (is_busy c n) g = absurd (n (g.opens c))
give_none (is_idle c n) g = absurd (n (g.cancels c))
give_none (is_apart c n) g = absurd (n (⊎_elim g.closes g.breaks c))
give_none (is_other c l n) g = absurd (n (g.protocol c))

-- ---- exactly when

pub step_is_move : StepIsMove
unfolding step_of
step_is_move p e j = rw (j.valid, j.known)

-- why a step gave a number that is neither 1 nor 2
reason : (p : Phy) (e : Event) (n : ℕ) → (bad_state ≡ n → ⊥) → (bad_event ≡ n → ⊥) → (step_of p e).refusal ≡ n → Judged p e × Why p e n
reason p e n a b =
    by_way (λ r. r.refusal ≡ n → Judged p e × Why p e n) p e
    (λ _ q. absurd (a q))
    (λ _ _ q. absurd (b q))
    (λ v k s q. (record { valid = v; known = k }, subst (Why p e) q (why (judged p e k))))

pub bad_state_exactly : BadStateExactly
unfolding step_of
bad_state_exactly p e = (
  by_way (λ r. r.refusal ≡ bad_state → valid_of p ≡ false) p e (λ f _. f) (λ _ _ q. absurd (omega arith)) (λ _ k _ q. absurd (subst (Why p e) q (why (judged p e k)))),
  λ f. rw f,
)

pub bad_event_exactly : BadEventExactly
unfolding step_of
bad_event_exactly p e = (
  by_way (λ r. r.refusal ≡ bad_event → (valid_of p ≡ true) × (known_of e ≡ false)) p e (λ _ q. absurd (omega arith)) (λ v k _. (v, k)) (λ _ k _ q. absurd (subst (Why p e) q (why (judged p e k)))),
  λ f. rw (f.0, f.1),
)

pub busy_exactly : BusyExactly
busy_exactly p e = (
  λ q. let w = reason p e busy (omega arith) (omega arith) q in (w.0, w.1.0, w.1.1),
  λ w. rw (step_is_move p e w.0) (give_busy (judged p e w.0.known) w.1 w.2),
)

pub nothing_pending_exactly : NothingPendingExactly
nothing_pending_exactly p e = (
  λ q. let w = reason p e nothing_pending (omega arith) (omega arith) q in (w.0, w.1.0, w.1.1),
  λ w. rw (step_is_move p e w.0) (give_idle (judged p e w.0.known) w.1 w.2),
)

pub not_connected_exactly : NotConnectedExactly
not_connected_exactly p e = (
  λ q. let w = reason p e not_connected (omega arith) (omega arith) q in (w.0, w.1.0, w.1.1),
  λ w. rw (step_is_move p e w.0) (give_apart (judged p e w.0.known) w.1 w.2),
)

pub wrong_protocol_exactly : WrongProtocolExactly
wrong_protocol_exactly p e = (
  λ q. let w = reason p e wrong_protocol (omega arith) (omega arith) q in (w.0, w.1.0, w.1.1, w.1.2),
  λ w. rw (step_is_move p e w.0) (give_other (judged p e w.0.known) w.1 w.2 w.3),
)

pub not_refused_exactly : NotRefusedExactly
not_refused_exactly p e = (
  λ q. reason p e 0 (omega arith) (omega arith) q,
  λ w. rw (step_is_move p e w.0) (give_none (judged p e w.0.known) w.1),
)

-- ---- a refused step keeps the phy

kept : {p : Phy} {e : Event} {r : Stepped} → Judgement p e r → (r.refusal ≡ 0 → ⊥) → r ≡ refused p r.refusal
kept (taken f z) n = absurd (n z)
kept (is_busy _ _) n = refl
kept (is_idle _ _) n = refl
kept (is_apart _ _) n = refl
kept (is_other _ _ _) n = refl

pub refused_keeps : RefusedKeeps
refused_keeps p e =
    by_way (λ r. (r.refusal ≡ 0 → ⊥) → r ≡ refused p r.refusal) p e (λ _ _. refl) (λ _ _ _. refl) (λ _ k _. kept (judged p e k))
