-- Each refusal exactly when: a stamp that is known is never refused, and every other event exactly where the phy refuses it.
use Prim.Native.Nat.{ℕ}
use mathlib.Core.Bool.{true, false, false≢true}
use mathlib.Core.Logic.{◌↔◌, ⊎_elim}
use mathlib.Core.Path.{◌≡◌, refl, sym, ap, ◌∙◌}
use native.Mathlib.Omega.{arith}
use borrow.Author.Tests.{eqb-true}
use lib.Dec.{eqb}
use Rattle.table.specs.Refusals.{bad_state, bad_event, busy, nothing_pending, not_connected, wrong_protocol}
use Rattle.table.proofs.Laws.{by_test, parts}
use Rattle.event.specs.Names.{time_stamp}
use Rattle.event.specs.Table.{known_of, known_in_trace}
use Rattle.event.specs.declared.Event.{Event}
use Rattle.event.proofs.InTrace.{phys, others}
use Rattle.phy.specs.Step as phyStep
use Rattle.phy_laws.specs.Laws as phyLaws
use Rattle.phy_laws.proofs.Refusals as phyRefusals
use Rattle.bay.specs.State.{valid_of}
use Rattle.bay.specs.Step.{at_once, refused, on_stamp, is_stamp, step_of, move_of}
use Rattle.bay.specs.declared.Bay.{Bay}
use Rattle.bay.proofs.Steps.{phy_valid, as_stamp}
use Rattle.bay_laws.specs.Laws.{Judged, StepIsMove, BadStateExactly, BadEventExactly, BusyExactly, NothingPendingExactly, NotConnectedExactly, WrongProtocolExactly, NotRefusedExactly, RefusedKeeps}
use Rattle.bay_laws.proofs.Steps.{by_way, others_are_phys}

pub refused_keeps : RefusedKeeps
unfolding on_stamp
refused_keeps b e =
    by_way (λ r. (r.refusal ≡ 0 → ⊥) → r ≡ refused b r.refusal) b e
    (λ _ _. refl)
    (λ _ _ n. absurd (n refl))
    (λ _ _ n. ap (at_once b) (phyRefusals.refused_keeps b.phy e n))

-- ---- an event that is no stamp is known to the phy exactly where it may stand in a trace

module _ (b : Bay) (e : Event) where
  stamp_code : is_stamp e ≡ true → e.code ≡ time_stamp
  stamp_code t = eqb-true e.code time_stamp (parts (eqb e.code time_stamp) (known_in_trace e) t).0

  stamp_known : is_stamp e ≡ true → known_in_trace e ≡ true
  stamp_known t = (parts (eqb e.code time_stamp) (known_in_trace e) t).1

  phys_know : is_stamp e ≡ false → known_in_trace e ≡ true → known_of e ≡ true
  phys_know n k = by_test (eqb e.code time_stamp) (λ t. absurd (false≢true (sym n ∙ rw (t, k) refl))) (λ f. others e f k)

  to_phy_lem : is_stamp e ≡ false → Judged b e → phyLaws.Judged b.phy e
  to_phy_lem n j = record { valid = phy_valid b j.valid; known = phys_know n j.known }

  from_phy : valid_of b ≡ true → phyLaws.Judged b.phy e → Judged b e
  from_phy v j = record { valid = v; known = phys e j.known }

  -- what refuses a phy's event alone refuses it of the bay
  refuses : (n : ℕ) {R S : Type 0} → (n ≡ 0 → ⊥) → (n ≡ bad_state → ⊥) → (R → Judged b e) → (R → e.code ≡ time_stamp → ⊥)
      → (valid_of b ≡ true → S → R) → (is_stamp e ≡ false → R → S)
      → (phyStep.step_of b.phy e).refusal ≡ n ↔ S
      → (step_of b e).refusal ≡ n ↔ R
  unfolding on_stamp
  refuses n {R} z s judged other back forth law =
      by_way (λ r. r.refusal ≡ n ↔ R) b e
      (λ f. (λ q. absurd (s (sym q)), λ r. absurd (false≢true (sym f ∙ (judged r).valid))))
      (λ _ t. (λ q. absurd (z (sym q)), λ r. absurd (other r (stamp_code t))))
      (λ v n. (λ q. back v (law.0 q), λ r. law.1 (forth n r)))

pub step_is_move : StepIsMove
unfolding move_of
step_is_move b e j =
    by_test (eqb e.code time_stamp)
    (λ t. rw t (sym (as_stamp b e (rw (t, j.known) refl))))
    (λ f. rw f (others_are_phys b e j.valid (rw f refl) ∙ ap (at_once b) (phyRefusals.step_is_move b.phy e (to_phy_lem b e (rw f refl) j))))

pub bad_state_exactly : BadStateExactly
unfolding on_stamp
bad_state_exactly b e =
    by_way (λ r. r.refusal ≡ bad_state ↔ (valid_of b ≡ false)) b e
    (λ f. (λ _. f, λ _. refl))
    (λ v _. (λ q. absurd (omega arith), λ f. absurd (false≢true (sym f ∙ v))))
    (λ v _. (λ q. absurd (false≢true (sym ((phyRefusals.bad_state_exactly b.phy e).0 q) ∙ phy_valid b v)), λ f. absurd (false≢true (sym f ∙ v))))

pub bad_event_exactly : BadEventExactly
unfolding on_stamp
bad_event_exactly b e =
    by_way (λ r. r.refusal ≡ bad_event ↔ (valid_of b ≡ true) × (known_in_trace e ≡ false)) b e
    (λ f. (λ q. absurd (omega arith), λ j. absurd (false≢true (sym f ∙ j.0))))
    (λ v t. (λ q. absurd (omega arith), λ j. absurd (false≢true (sym j.1 ∙ stamp_known b e t))))
    (λ v n. let law = phyRefusals.bad_event_exactly b.phy e in (
      λ q. (v, by_test (known_in_trace e) (λ k. absurd (false≢true (sym (law.0 q).1 ∙ phys_know b e n k))) (λ f. f)),
      λ j. law.1 (phy_valid b v, by_test (known_of e) (λ k. absurd (false≢true (sym j.1 ∙ phys e k))) (λ f. f)),
    ))

pub busy_exactly : BusyExactly
busy_exactly b e =
    refuses b e busy (λ z. omega arith) (λ z. omega arith) (λ r. r.0) (λ r c. omega (arith, r.1))
    (λ v s. (from_phy b e v s.0, s.1, s.2)) (λ n r. (to_phy_lem b e n r.0, r.1, r.2))
    (phyRefusals.busy_exactly b.phy e)

pub nothing_pending_exactly : NothingPendingExactly
nothing_pending_exactly b e =
    refuses b e nothing_pending (λ z. omega arith) (λ z. omega arith) (λ r. r.0) (λ r c. omega (arith, r.1))
    (λ v s. (from_phy b e v s.0, s.1, s.2)) (λ n r. (to_phy_lem b e n r.0, r.1, r.2))
    (phyRefusals.nothing_pending_exactly b.phy e)

pub not_connected_exactly : NotConnectedExactly
not_connected_exactly b e =
    refuses b e not_connected (λ z. omega arith) (λ z. omega arith) (λ r. r.0) (λ r c. ⊎_elim (λ d. omega arith) (λ d. omega arith) r.1)
    (λ v s. (from_phy b e v s.0, s.1, s.2)) (λ n r. (to_phy_lem b e n r.0, r.1, r.2))
    (phyRefusals.not_connected_exactly b.phy e)

pub wrong_protocol_exactly : WrongProtocolExactly
wrong_protocol_exactly b e =
    refuses b e wrong_protocol (λ z. omega arith) (λ z. omega arith) (λ r. r.0) (λ r c. omega (arith, r.1))
    (λ v s. (from_phy b e v s.0, s.1, s.2, s.3)) (λ n r. (to_phy_lem b e n r.0, r.1, r.2, r.3))
    (phyRefusals.wrong_protocol_exactly b.phy e)

pub not_refused_exactly : NotRefusedExactly
unfolding on_stamp
not_refused_exactly b e =
    by_way (λ r. r.refusal ≡ 0 ↔ Judged b e × phyLaws.Free b.phy e) b e
    (λ f. (λ q. absurd (omega arith), λ j. absurd (false≢true (sym f ∙ j.0.valid))))
    (λ v t. (
      λ _. let c = stamp_code b e t in (
        record { valid = v; known = stamp_known b e t },
        record { opens = λ d. absurd (omega arith); cancels = λ d. absurd (omega arith); closes = λ d. absurd (omega arith); breaks = λ d. absurd (omega arith); protocol = λ d. absurd (omega arith) },
      ),
      λ _. refl,
    ))
    (λ v n. let law = phyRefusals.not_refused_exactly b.phy e in (
      λ q. let l = law.0 q in (from_phy b e v l.0, l.1),
      λ j. law.1 (to_phy_lem b e n j.0, j.1),
    ))
