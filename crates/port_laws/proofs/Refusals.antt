-- Each refusal exactly when: every way of a step says why it is refused or why not, and each reason has its own number; to a phy that is there it is the phy's own.
use Prim.Native.Nat.{ℕ, ◌≤◌, ◌<◌}
use mathlib.Core.Bool.{true, false, and-false, false≢true}
use mathlib.Core.List.{List, [], ◌∷◌}
use mathlib.Core.Logic.{◌↔◌, ◌⊎◌, inl, inr, ⊎_elim}
use mathlib.Core.Path.{◌≡◌, refl, sym, ap, subst, ◌∙◌}
use native.Mathlib.Omega.{arith}
use borrow.Author.Tests.{eqb-true, eqb-false, eq-eqb, ne_eqb, lt-ltb, le-ltb}
use lib.Dec.{eqb}
use lib.ListN.{length}
use Rattle.table.specs.Choice.{Row, ◌⇒◌, rows}
use Rattle.table.specs.Refusals.{bad_state, bad_event, busy, nothing_pending, not_connected, wrong_protocol, queue_full, no_such_phy}
use Rattle.table.proofs.Laws.{by_test, by_pick}
use Rattle.event.specs.Names.{tx_open}
use Rattle.event.specs.Table.{known_in_trace}
use Rattle.event.specs.declared.Event.{Event}
use Rattle.phy_laws.specs.Laws.{Free}
use Rattle.phy_laws.proofs.Steps.{reports_are_listed}
use Rattle.bay.specs.Step as bay
use Rattle.bay.specs.declared.Bay.{Bay}
use Rattle.bay.proofs.Steps.{not_known}
use Rattle.bay_laws.specs.Laws as bayLaws
use Rattle.bay_laws.proofs.Steps as bays
use Rattle.bay_laws.proofs.Refusals as bayRefusals
use Rattle.queue.specs.Lent.{most_waiting}
use Rattle.port.specs.Names.{the_port}
use Rattle.port.specs.State.{Port, valid_of}
use Rattle.port.specs.Step.{PortStepped, refused, reports_of, bay_at, is_ports, to_port, to_phy, port_step_of}
use Rattle.port.specs.declared.Reports.{Reports}
use Rattle.port.proofs.Valid.{sound, bay_valid}
use Rattle.port.proofs.Ways as ways
use Rattle.port.proofs.Ways.{Refuses, Way, is_refused, joins, at_once, takes, frees}
use Rattle.port_laws.specs.Laws.{refusal_of, Judged, AtPort, AtPhy, phy_at, BadStateExactly, BadEventExactly, NoSuchPhyExactly, QueueFullExactly, PhysOwn, BusyExactly, NothingPendingExactly, NotConnectedExactly, WrongProtocolExactly, NotRefusedExactly, BadStateFirst, UnknownFirst, OnlyOpens, ReportsArePhys}

-- ---- which refusal comes first

pub bad_state_first : BadStateFirst
unfolding port_step_of
bad_state_first limit p number e f = rw f

pub unknown_first : UnknownFirst
unfolding port_step_of
unknown_first limit p number e v k = rw (v, k)

pub only_opens : OnlyOpens
unfolding port_step_of
only_opens limit p e v n = simp (v, ne_eqb e.code tx_open n, and-false)

-- ---- what a phy reports

pub as_the_bay : (limit : ℕ) (p : Port) (number : ℕ) (e : Event) → valid_of limit p ≡ true → (number ≡ the_port → ⊥) → number < length p.bays
    → (port_step_of limit p number e).reports ≡ reports_of (bay.step_of (bay_at p.bays number) e)
unfolding port_step_of to_phy
as_the_bay limit p number e v n l =
    let b = bay_at p.bays number in
    let r = bay.step_of b e in
    by_test (known_in_trace e)
    (λ k. rw (v, k, ne_eqb number the_port n, lt-ltb number (length p.bays) l)
    (by_pick (λ (s : PortStepped). s.reports ≡ reports_of r) (eqb r.refusal 0) (λ _. refl)
    (λ f. sym (ap reports_of (bayRefusals.refused_keeps b e (eqb-false r.refusal 0 f))))))
    (λ k. ap (λ (s : PortStepped). s.reports) (unknown_first limit p number e v k) ∙ sym (ap reports_of (not_known b e (bay_valid limit p v number l) k)))

pub reports_are_phys : ReportsArePhys
reports_are_phys limit p number e v n l =
    let q = as_the_bay limit p number e v n l in
    record {
      answered = ap (λ (r : Reports). r.answered) q;
      answer = ap (λ (r : Reports). r.answer) q;
      notice = ap (λ (r : Reports). r.notice) q;
      second_notice = ap (λ (r : Reports). r.secondNotice) q;
      sent = ap (λ (r : Reports). r.sent) q;
      refusal = ap (λ (r : Reports). r.refusal) q;
    }

-- ---- what each number says

-- a bay that is valid refuses a known event with 3 to 6, or not at all
phys_numbers : (b : Bay) (e : Event) → bayLaws.Judged b e → ((bay.step_of b e).refusal ≡ 0) ⊎ ((busy ≤ (bay.step_of b e).refusal) × ((bay.step_of b e).refusal ≤ wrong_protocol))
unfolding bay.on_stamp
phys_numbers b e j =
    let n = (bay.step_of b e).refusal in
    let state : n ≡ bad_state → ⊥ = λ q. false≢true (sym ((bayRefusals.bad_state_exactly b e).0 q) ∙ j.valid) in
    let event : n ≡ bad_event → ⊥ = λ q. false≢true (sym ((bayRefusals.bad_event_exactly b e).0 q).1 ∙ j.known) in
    let most : n ≤ wrong_protocol = bays.by_way (λ r. r.refusal ≤ wrong_protocol) b e (λ _. omega arith) (λ _ _. omega arith) (λ _ _. (reports_are_listed b.phy e).refusal) in
    by_test (eqb n 0) (λ t. inl (eqb-true n 0 t)) (λ f. inr (omega (arith, eqb-false n 0 f), most))

module _ (limit : ℕ) (p : Port) (number : ℕ) (e : Event) where
  -- of a refusal that is none of a phy's, and else that a phy is there
  abbrev number_rows : List (Row (Type 0))
  number_rows =
      (0 ⇒ ((AtPort limit p number e × (length p.queue < most_waiting)) ⊎ (AtPhy limit p number e × Free (phy_at p number) e)))
      ∷ (bad_state ⇒ (valid_of limit p ≡ false))
      ∷ (bad_event ⇒ ((valid_of limit p ≡ true) × ((known_in_trace e ≡ false) ⊎ ((number ≡ the_port) × (e.code ≡ tx_open → ⊥)))))
      ∷ (queue_full ⇒ (AtPort limit p number e × (length p.queue ≡ most_waiting)))
      ∷ (no_such_phy ⇒ (Judged limit p e × (number ≡ the_port → ⊥) × (length p.bays ≤ number)))
      ∷ []

  abbrev Says : ℕ → Type 0
  Says n = rows n number_rows (AtPhy limit p number e)

  -- the numbers of a phy are none of these
  phys_say : (n : ℕ) → busy ≤ n → n ≤ wrong_protocol → Says n ≡ AtPhy limit p number e
  phys_say n l m =
      simp (ne_eqb n 0 (λ q. omega arith), ne_eqb n bad_state (λ q. omega arith), ne_eqb n bad_event (λ q. omega arith), ne_eqb n queue_full (λ q. omega arith), ne_eqb n no_such_phy (λ q. omega arith))

  judged : ways.Judged limit p e → Judged limit p e
  judged j = record { valid = j.valid; known = j.known }

  -- to a phy that is there, the refusal is its bay's
  pub own : AtPhy limit p number e → refusal_of limit p number e ≡ (bay.step_of (bay_at p.bays number) e).refusal
  own a = ap (λ (r : Reports). r.refusal) (as_the_bay limit p number e a.judged.valid a.phys a.there)

  bay_judged : AtPhy limit p number e → bayLaws.Judged (bay_at p.bays number) e
  bay_judged a = record { valid = bay_valid limit p a.judged.valid number a.there; known = a.judged.known }

  -- what a phy says of its event is what its number says
  phy_told : AtPhy limit p number e → Says (bay.step_of (bay_at p.bays number) e).refusal
  phy_told a =
      let b = bay_at p.bays number in
      let n = (bay.step_of b e).refusal in
      let free : n ≡ 0 → Says 0 = λ z. inr (a, ((bayRefusals.not_refused_exactly b e).0 z).1) in
      ⊎_elim {0, 0, 0} (λ z. subst Says (sym z) (free z)) (λ h. subst (λ (P : Type 0). P) (sym (phys_say n h.0 h.1)) a) (phys_numbers b e (bay_judged a))

  at_port : ways.Judged limit p e → is_ports number ≡ true → e.code ≡ tx_open → AtPort limit p number e
  at_port j t c = record { judged = judged j; ports = eqb-true number the_port t; opens = c }

  at_phy : ways.Judged limit p e → is_ports number ≡ false → number < length p.bays → AtPhy limit p number e
  at_phy j f l = record { judged = judged j; phys = eqb-false number the_port f; there = l }

  -- so each way says what its number says
  says : {r : PortStepped} → Way limit p number e r → Says r.reports.refusal
  says (is_refused (Refuses.not_valid f)) = f
  says (is_refused (Refuses.not_known v k)) = (v, inl k)
  says (is_refused (Refuses.not_for_port j t c)) = (j.valid, inr (eqb-true number the_port t, c))
  says (is_refused (Refuses.no_phy j f l)) = (judged j, eqb-false number the_port f, l)
  says (is_refused (Refuses.is_full j t c l)) = (at_port j t c, omega (arith, l, (sound limit p j.valid).short))
  says (is_refused (Refuses.phys_own j f l _)) = phy_told (at_phy j f l)
  says (joins w _) = inl (at_port w.judged w.ports w.opens, w.room)
  says (at_once w _ _) = inl (at_port w.judged w.ports w.opens, w.room)
  says (takes w _) = phy_told (at_phy w.judged w.phys w.there)
  says (frees _ _ w _ _) = phy_told (at_phy w.judged w.phys w.there)

  -- of the refusal that a step reports
  asks : (n : ℕ) → refusal_of limit p number e ≡ n → Says n
  asks n q = subst Says q (says (ways.ways limit p number e))

  -- a Tx Open goes to the port, and an event with no phy nowhere
  to_port_lem : AtPort limit p number e → port_step_of limit p number e ≡ to_port p e
  unfolding port_step_of
  to_port_lem a = rw (a.judged.valid, a.judged.known, eq-eqb number the_port a.ports, eq-eqb e.code tx_open a.opens)

  to_none : Judged limit p e → (number ≡ the_port → ⊥) → length p.bays ≤ number → port_step_of limit p number e ≡ refused p no_such_phy
  unfolding port_step_of to_phy
  to_none j n l = rw (j.valid, j.known, ne_eqb number the_port n, le-ltb number (length p.bays) l)

-- the refusal of a step
abbrev refusal : PortStepped → ℕ
refusal r = r.reports.refusal

module _ (p : Port) (e : Event) where
  is_full : length p.queue ≡ most_waiting → refusal (to_port p e) ≡ queue_full
  unfolding to_port
  is_full h = rw h

  has_room : length p.queue < most_waiting → refusal (to_port p e) ≡ 0
  unfolding to_port
  has_room h = rw (lt-ltb (length p.queue) most_waiting h)

pub bad_state_exactly : BadStateExactly
bad_state_exactly limit p number e = (asks limit p number e bad_state, λ f. ap refusal (bad_state_first limit p number e f))

pub bad_event_exactly : BadEventExactly
bad_event_exactly limit p number e = (
  asks limit p number e bad_event,
  λ h. ap refusal
      (⊎_elim {0, 0, 0}
      (unknown_first limit p number e h.0)
      (λ q. subst (λ (k : ℕ). port_step_of limit p k e ≡ refused p bad_event) (sym q.0) (only_opens limit p e h.0 q.1))
      h.1),
)

pub no_such_phy_exactly : NoSuchPhyExactly
no_such_phy_exactly limit p number e = (asks limit p number e no_such_phy, λ h. ap refusal (to_none limit p number e h.0 h.1 h.2))

pub queue_full_exactly : QueueFullExactly
queue_full_exactly limit p number e = (
  asks limit p number e queue_full,
  λ h. ap refusal (to_port_lem limit p number e h.0) ∙ is_full p e h.1,
)

pub phys_own : PhysOwn
phys_own limit p number e n l m = (
  λ q. let a : AtPhy limit p number e = subst (λ (P : Type 0). P) (phys_say limit p number e n l m) (asks limit p number e n q) in
      (a, sym (own limit p number e a) ∙ q),
  λ h. own limit p number e h.0 ∙ h.1,
)

pub not_refused_exactly : NotRefusedExactly
not_refused_exactly limit p number e = (
  asks limit p number e 0,
  ⊎_elim {0, 0, 0}
      (λ h. ap refusal (to_port_lem limit p number e h.0) ∙ has_room p e h.1)
      (λ h. own limit p number e h.0 ∙ (bayRefusals.not_refused_exactly (bay_at p.bays number) e).1 (bay_judged limit p number e h.0, h.1)),
)

-- ---- a phy's own refusals, as the bay has them

module _ (limit : ℕ) (p : Port) (number : ℕ) (e : Event) where
  -- what the bay's law says of its number, beside that it is judged, the port's says too
  own_exactly : (n : ℕ) {A B : Type 0} → busy ≤ n → n ≤ wrong_protocol
      → (bay.step_of (bay_at p.bays number) e).refusal ≡ n ↔ bayLaws.Judged (bay_at p.bays number) e × A × B
      → refusal_of limit p number e ≡ n ↔ AtPhy limit p number e × A × B
  own_exactly n l m law =
      let o = phys_own limit p number e n l m in (
        λ q. let h = o.0 q in let c = law.0 h.1 in (h.0, c.1, c.2),
        λ h. o.1 (h.0, law.1 (bay_judged limit p number e h.0, h.1, h.2)),
      )

pub busy_exactly : BusyExactly
busy_exactly limit p number e = own_exactly limit p number e busy (omega arith) (omega arith) (bayRefusals.busy_exactly (bay_at p.bays number) e)

pub nothing_pending_exactly : NothingPendingExactly
nothing_pending_exactly limit p number e =
    own_exactly limit p number e nothing_pending (omega arith) (omega arith) (bayRefusals.nothing_pending_exactly (bay_at p.bays number) e)

pub not_connected_exactly : NotConnectedExactly
not_connected_exactly limit p number e =
    own_exactly limit p number e not_connected (omega arith) (omega arith) (bayRefusals.not_connected_exactly (bay_at p.bays number) e)

pub wrong_protocol_exactly : WrongProtocolExactly
wrong_protocol_exactly limit p number e =
    let o = phys_own limit p number e wrong_protocol (omega arith) (omega arith) in
    let law = bayRefusals.wrong_protocol_exactly (bay_at p.bays number) e in (
      λ q. let h = o.0 q in let c = law.0 h.1 in (h.0, c.1, c.2, c.3),
      λ h. o.1 (h.0, law.1 (bay_judged limit p number e h.0, h.1, h.2, h.3)),
    )
