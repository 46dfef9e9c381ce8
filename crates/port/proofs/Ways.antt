-- The ways that a step goes. An event that is not refused changes one record; an Open is handed out at most once, since a valid port has none waiting beside a free phy, and a phy that received one is not free.
use Prim.Native.Nat.{ℕ, ◌≤◌, ◌<◌}
use mathlib.Core.Bool.{true, false, ◌||◌, not}
use mathlib.Core.List.{List, [], ◌∷◌, ◌++◌}
use mathlib.Core.Logic.{◌⊎◌, inl, inr}
use mathlib.Core.Path.{◌≡◌, refl, sym, ap, subst, ◌∙◌}
use native.Mathlib.Omega.{arith}
use borrow.Author.Tests.{ltb-true, ltb-false, lt-ltb, le-ltb, eqb-true, eqb-false}
use lib.Dec.{eqb, ltb}
use lib.ListN.{length, set}
use lib.Seq.{get_or-set_same, set-set}
use Rattle.table.specs.Choice.{pick}
use Rattle.table.specs.Flags.{flag_of}
use Rattle.table.specs.Refusals.{bad_state, bad_event, queue_full, no_such_phy}
use Rattle.table.proofs.Laws.{by_test, by_pick, parts}
use Rattle.event.specs.Names.{tx_open}
use Rattle.event.specs.Table.{known_of, known_in_trace, open_of, open_known}
use Rattle.event.specs.declared.Event.{Event}
use Rattle.event.specs.declared.Open.{Open}
use Rattle.event.proofs.InTrace.{phys}
use Rattle.phy.specs.Names.{L0, L1, P1, P2, full_timer, sent_open}
use Rattle.phy.specs.Shapes as shapes
use Rattle.phy.specs.Moves.{open_by_link, on_tx_open}
use Rattle.phy.specs.Step as phy
use Rattle.bay.specs.State as bayState
use Rattle.bay.specs.State.{fresh_bay}
use Rattle.bay.specs.Step as bay
use Rattle.bay.specs.declared.Bay.{Bay}
use Rattle.bay.specs.declared.Stepped.{Stepped as BayStepped}
use Rattle.bay_laws.proofs.Steps.{stays_valid}
use Rattle.bay_laws.proofs.Refusals.{step_is_move}
use Rattle.queue.specs.Lent.{most_waiting}
use Rattle.port.specs.State.{Port, is_free, free_phys, all_pass, valid_of}
use Rattle.port.specs.Step.{PortStepped, Handed, refused, only_refusal, reports_of, open_event, bay_at, lowest_free, received, one_more, handing, then_handed, is_ports, to_port, to_phy, port_step_of}
use Rattle.port.specs.declared.Reports.{Reports}
use Rattle.port.proofs.Valid.{sound, none_free, none_waits, bay_valid, then_free, then_lowest}

-- a port that is judged valid, and an event that may stand in a trace
pub record Judged (limit : ℕ) (p : Port) (e : Event) : Type 0 where
  pub valid : valid_of limit p ≡ true
  pub known : known_in_trace e ≡ true

-- a Tx Open to the port, which has room for it
pub record ToPort (limit : ℕ) (p : Port) (number : ℕ) (e : Event) : Type 0 where
  pub judged : Judged limit p e
  pub ports : is_ports number ≡ true
  pub opens : e.code ≡ tx_open
  pub room : length p.queue < most_waiting

-- an event to a phy, which takes it
pub record ToPhy (limit : ℕ) (p : Port) (number : ℕ) (e : Event) : Type 0 where
  pub judged : Judged limit p e
  pub phys : is_ports number ≡ false
  pub there : number < length p.bays
  pub taken : (bay.step_of (bay_at p.bays number) e).refusal ≡ 0

-- why an event is refused, each reason with its number
pub data Refuses (limit : ℕ) (p : Port) (number : ℕ) (e : Event) : ℕ → Type 0 where
  not_valid : valid_of limit p ≡ false → Refuses limit p number e bad_state
  not_known : valid_of limit p ≡ true → known_in_trace e ≡ false → Refuses limit p number e bad_event
  not_for_port : Judged limit p e → is_ports number ≡ true → (e.code ≡ tx_open → ⊥) → Refuses limit p number e bad_event
  no_phy : Judged limit p e → is_ports number ≡ false → length p.bays ≤ number → Refuses limit p number e no_such_phy
  is_full :
      Judged limit p e → is_ports number ≡ true → e.code ≡ tx_open → most_waiting ≤ length p.queue
      → Refuses limit p number e queue_full
  phys_own :
      Judged limit p e → is_ports number ≡ false → number < length p.bays
      → ((bay.step_of (bay_at p.bays number) e).refusal ≡ 0 → ⊥)
      → Refuses limit p number e (bay.step_of (bay_at p.bays number) e).refusal

pub data Way (limit : ℕ) (p : Port) (number : ℕ) (e : Event) : PortStepped → Type 0 where
  is_refused : {n : ℕ} → Refuses limit p number e n → Way limit p number e (refused p n)
  -- a Tx Open joins the queue, and waits: no phy is free
  joins :
      ToPort limit p number e → free_phys p.bays ≡ 0
      → Way limit p number e
      (record {
        next = record { bays = p.bays; queue = p.queue ++ (open_of e ∷ []) };
        reports = only_refusal 0;
        hand_outs = [];
      })
  -- a Tx Open goes to the lowest free phy at once: none waits
  at_once :
      ToPort limit p number e → p.queue ≡ [] → 0 < free_phys p.bays
      → Way limit p number e
      (record {
        next = record { bays = set p.bays (lowest_free p.bays) (received p.bays (open_of e)).next; queue = [] };
        reports = only_refusal 0;
        hand_outs =
            record { phy = lowest_free p.bays; request = open_of e; sent = (received p.bays (open_of e)).sent.code } ∷ [];
      })
  -- a phy takes its event, and no Open is handed out
  takes :
      ToPhy limit p number e
      → (p.queue ≡ []) ⊎ (free_phys (set p.bays number (bay.step_of (bay_at p.bays number) e).next) ≡ 0)
      → Way limit p number e
      (record {
        next =
            record { bays = set p.bays number (bay.step_of (bay_at p.bays number) e).next; queue = p.queue };
        reports = reports_of (bay.step_of (bay_at p.bays number) e);
        hand_outs = [];
      })
  -- a phy takes its event and is free, and the oldest Open goes to it
  frees :
      (o : Open) (os : List Open) → ToPhy limit p number e → p.queue ≡ o ∷ os
      → is_free (bay.step_of (bay_at p.bays number) e).next ≡ true
      → Way limit p number e
      (record {
        next =
            record {
              bays = set p.bays number (bay.step_of (bay.step_of (bay_at p.bays number) e).next (open_event o)).next;
              queue = os;
            };
        reports = reports_of (bay.step_of (bay_at p.bays number) e);
        hand_outs =
            record {
              phy = number;
              request = o;
              sent = (bay.step_of (bay.step_of (bay_at p.bays number) e).next (open_event o)).sent.code;
            }
            ∷ [];
      })

-- ---- a free phy and an Open

-- a Tx Open of known arguments is known
pub open_known_lem : (o : Open) → open_known o ≡ true → known_in_trace (open_event o) ≡ true
unfolding known_of open_known
open_known_lem o k = phys (open_event o) (rw k)

-- it sends an OPEN, and is free no more
pub opened : (b : Bay) (o : Open) → bayState.valid_of b ≡ true → is_free b ≡ true → open_known o ≡ true
    → bay.step_of b (open_event o) ≡ bay.at_once b (shapes.reports (shapes.requesting b.phy.settings L1 P2 full_timer o 0) 0 sent_open)
unfolding is_free bay.move_of phy.move_of on_tx_open open_by_link
opened b o v f k =
    let q = parts (eqb b.phy.link L0) (eqb b.phy.port P1) f in
    step_is_move b (open_event o) (record { valid = v; known = open_known_lem o k })
    ∙ rw (q.1, eqb-true b.phy.link L0 q.0)

pub free_no_more : (b : Bay) (o : Open) → bayState.valid_of b ≡ true → is_free b ≡ true → open_known o ≡ true → is_free (bay.step_of b (open_event o)).next ≡ false
unfolding is_free
free_no_more b o v f k = ap (λ (r : BayStepped). is_free r.next) (opened b o v f k)

-- ---- handing out

-- no Open waits, or no phy is free
pub hands_none : (bays : List Bay) (queue : List Open) → free_phys bays ≡ 0 → handing bays queue ≡ record { port = record { bays = bays; queue = queue }; hand_outs = [] }
unfolding handing
hands_none bays [] n = refl
hands_none bays (o ∷ os) n = rw (le-ltb 0 (free_phys bays) (omega (arith, n)))

-- a phy is free, and after its Open none is, or no other Open waits
hands_one : (bays : List Bay) (o : Open) (os : List Open) → 0 < free_phys bays
    → handing (set bays (lowest_free bays) (received bays o).next) os ≡ record { port = record { bays = set bays (lowest_free bays) (received bays o).next; queue = os }; hand_outs = [] }
    → handing bays (o ∷ os)
    ≡ record {
      port = record { bays = set bays (lowest_free bays) (received bays o).next; queue = os };
      hand_outs = record { phy = lowest_free bays; request = o; sent = (received bays o).sent.code } ∷ [];
    }
unfolding handing
hands_one bays o os h e = rw (lt-ltb 0 (free_phys bays) h) (ap (one_more bays o) e)

-- ---- the ways

module _ (limit : ℕ) (p : Port) (number : ℕ) (e : Event) where
  abbrev Goes : PortStepped → Type 0
  Goes = Way limit p number e

  handed_so : (reports : Reports) (bays : List Bay) (queue : List Open) (h : Handed) → handing bays queue ≡ h
      → Goes (record { next = h.port; reports = reports; hand_outs = h.hand_outs }) → Goes (then_handed reports bays queue)
  handed_so reports bays queue h q w = subst (λ (x : Handed). Goes (record { next = x.port; reports = reports; hand_outs = x.hand_outs })) (sym q) w

  -- to the port
  module _ (w : ToPort limit p number e) where
    port_free : 0 < free_phys p.bays → Goes (then_handed (only_refusal 0) p.bays (p.queue ++ (open_of e ∷ [])))
    unfolding handing
    port_free h =
        let q = none_waits limit p w.judged.valid h in
        handed_so (only_refusal 0) p.bays (p.queue ++ (open_of e ∷ [])) _
        (ap (λ (l : List Open). handing p.bays (l ++ (open_of e ∷ []))) q ∙ hands_one p.bays (open_of e) [] h refl) (at_once w q h)

    port_none : free_phys p.bays ≡ 0 → Goes (then_handed (only_refusal 0) p.bays (p.queue ++ (open_of e ∷ [])))
    port_none n = handed_so (only_refusal 0) p.bays (p.queue ++ (open_of e ∷ [])) _ (hands_none p.bays (p.queue ++ (open_of e ∷ [])) n) (joins w n)

    port_way : Goes (then_handed (only_refusal 0) p.bays (p.queue ++ (open_of e ∷ [])))
    port_way = by_test (ltb 0 (free_phys p.bays)) (λ t. port_free (ltb-true 0 (free_phys p.bays) t)) (λ f. port_none (omega (arith, ltb-false 0 (free_phys p.bays) f)))

  -- to a phy
  module _ (w : ToPhy limit p number e) where
    abbrev r : BayStepped
    r = bay.step_of (bay_at p.bays number) e

    abbrev then : List Bay
    then = set p.bays number r.next

    abbrev goes_on : Type 0
    goes_on = Goes (then_handed (reports_of r) then p.queue)

    none_way : (p.queue ≡ []) ⊎ (free_phys then ≡ 0) → handing then p.queue ≡ record { port = record { bays = then; queue = p.queue }; hand_outs = [] } → goes_on
    none_way y q = handed_so (reports_of r) then p.queue _ q (takes w y)

    module _ (o : Open) (os : List Open) (q : p.queue ≡ o ∷ os) where
      none_before : free_phys p.bays ≡ 0
      none_before = none_free limit p w.judged.valid (omega (arith, ap length q))

      then_many : free_phys then ≡ flag_of (is_free r.next)
      then_many = then_free p.bays number w.there none_before r.next

      r_valid : bayState.valid_of r.next ≡ true
      r_valid = stays_valid (bay_at p.bays number) e (bay_valid limit p w.judged.valid number w.there)

      o_known : open_known o ≡ true
      o_known = (parts (open_known o) (all_pass open_known os) (subst (λ (l : List Open). all_pass open_known l ≡ true) q (sound limit p w.judged.valid).known)).0

      module _ (t : is_free r.next ≡ true) where
        abbrev s : BayStepped
        s = bay.step_of r.next (open_event o)

        some : 0 < free_phys then
        some = omega (arith, then_many ∙ ap flag_of t)

        here : lowest_free then ≡ number
        here = then_lowest p.bays number w.there none_before r.next t

        this : received then o ≡ s
        this = ap (λ (b : Bay). bay.step_of b (open_event o)) (ap (bay_at then) here ∙ get_or-set_same p.bays number r.next fresh_bay w.there)

        put : set then (lowest_free then) (received then o).next ≡ set p.bays number s.next
        put = (λ i. set then (here i) (this i).next) ∙ set-set p.bays number r.next s.next

        none_left : free_phys (set then (lowest_free then) (received then o).next) ≡ 0
        none_left = ap free_phys put ∙ then_free p.bays number w.there none_before s.next ∙ ap flag_of (free_no_more r.next o r_valid t o_known)

        all_handed : handing then p.queue
            ≡ record {
              port = record { bays = set p.bays number s.next; queue = os };
              hand_outs = record { phy = number; request = o; sent = s.sent.code } ∷ [];
            }
        all_handed =
            ap (handing then) q ∙ hands_one then o os some (hands_none (set then (lowest_free then) (received then o).next) os none_left)
            ∙ λ i. record { port = record { bays = put i; queue = os }; hand_outs = record { phy = here i; request = o; sent = (this i).sent.code } ∷ [] }

        free_way : goes_on
        free_way = handed_so (reports_of r) then p.queue _ all_handed (frees o os w q t)

      some_way : goes_on
      some_way =
          by_test (is_free r.next) free_way
          (λ f. let n : free_phys then ≡ 0 = then_many ∙ ap flag_of f in none_way (inr n) (hands_none then p.queue n))

    phy_way : (queue : List Open) → p.queue ≡ queue → goes_on
    unfolding handing
    phy_way [] q = none_way (inl q) (ap (handing then) q ∙ ap (λ (l : List Open). record { port = record { bays = then; queue = l }; hand_outs = [] }) (sym q))
    phy_way (o ∷ os) q = some_way o os q

  -- which of the two an event goes to
  module _ (j : Judged limit p e) where
    to_port_lem : is_ports number ≡ true → e.code ≡ tx_open → Goes (to_port p e)
    unfolding to_port
    to_port_lem t o =
        by_pick Goes (ltb (length p.queue) most_waiting)
        (λ l. port_way (record { judged = j; ports = t; opens = o; room = ltb-true (length p.queue) most_waiting l }))
        (λ l. is_refused (is_full j t o (ltb-false (length p.queue) most_waiting l)))

    to_phy_lem : is_ports number ≡ false → Goes (to_phy p number e)
    unfolding to_phy
    to_phy_lem f =
        let n : ℕ = (bay.step_of (bay_at p.bays number) e).refusal in
        by_pick Goes (ltb number (length p.bays))
        (λ l. let there = ltb-true number (length p.bays) l in
        by_pick Goes (eqb n 0)
        (λ z. phy_way (record { judged = j; phys = f; there = there; taken = eqb-true n 0 z }) p.queue refl)
        (λ z. is_refused (phys_own j f there (eqb-false n 0 z))))
        (λ l. is_refused (no_phy j f (ltb-false number (length p.bays) l)))

    -- of those to the port itself only a Tx Open may come
    may_come : Goes (pick (not (is_ports number) || eqb e.code tx_open) (pick (is_ports number) (to_port p e) (to_phy p number e)) (refused p bad_event))
    may_come =
        by_test (is_ports number)
        (λ t. by_test (eqb e.code tx_open)
        (λ c. rw (t, c) (to_port_lem t (eqb-true e.code tx_open c)))
        (λ c. rw (t, c) (is_refused (not_for_port j t (eqb-false e.code tx_open c)))))
        (λ f. rw f (to_phy_lem f))

  pub ways : Goes (port_step_of limit p number e)
  unfolding port_step_of
  ways =
      by_test (valid_of limit p)
      (λ v. by_test (known_in_trace e)
      (λ k. rw (v, k) (may_come (record { valid = v; known = k })))
      (λ k. rw (v, k) (is_refused (not_known v k))))
      (λ v. rw v (is_refused (not_valid v)))

-- each reason has a number
pub is_some : {limit : ℕ} {p : Port} {number : ℕ} {e : Event} {n : ℕ} → Refuses limit p number e n → n ≡ 0 → ⊥
is_some (not_valid _) z = omega arith
is_some (not_known _ _) z = omega arith
is_some (not_for_port _ _ _) z = omega arith
is_some (no_phy _ _ _) z = omega arith
is_some (is_full _ _ _ _) z = omega arith
is_some (phys_own _ _ _ n) z = n z
