-- One entry of a valid port, at each phy: its record goes where the events that came to it lead a bay alone, and the port's log tells what the bay's log tells. A free phy takes an Open that is handed out, and answers nothing then.
use Prim.Native.Nat.{ℕ, ◌<◌}
use mathlib.Core.Bool.{true, false, not, false≢true}
use mathlib.Core.List.{List, [], ◌∷◌, ◌++◌, map, append-nil}
use mathlib.Core.Path.{◌≡◌, refl, sym, ap, ap₂, subst, ◌∙◌}
use native.Mathlib.Omega.{arith}
use borrow.Author.Tests.{eqb-true, eqb-false, eq-eqb, ne_eqb, not-true}
use lib.Dec.{eqb}
use lib.ListN.{length, set}
use lib.Seq.{get_or-set_same, get_or-set_other}
use Rattle.table.proofs.Laws.{by_test, parts}
use Rattle.event.specs.Table.{open_of, open_known}
use Rattle.event.specs.declared.Event.{Event}
use Rattle.event.specs.declared.Open.{Open}
use Rattle.event.specs.declared.ShelfEvent.{ShelfEvent}
use Rattle.bay.specs.State as bayState
use Rattle.bay.specs.State.{fresh_bay}
use Rattle.bay.specs.Step.{step_of}
use Rattle.bay.specs.Log as bay
use Rattle.bay.specs.declared.Bay.{Bay}
use Rattle.bay.specs.declared.Stepped.{Stepped as BayStepped}
use Rattle.bay_laws.specs.Spelled.{Answer, open_if, answer_if, bay_opens, bay_answers}
use Rattle.bay_laws.proofs.Steps as bays
use Rattle.bay_laws.proofs.Refusals as bayRefusals
use Rattle.port.specs.Names.{the_port}
use Rattle.port.specs.State.{Port, is_free, valid_of}
use Rattle.port.specs.Step.{PortStepped, reports_of, open_event, bay_at, lowest_free, is_ports}
use Rattle.port.specs.declared.Reports.{Reports}
use Rattle.port.specs.Log.{step_on}
use Rattle.port.proofs.Valid.{bay_valid, lowest_free_lem}
use Rattle.port.proofs.Ways.{Way, is_refused, joins, at_once, takes, frees, opened, ways, is_some}
use Rattle.port_laws.specs.Laws.{requests_to}
use Rattle.port_laws.specs.EachPhy.{is_to, came_to, accepted_in, answered_in, entry_of}
use Rattle.port_laws.proofs.Steps.{its_open_known, oldest_known}
use Rattle.port_laws.proofs.Refusals.{as_the_bay}

-- a bay, events of its own and Opens handed out to it: where they lead, and that the bay takes these Opens in silence
pub record Came (b : Bay) (own : List Event) (os : List Open) (next : Bay) : Type 0 where
  pub leads : next ≡ bay.after b (own ++ map open_event os)
  pub opens : bay_opens (bay.log (bay.after b own) (map open_event os)) ≡ os
  pub silent : bay_answers (bay.log (bay.after b own) (map open_event os)) ≡ []

-- a free phy takes an Open
module _ (b : Bay) (o : Open) (v : bayState.valid_of b ≡ true) (f : is_free b ≡ true) (k : open_known o ≡ true) where
  pub takes_one : bay_opens (bay.log b (open_event o ∷ [])) ≡ o ∷ []
  takes_one = ap (λ (r : BayStepped). open_if (open_event o) r.refusal ++ []) (opened b o v f k)

  pub in_silence : bay_answers (bay.log b (open_event o ∷ [])) ≡ []
  in_silence = ap (λ (r : BayStepped). answer_if r.answer.code r.answered ++ []) (opened b o v f k)

-- one hand-out, to that phy or to another
to_it : (k i : ℕ) (o : Open) (sent : ℕ) → eqb k i ≡ true → requests_to i (record { phy = k; request = o; sent = sent } ∷ []) ≡ o ∷ []
to_it k i o sent t = rw t

to_other : (k i : ℕ) (o : Open) (sent : ℕ) → eqb k i ≡ false → requests_to i (record { phy = k; request = o; sent = sent } ∷ []) ≡ []
to_other k i o sent f = rw f

module _ {limit : ℕ} {p : Port} {number : ℕ} {e : Event} (v : valid_of limit p ≡ true) where
  -- to the phy itself
  at_own : {r : PortStepped} → Way limit p number e r → is_ports number ≡ false → r.reports ≡ reports_of (step_of (bay_at p.bays number) e)
      → Came (bay_at p.bays number) (e ∷ []) (requests_to number r.hand_outs) (bay_at r.next.bays number)
  at_own (is_refused {n} h) f told =
      let b = bay_at p.bays number in
      let q : (step_of b e).refusal ≡ 0 → ⊥ = λ z. is_some h (ap (λ (r : Reports). r.refusal) told ∙ z) in
      record { leads = sym (ap (λ (r : BayStepped). r.next) (bayRefusals.refused_keeps b e q)); opens = refl; silent = refl }
  at_own (joins w _) f told = absurd (false≢true (sym f ∙ w.ports))
  at_own (at_once w _ _) f told = absurd (false≢true (sym f ∙ w.ports))
  at_own (takes w _) f told = record { leads = get_or-set_same p.bays number _ fresh_bay w.there; opens = refl; silent = refl }
  at_own (frees o os w q t) f told =
      let b = bay_at p.bays number in
      let n = (step_of b e).next in
      let nv = bays.stays_valid b e (bay_valid limit p v number w.there) in
      let k = oldest_known limit p o os v q in
      let s = step_of n (open_event o) in
      subst (λ (l : List Open). Came b (e ∷ []) l (bay_at (set p.bays number s.next) number))
      (sym (to_it number number o s.sent.code (eq-eqb number number refl)))
      (record { leads = get_or-set_same p.bays number s.next fresh_bay w.there; opens = takes_one n o nv t k; silent = in_silence n o nv t k })

  -- to another phy, or to the port
  at_other : (i : ℕ) → (is_ports number ≡ false → i ≡ number → ⊥) → {r : PortStepped} → Way limit p number e r
      → Came (bay_at p.bays i) [] (requests_to i r.hand_outs) (bay_at r.next.bays i)
  at_other i n (is_refused _) = record { leads = refl; opens = refl; silent = refl }
  at_other i n (joins _ _) = record { leads = refl; opens = refl; silent = refl }
  at_other i n (at_once w _ some) =
      let k = lowest_free p.bays in
      let o = open_of e in
      let s = step_of (bay_at p.bays k) (open_event o) in
      let there = lowest_free_lem p.bays some in
      let kv = bay_valid limit p v k there.0 in
      let known = its_open_known e w.judged.known w.opens in
      by_test (eqb k i)
      (λ t. subst (λ (j : ℕ). Came (bay_at p.bays j) [] (requests_to i (record { phy = k; request = o; sent = s.sent.code } ∷ [])) (bay_at (set p.bays k s.next) j))
      (eqb-true k i t)
      (subst (λ (l : List Open). Came (bay_at p.bays k) [] l (bay_at (set p.bays k s.next) k))
      (sym (to_it k i o s.sent.code t))
      (record {
        leads = get_or-set_same p.bays k s.next fresh_bay there.0;
        opens = takes_one (bay_at p.bays k) o kv there.1 known;
        silent = in_silence (bay_at p.bays k) o kv there.1 known;
      })))
      (λ f. subst (λ (l : List Open). Came (bay_at p.bays i) [] l (bay_at (set p.bays k s.next) i))
      (sym (to_other k i o s.sent.code f))
      (record { leads = get_or-set_other p.bays k i s.next fresh_bay (λ q. eqb-false k i f (sym q)); opens = refl; silent = refl }))
  at_other i n (takes w _) = record { leads = get_or-set_other p.bays number i _ fresh_bay (n w.phys); opens = refl; silent = refl }
  at_other i n (frees o os w q t) =
      let s = step_of (step_of (bay_at p.bays number) e).next (open_event o) in
      subst (λ (l : List Open). Came (bay_at p.bays i) [] l (bay_at (set p.bays number s.next) i))
      (sym (to_other number i o s.sent.code (ne_eqb number i (λ m. n w.phys (sym m)))))
      (record { leads = get_or-set_other p.bays number i s.next fresh_bay (n w.phys); opens = refl; silent = refl })

-- what an entry does to a phy, and what the port's log tells of it
pub record One (limit : ℕ) (p : Port) (i : ℕ) (e : ShelfEvent) : Type 0 where
  pub leads : bay_at (step_on limit p e).next.bays i ≡ bay.after (bay_at p.bays i) (came_to i (entry_of limit p e))
  pub opens : accepted_in i (entry_of limit p e) ≡ bay_opens (bay.log (bay_at p.bays i) (came_to i (entry_of limit p e)))
  pub answered : answered_in i (entry_of limit p e) ≡ bay_answers (bay.log (bay_at p.bays i) (came_to i (entry_of limit p e)))

module _ (limit : ℕ) (p : Port) (i : ℕ) (e : ShelfEvent) (v : valid_of limit p ≡ true) (l : i < length p.bays) where
  abbrev r : PortStepped
  r = step_on limit p e

  abbrev b : Bay
  b = bay_at p.bays i

  -- the event is to this phy
  module _ (t : is_to i e ≡ true) where
    number_is : e.number ≡ i
    number_is = eqb-true e.number i (parts (eqb e.number i) (not (is_ports e.number)) t).0

    no_port : is_ports e.number ≡ false
    no_port = not-true (is_ports e.number) (parts (eqb e.number i) (not (is_ports e.number)) t).1

    there : e.number < length p.bays
    there = omega (arith, number_is, l)

    as_own : r.reports ≡ reports_of (step_of (bay_at p.bays e.number) e.event)
    as_own = as_the_bay limit p e.number e.event v (eqb-false e.number the_port no_port) there

    pub own_reports : r.reports ≡ reports_of (step_of b e.event)
    own_reports = as_own ∙ ap (λ (j : ℕ). reports_of (step_of (bay_at p.bays j) e.event)) number_is

    pub own_came : Came b (e.event ∷ []) (requests_to i r.hand_outs) (bay_at r.next.bays i)
    own_came =
        subst (λ (j : ℕ). Came (bay_at p.bays j) (e.event ∷ []) (requests_to j r.hand_outs) (bay_at r.next.bays j)) number_is
        (at_own v (ways limit p e.number e.event) no_port as_own)

    own_one : One limit p i e
    own_one =
        let c = own_came in
        let s = step_of b e.event in
        let given : List Answer = answer_if s.answer.code s.answered in
        record {
          leads = rw t c.leads;
          opens = rw t (ap₂ ◌++◌ (ap (λ (q : Reports). open_if e.event q.refusal) own_reports) (sym c.opens));
          answered = rw t (ap (λ (q : Reports). answer_if q.answer.code q.answered) own_reports ∙ sym (append-nil given) ∙ ap (λ (m : List Answer). given ++ m) (sym c.silent));
        }

  -- it is not
  pub other_came : is_to i e ≡ false → Came b [] (requests_to i r.hand_outs) (bay_at r.next.bays i)
  other_came f = at_other v i (λ m q. false≢true (sym f ∙ rw (m, eq-eqb e.number i (sym q)) refl)) (ways limit p e.number e.event)

  other_one : is_to i e ≡ false → One limit p i e
  other_one f =
      let c = other_came f in
      record { leads = rw f c.leads; opens = rw f (sym c.opens); answered = rw f (sym c.silent) }

  pub one : One limit p i e
  one = by_test (is_to i e) own_one other_one
