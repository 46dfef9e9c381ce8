-- The whole shelf: step by step, what is accepted straight or handed out is answered or held. Every record is that of a bay alone after some events, and there the books of demand 3 balance.
use Prim.Native.Nat.{ℕ, zero, suc, ◌+◌, ◌<◌}
use mathlib.Core.List.{List, [], ◌∷◌, ◌++◌, append-nil}
use mathlib.Core.Path.{◌≡◌, refl, sym, ap, subst, ◌∙◌}
use native.Mathlib.Nat.{not-suc-le-zero, le_of_suc-le-suc}
use native.Mathlib.Omega.{arith}
use lib.ListN.{length, set, replicate, length-append, length-replicate, get_or-replicate}
use Rattle.table.specs.Choice.{pick}
use Rattle.table.proofs.Laws.{by_test}
use Rattle.event.specs.Table.{open_of}
use Rattle.event.specs.declared.Event.{Event}
use Rattle.event.specs.declared.Open.{Open}
use Rattle.event.specs.declared.ShelfEvent.{ShelfEvent}
use Rattle.ledger.specs.Demand.{one_if_waiting}
use Rattle.bay.specs.State.{fresh_bay}
use Rattle.bay.specs.Step.{step_of}
use Rattle.bay.specs.Log as bay
use Rattle.bay.specs.declared.Bay.{Bay}
use Rattle.bay_laws.specs.Spelled.{Answer, open_if, answer_if, bay_opens, bay_answers}
use Rattle.bay_laws.proofs.Steps as bays
use Rattle.bay_laws.proofs.Spelled.{spelled_out_lem}
use Rattle.port.specs.State.{Port, valid_of, fresh_port}
use Rattle.port.specs.Step.{PortStepped, open_event, bay_at, lowest_free, is_ports}
use Rattle.port.specs.Log.{step_on, log, after}
use Rattle.port.proofs.Valid.{bay_valid, lowest_free_lem}
use Rattle.port.proofs.Ways.{Way, is_refused, joins, at_once, takes, frees, ways, is_some}
use Rattle.port_laws.specs.InOrder.{requests_of, accepted_by_port}
use Rattle.port_laws.specs.EachPhy.{came_to, entry_of}
use Rattle.port_laws.specs.Shelf.{accepted_straight, all_answers, held, ShelfBalances}
use Rattle.port_laws.proofs.Steps.{its_open_known, oldest_known, others_equal}
use Rattle.port_laws.proofs.NoneBeside.{still}
use Rattle.port_laws.proofs.InOrder as in_order
use Rattle.port_laws.proofs.InOrder.{none_opened}
use Rattle.port_laws.proofs.Logs.{after_append, gathered_log}
use Rattle.port_laws.proofs.OneEntry.{takes_one, in_silence, one}

-- ---- a bay that some events have led to

record Reached (b : Bay) : Type 0 where
  came : List Event
  led : b ≡ bay.after fresh_bay came

-- its books balance over any events more
balance : (b : Bay) → Reached b → (fs : List Event)
    → one_if_waiting b.phy + length (bay_opens (bay.log b fs)) ≡ length (bay_answers (bay.log b fs)) + one_if_waiting (bay.after b fs).phy
balance b r fs =
    subst (λ (c : Bay). one_if_waiting c.phy + length (bay_opens (bay.log c fs)) ≡ length (bay_answers (bay.log c fs)) + one_if_waiting (bay.after c fs).phy)
    (sym r.led) (from_fresh r.came)
  where
    from_fresh : (es : List Event)
        → one_if_waiting (bay.after fresh_bay es).phy + length (bay_opens (bay.log (bay.after fresh_bay es) fs))
        ≡ length (bay_answers (bay.log (bay.after fresh_bay es) fs)) + one_if_waiting (bay.after (bay.after fresh_bay es) fs).phy
    from_fresh es =
        omega (
          arith,
          (spelled_out_lem es).balance,
          (spelled_out_lem (es ++ fs)).balance,
          ap length (gathered_log (λ (x : bay.Entry). open_if x.event x.result.refusal) fresh_bay es fs) ∙ length-append (bay_opens (bay.log fresh_bay es)) (bay_opens (bay.log (bay.after fresh_bay es) fs)),
          ap length (gathered_log (λ (x : bay.Entry). answer_if x.result.answer.code x.result.answered) fresh_bay es fs) ∙ length-append (bay_answers (bay.log fresh_bay es)) (bay_answers (bay.log (bay.after fresh_bay es) fs)),
          ap (λ (c : Bay). one_if_waiting c.phy) (after_append fresh_bay es fs),
        )

-- ---- one record more or less

held_set : (bays : List Bay) (k : ℕ) (b : Bay) → k < length bays → held (set bays k b) + one_if_waiting (bay_at bays k).phy ≡ held bays + one_if_waiting b.phy
held_set [] k b l = absurd (not-suc-le-zero l)
held_set (x ∷ bays) zero b l = omega arith
held_set (x ∷ bays) (suc k) b l = omega (arith, held_set bays k b (le_of_suc-le-suc l))

none_held : (n : ℕ) → held (replicate n fresh_bay) ≡ 0
none_held zero = refl
none_held (suc n) = omega (arith, none_held n)

-- ---- one step

-- what a step accepts straight, and what it answers
abbrev straight : (number : ℕ) → Event → PortStepped → List Open
straight number e r = pick (is_ports number) [] (open_if e r.reports.refusal)

abbrev answered : PortStepped → List Answer
answered r = answer_if r.reports.answer.code r.reports.answered

-- every record is one that some events have led to
abbrev AllReached : Port → Type 0
AllReached p = (i : ℕ) → i < length p.bays → Reached (bay_at p.bays i)

module _ (limit : ℕ) (p : Port) (number : ℕ) (e : Event) (all : AllReached p) where
  -- events lead one record on
  led_on : (k : ℕ) (fs : List Event) (opens answers : ℕ) → k < length p.bays
      → length (bay_opens (bay.log (bay_at p.bays k) fs)) ≡ opens → length (bay_answers (bay.log (bay_at p.bays k) fs)) ≡ answers
      → held p.bays + opens ≡ answers + held (set p.bays k (bay.after (bay_at p.bays k) fs))
  led_on k fs opens answers l o a =
      omega (arith, o, a, balance (bay_at p.bays k) (all k l) fs, held_set p.bays k (bay.after (bay_at p.bays k) fs) l)

  step : {r : PortStepped} → Way limit p number e r
      → held p.bays + (length (straight number e r) + length (requests_of r.hand_outs)) ≡ length (answered r) + held r.next.bays
  step (is_refused {n} h) = by_test (is_ports number) (λ t. rw t (omega arith)) (λ f. rw (f, none_opened e n (is_some h)) (omega arith))
  step (joins w _) = rw w.ports (omega arith)
  step (at_once w _ some) =
      let k = lowest_free p.bays in
      let there = lowest_free_lem p.bays some in
      let v = bay_valid limit p w.judged.valid k there.0 in
      let known = its_open_known e w.judged.known w.opens in
      rw w.ports
      (led_on k (open_event (open_of e) ∷ []) 1 0 there.0
      (ap length (takes_one (bay_at p.bays k) (open_of e) v there.1 known))
      (ap length (in_silence (bay_at p.bays k) (open_of e) v there.1 known)))
  step (takes w _) =
      let s = step_of (bay_at p.bays number) e in
      let given : List Open = open_if e s.refusal in
      rw w.phys
      (led_on number (e ∷ []) (length given + 0) (length (answer_if s.answer.code s.answered)) w.there
      (length-append given [])
      (ap length (append-nil (answer_if s.answer.code s.answered))))
  step (frees o os w q f) =
      let b = bay_at p.bays number in
      let s = step_of b e in
      let given : List Open = open_if e s.refusal in
      let back : List Answer = answer_if s.answer.code s.answered in
      let v = bays.stays_valid b e (bay_valid limit p w.judged.valid number w.there) in
      let known = oldest_known limit p o os w.judged.valid q in
      rw w.phys
      (led_on number (e ∷ open_event o ∷ []) (length given + 1) (length back) w.there
      (ap (λ (l : List Open). length (given ++ l)) (takes_one s.next o v f known) ∙ length-append given (o ∷ []))
      (ap (λ (l : List Answer). length (back ++ l)) (in_silence s.next o v f known) ∙ ap length (append-nil back)))

-- ---- every list of shelf events

reaches_on : (limit : ℕ) (p : Port) (e : ShelfEvent) → AllReached p → AllReached (step_on limit p e).next
reaches_on limit p e all =
    by_test (valid_of limit p)
    (λ v i l. let there : i < length p.bays = rw (others_equal limit p e.number e.event).count at l in
    let came : List Event = came_to i (entry_of limit p e) in
    let r = all i there in
    record {
      came = r.came ++ came;
      led = (one limit p i e v there).leads ∙ ap (λ (b : Bay). bay.after b came) r.led ∙ sym (after_append fresh_bay r.came came);
    })
    (λ f. subst AllReached (sym (still limit p e f)) all)

balances : (limit : ℕ) (es : List ShelfEvent) (p : Port) → AllReached p
    → held p.bays + length p.queue + (length (accepted_by_port (log limit p es)) + length (accepted_straight (log limit p es)))
    ≡ length (all_answers (log limit p es)) + held (after limit p es).bays + length (after limit p es).queue
balances limit [] p all = omega arith
balances limit (e ∷ es) p all =
    let r = step_on limit p e in
    let w = ways limit p e.number e.event in
    let given = in_order.taken e.number e.event r in
    omega (
      arith,
      balances limit es r.next (reaches_on limit p e all),
      step limit p e.number e.event all w,
      sym (length-append p.queue given) ∙ ap length (in_order.one w) ∙ length-append (requests_of r.hand_outs) r.next.queue,
      length-append given (accepted_by_port (log limit r.next es)),
      length-append (straight e.number e.event r) (accepted_straight (log limit r.next es)),
      length-append (answered r) (all_answers (log limit r.next es)),
    )

pub shelf_balances : ShelfBalances
shelf_balances limit n es =
    omega (
      arith,
      none_held n,
      balances limit es (fresh_port n) (λ i l. record { came = []; led = get_or-replicate n i fresh_bay fresh_bay (rw length-replicate at l) }),
    )
