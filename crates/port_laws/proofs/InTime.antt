-- Answered in time: an entry in which a phy accepts an Open ends with the Tx Open that it accepts, and from there the bay's law tells.
use Prim.Native.Nat.{ℕ, ◌≤◌, ◌<◌}
use mathlib.Core.Bool.{true, ◌&&◌}
use mathlib.Core.List.{List, [], ◌∷◌, ◌++◌, map, append-nil}
use mathlib.Core.Path.{◌≡◌, refl, sym, ap, subst, ◌∙◌}
use native.Mathlib.Omega.{arith}
use borrow.Author.Tests.{eqb-true}
use lib.Dec.{eqb}
use lib.ListN.{length, length-append, length-replicate}
use Rattle.table.proofs.Laws.{by_test, apart, parts}
use Rattle.event.specs.Names.{tx_open}
use Rattle.event.specs.Table.{open_of}
use Rattle.event.specs.declared.Event.{Event}
use Rattle.event.specs.declared.Open.{Open}
use Rattle.event.specs.declared.ShelfEvent.{ShelfEvent}
use Rattle.phy.specs.Step as phy
use Rattle.ledger.specs.Log as ledger
use Rattle.ledger.specs.Log.{many, ticked, heard_aip}
use Rattle.ledger.specs.Ledger.{due}
use Rattle.bay.specs.State.{fresh_bay}
use Rattle.bay.specs.Step.{step_of}
use Rattle.bay.specs.Log as bay
use Rattle.bay.specs.declared.Bay.{Bay}
use Rattle.bay_laws.specs.Spelled.{spelled_out, open_if, bay_opens, AnsweredInTime}
use Rattle.bay_laws.proofs.Spelled.{answered_by_stamps}
use Rattle.port.specs.State.{Port, valid_of, fresh_port}
use Rattle.port.specs.Step.{open_event, bay_at}
use Rattle.port.specs.declared.Reports.{Reports}
use Rattle.port.specs.Log.{step_on, log, after}
use Rattle.port_laws.specs.Laws.{requests_to}
use Rattle.port_laws.specs.EachPhy.{is_to, came_to, bay_events, accepted_in, entry_of, AnsweredByTicks}
use Rattle.port_laws.proofs.Steps.{fresh_valid, stays_valid, others_equal}
use Rattle.port_laws.proofs.Logs.{after_append}
use Rattle.port_laws.proofs.OneEntry.{own_reports, own_came, other_came, one}
use Rattle.port_laws.proofs.EachPhy.{all, after_valid, after_count, each_by_itself}

-- the last of events is a Tx Open that is accepted
record Accepts (b : Bay) (fs : List Event) (o : Open) : Type 0 where
  before : List Event
  last : Event
  whole : fs ≡ before ++ (last ∷ [])
  code : last.code ≡ tx_open
  taken : (step_of (bay.after b before) last).refusal ≡ 0
  its_open : open_of last ≡ o

-- what is accepted is a Tx Open that is not refused
is_open : (e : Event) (n : ℕ) (o : Open) → open_if e n ≡ o ∷ [] → (e.code ≡ tx_open) × (n ≡ 0) × (open_of e ≡ o)
is_open e n o h =
    by_test (eqb e.code tx_open && eqb n 0)
    (λ t. let q = parts (eqb e.code tx_open) (eqb n 0) t in let s : (open_of e ∷ []) ≡ o ∷ [] = rw t at h in (eqb-true e.code tx_open q.0, eqb-true n 0 q.1, cc))
    (λ f. let s : [] ≡ o ∷ [] = rw f at h in apart (cc))

-- of Opens behind others, of which there is one in all
module _ (b : Bay) (own : List Event) (o : Open) where
  last_of : (given os : List Open) → bay_opens (bay.log (bay.after b own) (map open_event os)) ≡ os → given ++ os ≡ o ∷ []
      → (given ≡ o ∷ [] → Accepts b (own ++ []) o) → Accepts b (own ++ map open_event os) o
  last_of given [] c h straight = straight (sym (append-nil given) ∙ h)
  last_of [] (q ∷ []) c h straight =
      record {
        before = own;
        last = open_event q;
        whole = refl;
        code = refl;
        taken = (is_open (open_event q) (step_of (bay.after b own) (open_event q)).refusal q (sym (append-nil _) ∙ c)).1;
        its_open = cc;
      }
  last_of (g ∷ gs) (q ∷ []) c h straight = absurd (omega (arith, ap length h, length-append gs (q ∷ [])))
  last_of given (q ∷ s ∷ os) c h straight = absurd (omega (arith, ap length h, length-append given (q ∷ s ∷ os)))

accepts : (limit : ℕ) (p : Port) (i : ℕ) (e : ShelfEvent) (o : Open) → valid_of limit p ≡ true → i < length p.bays
    → accepted_in i (entry_of limit p e) ≡ o ∷ [] → Accepts (bay_at p.bays i) (came_to i (entry_of limit p e)) o
accepts limit p i e o v l h =
    let b = bay_at p.bays i in
    let os = requests_to i (step_on limit p e).hand_outs in
    by_test (is_to i e)
    (λ t. let c = own_came limit p i e v l t in
    let n = (step_on limit p e).reports.refusal in
    rw t (last_of b (e.event ∷ []) o (open_if e.event n) os c.opens (rw t at h)
    (λ q. let s = is_open e.event n o q in
    record { before = []; last = e.event; whole = refl; code = s.0; taken = sym (ap (λ (r : Reports). r.refusal) (own_reports limit p i e v l t)) ∙ s.1; its_open = s.2 })))
    (λ f. rw f (last_of b [] o [] os (other_came limit p i e v l f).opens (rw f at h) (λ q. apart (cc))))

-- the bay's law, of a bay and an Open that are known by equations
answered_later : (es : List Event) (e : Event) (b : Bay) (o : Open) (fs : List Event)
    → (e.code ≡ tx_open) × ((step_of (bay.after fresh_bay es) e).refusal ≡ 0) → open_of e ≡ o → b ≡ (step_of (bay.after fresh_bay es) e).next
    → due (many heard_aip (ledger.log phy.step_of b.phy (spelled_out b fs))) ≤ many ticked (ledger.log phy.step_of b.phy (spelled_out b fs))
    → AnsweredInTime b o fs
answered_later es e b o fs a q g =
    subst (λ (c : Bay). due (many heard_aip (ledger.log phy.step_of c.phy (spelled_out c fs))) ≤ many ticked (ledger.log phy.step_of c.phy (spelled_out c fs)) → AnsweredInTime c o fs)
    (sym g)
    (λ d. subst (λ (x : Open). AnsweredInTime (step_of (bay.after fresh_bay es) e).next x fs) q (answered_by_stamps es e fs a d))

pub answered_by_ticks : AnsweredByTicks
answered_by_ticks limit n i es e o fs some few l h d =
    let p = after limit (fresh_port n) es in
    let next = (step_on limit p e).next in
    let v = after_valid limit es (fresh_port n) (fresh_valid limit n some few) in
    let there : i < length p.bays = rw (after_count limit es (fresh_port n), length-replicate) l in
    let w = accepts limit p i e o v there h in
    let b = bay_at p.bays i in
    let came : List Event = bay_events i (log limit (fresh_port n) es) in
    let back : bay.after b w.before ≡ bay.after fresh_bay (came ++ w.before) =
    ap (λ (c : Bay). bay.after c w.before) (each_by_itself limit n i es some few l).alone ∙ sym (after_append fresh_bay came w.before) in
    let here : bay_at next.bays i ≡ (step_of (bay.after fresh_bay (came ++ w.before)) w.last).next =
    (one limit p i e v there).leads ∙ ap (bay.after b) w.whole ∙ after_append b w.before (w.last ∷ []) ∙ ap (λ (c : Bay). (step_of c w.last).next) back in
    record {
      in_time = answered_later (came ++ w.before) w.last (bay_at next.bays i) o (bay_events i (log limit next fs)) (w.code, ap (λ (c : Bay). (step_of c w.last).refusal) (sym back) ∙ w.taken) w.its_open here d;
      told = (all limit fs next i (stays_valid limit p e.number e.event v) (rw (others_equal limit p e.number e.event).count there)).answered;
    }
