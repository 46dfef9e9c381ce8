-- A step in place is the definition's: the survey and the queue are sound exactly where the port is valid, and then what the code makes of the event agrees; refused, the record is put back as it was.
use Prim.Native.Nat.{ℕ}
use mathlib.Core.Bool.{Bool, true, false, ◌&&◌}
use mathlib.Core.List.{List}
use mathlib.Core.Path.{◌≡◌, refl, sym, ap, subst, ◌∙◌}
use borrow.Author.Tests.{eqb-false}
use lib.Dec.{eqb}
use lib.ListN.{set}
use lib.Seq.{set-get_or}
use Rattle.table.specs.Refusals.{bad_state, bad_event}
use Rattle.table.proofs.Laws.{by_test, parts}
use Rattle.event.specs.Table.{known_in_trace}
use Rattle.event.specs.declared.Event.{Event}
use Rattle.event.specs.declared.Open.{Open}
use Rattle.bay.specs.State.{fresh_bay}
use Rattle.bay.specs.declared.Bay.{Bay}
use Rattle.queue.specs.Lent.{lent_as, queue_in, good_lent}
use Rattle.queue.proofs.Lending.{good_is_lent, lent_back}
use Rattle.port.specs.Names.{most_phys}
use Rattle.port.specs.State.{Port, valid_of}
use Rattle.port.specs.Step.{PortStepped, refused, bay_at, port_step_of}
use Rattle.port.specs.Lent.{port_in, lent_step, numbers_after, tells}
use Rattle.port.specs.Stages.{begun, scanned, sound_scan, standing_in, standing_of, Course, keeps_all, concerned, taken_of, plan_of, target_of, planned_of, queue_after}
use Rattle.port.specs.Promises.{Steps}
use Rattle.port.specs.Laws.{LentFollows, BadQueueRefused}
use Rattle.port.specs.declared.Scan.{Scan}
use Rattle.port.proofs.Valid.{sound, known_all}
use Rattle.port.proofs.Ways.{Way, is_refused, joins, at_once, takes, frees, ways}
use Rattle.port.proofs.Agrees.{takes_agree}
use Rattle.port.proofs.Surveyed.{surveyed, sound_exactly, stands_so}

-- ---- the numbers of a queue

kept_way : {limit : ℕ} {p : Port} {number : ℕ} {e : Event} {r : PortStepped} → Way limit p number e r → (r.reports.refusal ≡ 0 → ⊥) → r.next ≡ p
kept_way (is_refused why) n = refl
kept_way (joins w f) n = absurd (n refl)
kept_way (at_once w q h) n = absurd (n refl)
kept_way (takes w y) n = absurd (n w.taken)
kept_way (frees o os w q t) n = absurd (n w.taken)

-- of a port as it was lent, the numbers afterwards are those of its queue afterwards, refused or not
pub numbers_so : (p : Port) (number : ℕ) (e : Event) (ns : List ℕ) → ns ≡ lent_as p.queue
    → numbers_after ns (port_step_of most_phys p number e) ≡ lent_as (port_step_of most_phys p number e).next.queue
numbers_so p number e ns l =
    by_test (eqb (port_step_of most_phys p number e).reports.refusal 0)
    (λ t. rw t refl)
    (λ f. rw f (l ∙ ap (λ (q : Port). lent_as q.queue) (sym (kept_way (ways most_phys p number e) (eqb-false (port_step_of most_phys p number e).reports.refusal 0 f)))))

module _ (bays : List Bay) (ns : List ℕ) (number : ℕ) (e : Event) where
  abbrev scan : Scan
  scan = scanned begun bays

  abbrev at : ℕ
  at = target_of scan number

  abbrev own : Bay
  own = bay_at bays at

  abbrev plan : Course
  plan = plan_of scan own ns number e

  abbrev Made : Course → Type 0
  Made c = Steps bays ns number e c.taken.stepped (set bays at c.taken.bay) c.queue

  -- refused, by the code and by the definition
  keeps_so : (n : ℕ) → plan ≡ keeps_all (standing_in scan ns) own ns n → lent_step bays ns number e ≡ refused (port_in bays ns) n → (eqb n 0 ≡ false) → Made plan
  keeps_so n c d z =
      record {
        says = ap (λ (x : Course). x.taken.stepped) c ∙ ap tells (sym d);
        row_left = ap (λ (x : Course). set bays at x.taken.bay) c ∙ set-get_or bays at fresh_bay ∙ ap (λ (r : PortStepped). r.next.bays) (sym d);
        queue_left = ap (λ (x : Course). x.queue) c ∙ sym (ap (numbers_after ns) d ∙ rw z refl);
      }

  bad_state_lem : good_lent ns && valid_of most_phys (port_in bays ns) ≡ false → lent_step bays ns number e ≡ refused (port_in bays ns) bad_state
  unfolding lent_step port_step_of
  bad_state_lem f =
      by_test (good_lent ns)
      (λ g. rw (g, subst (λ (b : Bool). b && valid_of most_phys (port_in bays ns) ≡ false) g f))
      (λ g. rw g)

  module _ (good : good_lent ns ≡ true) (v : valid_of most_phys (port_in bays ns) ≡ true) where
    sound_now : sound_scan scan ns ≡ true
    sound_now = sound_exactly bays ns ∙ rw (good, v)

    as_lent : lent_step bays ns number e ≡ port_step_of most_phys (port_in bays ns) number e
    unfolding lent_step
    as_lent = rw good

    bad_event_lem : known_in_trace e ≡ false → Made plan
    unfolding plan_of port_step_of
    bad_event_lem f = keeps_so bad_event (rw (sound_now, f)) (as_lent ∙ rw (v, f)) refl

    known_event : known_in_trace e ≡ true → Made plan
    unfolding plan_of
    known_event k =
        let p : Port = port_in bays ns in
        let l : ns ≡ lent_as (queue_in ns) = good_is_lent ns good in
        let m = ap (λ (s : Scan). concerned s.free number) (surveyed bays (sound most_phys p v).few) in
        let c : plan ≡ taken_of (standing_of p) (bay_at bays (concerned (standing_of p).free number)) (lent_as p.queue) number e
        = rw (sound_now, k) (λ i. taken_of (stands_so bays ns v i) (bay_at bays (m i)) (l i) number e) in
        let a = takes_agree p number e v k in
        record {
          says = ap (λ (x : Course). x.taken.stepped) c ∙ a.says ∙ ap tells (sym as_lent);
          row_left = (λ i. set bays (m i) (c i).taken.bay) ∙ a.row ∙ ap (λ (r : PortStepped). r.next.bays) (sym as_lent);
          queue_left = ap (λ (x : Course). x.queue) c ∙ a.queue ∙ sym (ap (numbers_after ns) as_lent ∙ numbers_so p number e ns l);
        }

  pub in_place : Steps bays ns number e (planned_of scan own ns number e).stepped (set bays at (planned_of scan own ns number e).bay) (queue_after scan own ns number e)
  unfolding plan_of
  in_place =
      by_test (good_lent ns && valid_of most_phys (port_in bays ns))
      (λ t. let q = parts (good_lent ns) (valid_of most_phys (port_in bays ns)) t in by_test (known_in_trace e) (known_event q.0 q.1) (bad_event_lem q.0 q.1))
      (λ f. keeps_so bad_state (rw (sound_exactly bays ns ∙ f)) (bad_state_lem f) refl)

-- ---- the port as it is lent

pub bad_queue_refused : BadQueueRefused
unfolding lent_step
bad_queue_refused row numbers number e f = rw f

pub lent_follows : LentFollows
unfolding lent_step
lent_follows p number e v =
    let s = sound most_phys p v in
    let b = lent_back p.queue (record { known = known_all p.queue s.known; few = s.short }) in
    record {
      step = rw b.good (ap (λ (q : List Open). port_step_of most_phys (record { bays = p.bays; queue = q }) number e) b.same);
      numbers = numbers_so p number e (lent_as p.queue) refl;
    }
