-- The answers among the bytes are those of the log: a byte is an answer exactly where its step answers, since refusals lie below the answers.
use Prim.Native.Nat.{ℕ, zero, suc, ◌≤◌, ◌<◌}
use mathlib.Core.Bool.{true, false, false≢true}
use mathlib.Core.List.{List, [], ◌∷◌, ◌++◌, map}
use mathlib.Core.Logic.{◌↔◌, inr, ⊎_elim}
use mathlib.Core.Path.{◌≡◌, refl, sym, ap, ◌∙◌}
use native.Mathlib.Omega.{arith}
use borrow.Author.Tests.{eq-eqb, ne_eqb, le-leb}
use lib.Dec.{eqb, leb}
use lib.ListN.{length, take, replicate, length-map}
use Rattle.table.specs.Refusals.{bad_state, bad_event, no_such_phy}
use Rattle.table.proofs.Laws.{by_test, parts}
use Rattle.event.specs.Names.{tx_open}
use Rattle.event.specs.Table.{known_in_trace, open_known}
use Rattle.event.specs.declared.Event.{Event}
use Rattle.event.specs.declared.Open.{Open}
use Rattle.event.specs.declared.ShelfEvent.{ShelfEvent}
use Rattle.phy_laws.specs.Waiting.{is_answer}
use Rattle.phy_laws.proofs.Bytes.{answer_least}
use Rattle.bay.specs.State.{fresh_bay}
use Rattle.bay.specs.declared.Bay.{Bay}
use Rattle.bay_laws.proofs.Bytes as bay
use Rattle.queue.specs.Lent.{lent_as, queue_in, good_lent}
use Rattle.queue.specs.Laws.{AllKnown, MayWait, TellsBack}
use Rattle.queue.proofs.Lending.{lent_back}
use Rattle.shelf.specs.Laws.{ShelfPasses, here, on}
use Rattle.shelf.proofs.Accepted.{read_known}
use Rattle.run.specs.Running.{byte_for}
use Rattle.run.specs.Laws.{answers_in, codes_of}
use Rattle.port.specs.Names.{most_phys, the_port}
use Rattle.port.specs.State.{Port, all_pass, valid_of, fresh_port}
use Rattle.port.specs.Step.{PortStepped, bay_at}
use Rattle.port.specs.Log.{step_on, log, after}
use Rattle.port.specs.Lent.{port_in}
use Rattle.port.proofs.Valid.{sound}
use Rattle.port.proofs.Ways.{Refuses, not_valid, not_known, not_for_port, no_phy, is_full, phys_own, is_some, Way, is_refused, joins, at_once, takes, frees, ways}
use Rattle.port_laws.specs.InOrder.{handed_out}
use Rattle.port_laws.specs.Shelf.{all_answers, held}
use Rattle.port_laws.proofs.Steps.{fresh_valid, stays_valid}
use Rattle.port_laws.proofs.Refusals.{bad_state_exactly, bad_event_exactly}
use Rattle.port_laws.proofs.InOrder.{in_order}
use Rattle.port_laws.proofs.EachPhy.{each_by_itself, after_valid}
use Rattle.port_laws.proofs.Shelf.{shelf_balances}
use Rattle.shelf_run.specs.Running.{byte_of, bytes_of, unset, started, sound_lent, taken, ran_of, row_after, numbers_after, buffer_after}
use Rattle.shelf_run.specs.Laws.{NoOneTwoToPort, OnesAndTwos, AnswersInOrder, LawfulRun, RunsLawful}
use Rattle.shelf_run.proofs.InPlace.{started_valid}
use Rattle.shelf_run.proofs.Stopping.{stops_well_always}
use Rattle.shelf_run.proofs.Written.{writes_taken}

-- ---- the byte of a step is its refusal, or else its answer

-- refusals are at most 12
few_refusals : {limit : ℕ} {p : Port} {number : ℕ} {e : Event} {n : ℕ} → Refuses limit p number e n → n ≤ no_such_phy
few_refusals (not_valid _) = omega arith
few_refusals (not_known _ _) = omega arith
few_refusals (not_for_port _ _ _) = omega arith
few_refusals (no_phy _ _ _) = omega arith
few_refusals (is_full _ _ _ _) = omega arith
few_refusals {p = p} {number} {e} (phys_own _ _ _ _) = omega (arith, bay.few_refusals (bay_at p.bays number) e)

-- refused, it is the refusal and nothing is answered; else it is no answer, or that of a phy
data Byte (r : PortStepped) : Type 0 where
  refusal : (r.reports.refusal ≡ 0 → ⊥) → r.reports.refusal ≤ no_such_phy → r.reports.answer.code ≡ 0 → Byte r
  silent : r.reports.refusal ≡ 0 → r.reports.answer.code ≡ 0 → Byte r
  answer : r.reports.refusal ≡ 0 → is_answer r.reports.answer.code ≡ true → Byte r

by_way : {limit : ℕ} {p : Port} {number : ℕ} {e : Event} {r : PortStepped} → Way limit p number e r → Byte r
by_way (is_refused why) = refusal (is_some why) (few_refusals why) refl
by_way (joins _ _) = silent refl refl
by_way (at_once _ _ _) = silent refl refl
by_way {p = p} {number} {e} (takes w _) = bay.none_or_answer (bay_at p.bays number) e (silent w.taken) (answer w.taken)
by_way {p = p} {number} {e} (frees _ _ w _ _) = bay.none_or_answer (bay_at p.bays number) e (silent w.taken) (answer w.taken)

small_no_answer : (n : ℕ) → n ≤ no_such_phy → is_answer n ≡ false
small_no_answer n h = by_test (is_answer n) (λ t. absurd (omega (arith, answer_least n t))) (λ f. f)

byte_refusal : (r : PortStepped) → (r.reports.refusal ≡ 0 → ⊥) → byte_of r ≡ r.reports.refusal
unfolding byte_for
byte_refusal r n = rw (ne_eqb r.reports.refusal 0 n) refl

byte_answer : (r : PortStepped) → r.reports.refusal ≡ 0 → byte_of r ≡ r.reports.answer.code
unfolding byte_for
byte_answer r z = rw (eq-eqb r.reports.refusal 0 z) refl

-- a byte is an answer exactly where the step answers, and then it is that answer
by_answer : {A : Type 0} (r : PortStepped) → Byte r
    → (is_answer (byte_of r) ≡ true → eqb r.reports.answer.code 0 ≡ false → byte_of r ≡ r.reports.answer.code → A)
    → (is_answer (byte_of r) ≡ false → eqb r.reports.answer.code 0 ≡ true → A)
    → A
by_answer r (refusal n few z) x y = y (rw (byte_refusal r n) (small_no_answer r.reports.refusal few)) (eq-eqb r.reports.answer.code 0 z)
by_answer r (silent n z) x y = y (rw (byte_answer r n, z) refl) (eq-eqb r.reports.answer.code 0 z)
by_answer r (answer n t) x y =
    x (rw (byte_answer r n) t) (ne_eqb r.reports.answer.code 0 (λ z. omega (arith, answer_least r.reports.answer.code t))) (byte_answer r n)

pub answers_in_order : AnswersInOrder
answers_in_order p [] = refl
answers_in_order p (e ∷ es) =
    let r = step_on most_phys p e in
    by_answer r (by_way (ways most_phys p e.number e.event))
    (λ x y q. rw (x, y, q) (ap (λ (l : List ℕ). r.reports.answer.code ∷ l) (answers_in_order r.next es)))
    (λ x y. rw (x, y) (answers_in_order r.next es))

-- ---- bytes that are 1 or 2

-- a small byte is the refusal
is_refusal : (r : PortStepped) → Byte r → (n : ℕ) → 0 < n → n ≤ no_such_phy → byte_of r ≡ n → r.reports.refusal ≡ n
is_refusal r (refusal h _ _) n some few q = sym (byte_refusal r h) ∙ q
is_refusal r (silent z a) n some few q = absurd (omega (arith, sym (byte_answer r z) ∙ q))
is_refusal r (answer z t) n some few q = absurd (omega (arith, answer_least r.reports.answer.code t, sym (byte_answer r z) ∙ q))

module _ (p : Port) (e : ShelfEvent) (v : valid_of most_phys p ≡ true) (k : known_in_trace e.event ≡ true) where
  abbrev r : PortStepped
  r = step_on most_phys p e

  made : Byte r
  made = by_way (ways most_phys p e.number e.event)

  not_one : byte_of r ≡ bad_state → ⊥
  not_one q = false≢true (sym ((bad_state_exactly most_phys p e.number e.event).0 (is_refusal r made bad_state (omega arith) (omega arith) q)) ∙ v)

  two_exactly : byte_of r ≡ bad_event ↔ ((e.number ≡ the_port) × (e.event.code ≡ tx_open → ⊥))
  two_exactly =
      let exactly = bad_event_exactly most_phys p e.number e.event in (
        λ q. ⊎_elim {0, 0, 0} (λ f. absurd (false≢true (sym f ∙ k))) (λ h. h) (exactly.0 (is_refusal r made bad_event (omega arith) (omega arith) q)).1,
        λ h. let n : r.reports.refusal ≡ bad_event = exactly.1 (v, inr h) in byte_refusal r (λ z. omega arith) ∙ n,
      )

passed : (s : List ℕ) (p : Port) (place : ℕ) (es : List ShelfEvent) (last : ℕ) → valid_of most_phys p ≡ true → ShelfPasses s place es last → NoOneTwoToPort (log most_phys p es)
passed s p place es last v here = tt
passed s p place es last v (on {e = e} {next} {es = later} q t) =
    let k = read_known s place e next q in
    (not_one p e v k, two_exactly p e v k, passed s (step_on most_phys p e).next next later last (stays_valid most_phys p e.number e.event v) t)

pub ones_and_twos : OnesAndTwos
ones_and_twos row numbers s budget t =
    let w = stops_well_always s budget in
    let v = (parts (good_lent numbers) (valid_of most_phys (port_in row numbers)) t).1 in
    passed s (started (port_in row numbers)) 0 (taken s budget) w.last (started_valid (port_in row numbers) v) w.passes

-- ---- demand 3 of a fresh port

-- the Opens that wait at a valid port may be lent
may_wait : (p : Port) → valid_of most_phys p ≡ true → MayWait p.queue
may_wait p v = let s = sound most_phys p v in record { known = each p.queue s.known; few = s.short }
  where
    each : (os : List Open) → all_pass open_known os ≡ true → AllKnown os
    each [] h = tt
    each (o ∷ os) h = let q = parts (open_known o) (all_pass open_known os) h in (q.0, each os q.1)

still_fresh : (n : ℕ) → map unset (replicate n fresh_bay) ≡ replicate n fresh_bay
still_fresh zero = refl
still_fresh (suc n) = ap (λ (bays : List Bay). fresh_bay ∷ bays) (still_fresh n)

module _ (n : ℕ) (some : 1 ≤ n) (few : n ≤ most_phys) where
  abbrev row : List Bay
  row = replicate n fresh_bay

  empty : TellsBack []
  empty = lent_back [] (record { known = tt; few = omega arith })

  fresh_lent : port_in row (lent_as []) ≡ fresh_port n
  fresh_lent = ap (λ (os : List Open). record { bays = row; queue = os }) empty.same

  begins_fresh : started (port_in row (lent_as [])) ≡ fresh_port n
  begins_fresh = ap started fresh_lent ∙ ap (λ (bays : List Bay). record { bays = bays; queue = [] }) (still_fresh n)

  fresh_sound : sound_lent row (lent_as []) ≡ true
  fresh_sound = rw (empty.good, fresh_lent) (fresh_valid most_phys n some few)

  module _ (s : List ℕ) (budget : ℕ) (buffer : List ℕ) (h : budget ≤ length buffer) where
    abbrev es : List ShelfEvent
    es = taken s budget

    abbrev left : Port
    left = after most_phys (fresh_port n) es

    goes : leb budget (length buffer) ≡ true
    goes = le-leb budget (length buffer) h

    row_left : row_after row (lent_as []) s budget buffer ≡ left.bays
    row_left = rw (fresh_sound, goes) (ap (λ (p : Port). (after most_phys p es).bays) begins_fresh)

    queue_left : queue_in (numbers_after row (lent_as []) s budget buffer) ≡ left.queue
    queue_left =
        rw (fresh_sound, goes) (ap (λ (p : Port). queue_in (lent_as (after most_phys p es).queue)) begins_fresh)
        ∙ (lent_back left.queue (may_wait left (after_valid most_phys es (fresh_port n) (fresh_valid most_phys n some few)))).same

    given : answers_in (take (ran_of row (lent_as []) s budget buffer).count (buffer_after row (lent_as []) s budget buffer)) ≡ codes_of (all_answers (log most_phys (fresh_port n) es))
    given =
        ap answers_in (writes_taken row (lent_as []) s budget buffer fresh_sound h)
        ∙ ap (λ (p : Port). answers_in (bytes_of p es)) begins_fresh ∙ answers_in_order (fresh_port n) es

    lawful_run : LawfulRun n s budget buffer
    lawful_run =
        record {
          lawful = λ i l. each_by_itself most_phys n i es some few l;
          answers = given;
          in_order = in_order most_phys n es ∙ ap (λ (os : List Open). handed_out (log most_phys (fresh_port n) es) ++ os) (sym queue_left);
          balance =
              omega (
                arith,
                shelf_balances most_phys n es,
                ap length given ∙ length-map (all_answers (log most_phys (fresh_port n) es)) (λ a. a.code),
                ap held row_left,
                ap length queue_left,
              );
        }

pub runs_lawful : RunsLawful
runs_lawful n s budget buffer some few h = lawful_run n some few s budget buffer h
