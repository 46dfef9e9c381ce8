-- What the code makes of an event is what the definition says: by the ways of a step. The mask is that of the row, before and after, so its ones are the free phys and its trailing zeros the lowest.
use Prim.Native.Nat.{ℕ, ◌+◌, ◌-◌, ◌≤◌, ◌<◌}
use mathlib.Core.Bool.{true, false, ◌&&◌, and-false, false≢true}
use mathlib.Core.List.{List, [], ◌∷◌, ◌++◌}
use mathlib.Core.Logic.{◌⊎◌, ⊎_elim}
use mathlib.Core.Path.{◌≡◌, sym, ap, subst, ◌∙◌}
use native.Mathlib.Omega.{arith}
use borrow.Author.Tests.{lt-ltb, le-ltb, eq-eqb, ne_eqb}
use lib.Dec.{eqb, ltb}
use lib.ListN.{length, set, length-set, length-append, length-map}
use lib.Seq.{get_or-set_same, set-set, set-get_or}
use Rattle.std.proofs.lemmas.List.{get_or-map, map-set}
use Rattle.table.proofs.Laws.{parts}
use Rattle.event.specs.Names.{tx_open}
use Rattle.event.specs.Table.{known_in_trace, open_of, open_known}
use Rattle.event.specs.declared.Event.{Event}
use Rattle.event.specs.declared.Open.{Open}
use Rattle.bay.specs.State as bayState
use Rattle.bay.specs.State.{fresh_bay}
use Rattle.bay.specs.Step as bay
use Rattle.bay.specs.declared.Bay.{Bay}
use Rattle.bay.specs.declared.Stepped.{Stepped as BayStepped}
use Rattle.bay_laws.proofs.Steps.{stays_valid}
use Rattle.bay_laws.proofs.Refusals.{step_is_move}
use Rattle.queue.specs.Lent.{most_waiting, lent_as, open_from, joined, advanced}
use Rattle.queue.proofs.Moves.{joins_last, oldest_first, moves_up}
use Rattle.port.specs.Names.{most_phys}
use Rattle.port.specs.Flags.{mask_of}
use Rattle.port.specs.State.{Port, is_free, free_of, free_phys, all_pass, valid_of}
use Rattle.port.specs.Step.{PortStepped, refused, only_refusal, reports_of, open_event, bay_at, lowest_free, received, is_ports}
use Rattle.port.specs.Lent.{tells_in}
use Rattle.port.specs.Stages.{standing, standing_of, some_free, lowest_in, concerned, free_after, Course, none_handed, keeps_all, receives, hand_on, on_moved, on_port, taken_of}
use Rattle.port.specs.declared.Standing.{Standing}
use Rattle.port.specs.Laws.{Agrees, TakesAgree}
use Rattle.port.proofs.Mask.{ones_are_many, zeros_are_lowest, mask_set}
use Rattle.port.proofs.Valid.{sound, bay_valid, then_free, then_lowest, lowest_free_lem, none_free}
use Rattle.port.proofs.Ways.{Judged, ToPort, ToPhy, Refuses, not_valid, not_known, not_for_port, no_phy, is_full, phys_own, Way, is_refused, joins, at_once, takes, frees, open_known_lem, ways}

-- ---- the mask of a row

abbrev mask_in : List Bay → ℕ
mask_in bays = mask_of (free_of bays)

pub some_is : (bays : List Bay) → some_free (mask_in bays) ≡ ltb 0 (free_phys bays)
some_is bays = ap (ltb 0) (ones_are_many (free_of bays))

lowest_is : (bays : List Bay) → length bays ≤ most_phys → 0 < free_phys bays → lowest_in (mask_in bays) ≡ lowest_free bays
lowest_is bays l h = zeros_are_lowest 64 (free_of bays) (omega (arith, length-map bays is_free, l)) h

follows : (bays : List Bay) (i : ℕ) (b : Bay) → i < length bays → free_after (mask_in bays) i (is_free (bay_at bays i)) (is_free b) ≡ mask_in (set bays i b)
follows bays i b l =
    mask_set (free_of bays) i (is_free (bay_at bays i)) (is_free b) (subst (λ (n : ℕ). i < n) (sym (length-map bays is_free)) l) (get_or-map is_free bays i fresh_bay false l)
    ∙ ap mask_of (sym (map-set is_free bays i b))

-- ---- each way

-- the Tx Open of an Open is the event that it came with
pub open_again : (e : Event) → e.code ≡ tx_open → open_event (open_of e) ≡ e
open_again e c = λ i. record { code = sym c i; first = e.first; second = e.second; third = e.third; fourth = e.fourth; fifth = e.fifth; sixth = e.sixth }

module _ (p : Port) (number : ℕ) (e : Event) (v : valid_of most_phys p ≡ true) where
  abbrev at : ℕ
  at = concerned (mask_in p.bays) number

  abbrev b : Bay
  b = bay_at p.bays at

  abbrev now : Course
  now = taken_of (standing_of p) b (lent_as p.queue) number e

  few : length p.bays ≤ most_phys
  few = (sound most_phys p v).few

  -- refused, all is as it was
  kept : (n : ℕ) → now ≡ keeps_all (standing_of p) b (lent_as p.queue) n → Agrees p at now (refused p n)
  kept n q =
      record {
        row = ap (λ (c : Course). set p.bays at c.taken.bay) q ∙ set-get_or p.bays at fresh_bay;
        queue = ap (λ (c : Course). c.queue) q;
        stands = ap (λ (c : Course). c.taken.standing) q;
        says = ap (λ (c : Course). c.taken.stepped) q;
      }

  own_at : is_ports number ≡ false → at ≡ number
  unfolding concerned
  own_at f = rw f

  module _ (j : Judged most_phys p e) where
    -- an event to a phy of the port, as its own record takes it
    module _ (f : is_ports number ≡ false) (l : number < length p.bays) where
      abbrev own : Bay
      own = bay_at p.bays number

      own_valid : bayState.valid_of own ≡ true
      own_valid = bay_valid most_phys p v number l

      abbrev r : BayStepped
      r = bay.step_of own e

      to_own : now ≡ on_moved (standing_of p) number own (lent_as p.queue) r
      unfolding taken_of
      to_own =
          rw (f, lt-ltb number (length p.bays) l, lt-ltb number most_phys (omega (arith, few)))
          ((λ i. on_moved (standing_of p) number (bay_at p.bays (own_at f i)) (lent_as p.queue) (bay.move_of (bay_at p.bays (own_at f i)) e))
          ∙ ap (on_moved (standing_of p) number own (lent_as p.queue)) (sym (step_is_move own e (record { valid = own_valid; known = j.known }))))

    why_kept : {n : ℕ} → Refuses most_phys p number e n → now ≡ keeps_all (standing_of p) b (lent_as p.queue) n
    unfolding taken_of on_port on_moved
    why_kept (not_valid f) = absurd (false≢true (sym f ∙ v))
    why_kept (not_known _ f) = absurd (false≢true (sym f ∙ j.known))
    why_kept (not_for_port _ t n) = rw (t, ne_eqb e.code tx_open n)
    why_kept (no_phy _ f l) = rw (f, le-ltb number (length p.bays) l)
    why_kept (is_full _ t o l) = rw (t, eq-eqb e.code tx_open o, le-ltb (length p.queue) most_waiting l)
    why_kept (phys_own _ f l n) = to_own f l ∙ rw (ne_eqb (r f l).refusal 0 n) (ap (λ (i : ℕ). keeps_all (standing_of p) (bay_at p.bays i) (lent_as p.queue) (r f l).refusal) (sym (own_at f)))

  -- ---- to the port

  module _ (w : ToPort most_phys p number e) where
    e_opens : eqb e.code tx_open ≡ true
    e_opens = eq-eqb e.code tx_open w.opens

    to_port_lem : now ≡ on_port (standing_of p) b (lent_as p.queue) e
    unfolding taken_of
    to_port_lem = rw (w.ports, e_opens)

    room : ltb (length p.queue) most_waiting ≡ true
    room = lt-ltb (length p.queue) most_waiting w.room

    join_agrees : free_phys p.bays ≡ 0
        → Agrees p at now (record { next = record { bays = p.bays; queue = p.queue ++ (open_of e ∷ []) }; reports = only_refusal 0; hand_outs = [] })
    unfolding on_port
    join_agrees n =
        let q : now ≡ record { taken = none_handed b (standing (length p.bays) (mask_in p.bays) (length p.queue + 1)) (only_refusal 0); queue = joined (lent_as p.queue) (length p.queue) (open_of e) }
        = to_port_lem ∙ rw (room, some_is p.bays ∙ le-ltb 0 (free_phys p.bays) (omega (arith, n))) in
        record {
          row = ap (λ (c : Course). set p.bays at c.taken.bay) q ∙ set-get_or p.bays at fresh_bay;
          queue = ap (λ (c : Course). c.queue) q ∙ joins_last p.queue (open_of e) w.room;
          stands = ap (λ (c : Course). c.taken.standing) q ∙ ap (standing (length p.bays) (mask_in p.bays)) (sym (length-append p.queue (open_of e ∷ [])));
          says = ap (λ (c : Course). c.taken.stepped) q;
        }

    module _ (q : p.queue ≡ []) (h : 0 < free_phys p.bays) where
      abbrev lowest : ℕ
      lowest = lowest_free p.bays

      abbrev got : BayStepped
      got = received p.bays (open_of e)

      at_lowest : at ≡ lowest
      unfolding concerned
      at_lowest = rw w.ports (lowest_is p.bays few h)

      there : lowest < length p.bays
      there = (lowest_free_lem p.bays h).0

      is_got : bay.move_of (bay_at p.bays lowest) e ≡ got
      is_got =
          sym (step_is_move (bay_at p.bays lowest) e (record { valid = bay_valid most_phys p v lowest there; known = w.judged.known }))
          ∙ ap (bay.step_of (bay_at p.bays lowest)) (sym (open_again e w.opens))

      given : now ≡ record { taken = receives (standing_of p) lowest (bay_at p.bays lowest) (only_refusal 0) (length p.queue) got; queue = lent_as p.queue }
      unfolding on_port
      given =
          to_port_lem ∙ rw (room, some_is p.bays ∙ lt-ltb 0 (free_phys p.bays) h)
          ((λ i. record { taken = receives (standing_of p) (lowest_is p.bays few h i) (bay_at p.bays (at_lowest i)) (only_refusal 0) (length p.queue) (bay.move_of (bay_at p.bays (at_lowest i)) e); queue = lent_as p.queue })
          ∙ ap (λ (r : BayStepped). record { taken = receives (standing_of p) lowest (bay_at p.bays lowest) (only_refusal 0) (length p.queue) r; queue = lent_as p.queue }) is_got)

      once_agrees : Agrees p at now
          (record {
            next = record { bays = set p.bays lowest got.next; queue = [] };
            reports = only_refusal 0;
            hand_outs = record { phy = lowest; request = open_of e; sent = got.sent.code } ∷ [];
          })
      once_agrees =
          record {
            row = (λ i. set p.bays (at_lowest i) (given i).taken.bay);
            queue = ap (λ (c : Course). c.queue) given ∙ ap lent_as q;
            stands = ap (λ (c : Course). c.taken.standing) given ∙ λ i. standing (sym (length-set p.bays lowest got.next) i) (follows p.bays lowest got.next there i) (ap length q i);
            says = ap (λ (c : Course). c.taken.stepped) given ∙ ap (λ (k : ℕ). tells_in (only_refusal 0) k got.sent.code) (lowest_is p.bays few h);
          }

  -- ---- to a phy

  module _ (w : ToPhy most_phys p number e) where
    abbrev mine : Bay
    mine = bay_at p.bays number

    abbrev made : BayStepped
    made = bay.step_of mine e

    abbrev then : List Bay
    then = set p.bays number made.next

    abbrev stood : Standing
    stood = standing (length then) (mask_in then) (length p.queue)

    goes_on : now ≡ hand_on stood number made.next (lent_as p.queue) (reports_of made)
    unfolding on_moved
    goes_on =
        to_own w.judged w.phys w.there ∙ rw (eq-eqb made.refusal 0 w.taken)
        (λ i. hand_on (standing (sym (length-set p.bays number made.next) i) (follows p.bays number made.next w.there i) (length p.queue)) number made.next (lent_as p.queue) (reports_of made))

    take_agrees : (p.queue ≡ []) ⊎ (free_phys then ≡ 0)
        → Agrees p at now (record { next = record { bays = then; queue = p.queue }; reports = reports_of made; hand_outs = [] })
    unfolding hand_on
    take_agrees y =
        let none : ltb 0 (length p.queue) && some_free (mask_in then) ≡ false
        = ⊎_elim (λ z. rw (le-ltb 0 (length p.queue) (omega (arith, ap length z)))) (λ n. rw (some_is then ∙ le-ltb 0 (free_phys then) (omega (arith, n))) (and-false (ltb 0 (length p.queue)))) y in
        let q : now ≡ record { taken = none_handed made.next stood (reports_of made); queue = lent_as p.queue } = goes_on ∙ rw none in
        record {
          row = (λ i. set p.bays (own_at w.phys i) (q i).taken.bay);
          queue = ap (λ (c : Course). c.queue) q;
          stands = ap (λ (c : Course). c.taken.standing) q;
          says = ap (λ (c : Course). c.taken.stepped) q;
        }

    module _ (o : Open) (os : List Open) (q : p.queue ≡ o ∷ os) (t : is_free made.next ≡ true) where
      abbrev got_it : BayStepped
      got_it = bay.step_of made.next (open_event o)

      before_none : free_phys p.bays ≡ 0
      before_none = none_free most_phys p v (omega (arith, ap length q))

      one_free : free_phys then ≡ 1
      one_free = then_free p.bays number w.there before_none made.next ∙ rw t

      made_valid : bayState.valid_of made.next ≡ true
      made_valid = stays_valid mine e (bay_valid most_phys p v number w.there)

      known : open_known o ≡ true
      known = (parts (open_known o) (all_pass open_known os) (subst (λ (l : List Open). all_pass open_known l ≡ true) q (sound most_phys p v).known)).0

      is_oldest : open_from (lent_as p.queue) ≡ o
      is_oldest = ap (λ (l : List Open). open_from (lent_as l)) q ∙ oldest_first o os

      is_made : bay.move_of made.next (open_event (open_from (lent_as p.queue))) ≡ got_it
      is_made =
          ap (λ (x : Open). bay.move_of made.next (open_event x)) is_oldest
          ∙ sym (step_is_move made.next (open_event o) (record { valid = made_valid; known = open_known_lem o known }))

      there_now : number < length then
      there_now = subst (λ (n : ℕ). number < n) (sym (length-set p.bays number made.next)) w.there

      handed_on : now ≡ record { taken = receives stood number made.next (reports_of made) (length os) got_it; queue = lent_as os }
      unfolding hand_on
      handed_on =
          goes_on ∙ rw (lt-ltb 0 (length p.queue) (omega (arith, ap length q)), some_is then ∙ lt-ltb 0 (free_phys then) (omega (arith, one_free)))
          (λ i. record {
            taken = receives stood number made.next (reports_of made) (fewer i) (is_made i);
            queue = gone i;
          })
        where
          fewer : length p.queue - 1 ≡ length os
          fewer = omega (arith, ap length q)

          gone : advanced (lent_as p.queue) (length p.queue) ≡ lent_as os
          gone = ap (λ (l : List Open). advanced (lent_as l) (length l)) q ∙ moves_up o os (omega (arith, ap length q, (sound most_phys p v).short))

      mask_then : free_after (mask_in then) number (is_free made.next) (is_free got_it.next) ≡ mask_in (set p.bays number got_it.next)
      mask_then =
          ap (λ (x : Bay). free_after (mask_in then) number (is_free x) (is_free got_it.next)) (sym (get_or-set_same p.bays number made.next fresh_bay w.there))
          ∙ follows then number got_it.next there_now ∙ ap mask_in (set-set p.bays number made.next got_it.next)

      lowest_then : lowest_in (mask_in then) ≡ number
      lowest_then =
          lowest_is then (subst (λ (n : ℕ). n ≤ most_phys) (sym (length-set p.bays number made.next)) few) (omega (arith, one_free))
          ∙ then_lowest p.bays number w.there before_none made.next t

      free_agrees : Agrees p at now
          (record {
            next = record { bays = set p.bays number got_it.next; queue = os };
            reports = reports_of made;
            hand_outs = record { phy = number; request = o; sent = got_it.sent.code } ∷ [];
          })
      free_agrees =
          record {
            row = (λ i. set p.bays (own_at w.phys i) (handed_on i).taken.bay);
            queue = ap (λ (c : Course). c.queue) handed_on;
            stands =
                ap (λ (c : Course). c.taken.standing) handed_on
                ∙ λ i. standing ((length-set p.bays number made.next ∙ sym (length-set p.bays number got_it.next)) i) (mask_then i) (length os);
            says = ap (λ (c : Course). c.taken.stepped) handed_on ∙ ap (λ (k : ℕ). tells_in (reports_of made) k got_it.sent.code) lowest_then;
          }

  by_way : known_in_trace e ≡ true → {r : PortStepped} → Way most_phys p number e r → Agrees p at now r
  by_way k (is_refused {n} why) = kept n (why_kept (record { valid = v; known = k }) why)
  by_way k (joins w n) = join_agrees w n
  by_way k (at_once w q h) = once_agrees w q h
  by_way k (takes w y) = take_agrees w y
  by_way k (frees o os w q t) = free_agrees w o os q t

pub takes_agree : TakesAgree
takes_agree p number e v k = by_way p number e v k (ways most_phys p number e)
