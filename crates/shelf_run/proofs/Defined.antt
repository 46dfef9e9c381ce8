-- The stages of a run are the definition's: by induction over the budget, each event of a valid port agrees, and the table keeps what stands behind the port's own records.
use Prim.Native.Nat.{ℕ, zero, suc, ◌<◌}
use mathlib.Core.Bool.{true}
use mathlib.Core.List.{List, ◌++◌}
use mathlib.Core.Path.{◌≡◌, refl, sym, ap, ◌∙◌}
use native.Mathlib.Nat.{mod-eq_of_lt}
use native.Mathlib.Omega.{arith}
use borrow.Author.Tests.{lt-ltb, le-ltb}
use lib.Dec.{eqb, ltb, lit<}
use lib.ListN.{length, set, get_or, get_or-append, get_or-eq_default}
use lib.Seq.{set-append_left, set_out}
use Rattle.table.specs.Choice.{pick}
use Rattle.table.proofs.Laws.{by_order, by_pick}
use Rattle.event.specs.Table.{known_in_trace}
use Rattle.event.specs.declared.Event.{Event}
use Rattle.event.specs.declared.ShelfEvent.{ShelfEvent}
use Rattle.bay.specs.State.{fresh_bay}
use Rattle.bay.specs.declared.Bay.{Bay}
use Rattle.bay_laws.proofs.Bytes.{are_bytes}
use Rattle.queue.specs.Lent.{lent_as}
use Rattle.shelf.specs.Reading.{ToldShelf, shelf_event, shelf_end, shelf_refused, read_shelf}
use Rattle.shelf.proofs.Accepted.{read_known}
use Rattle.run.specs.Running.{byte_for}
use Rattle.port.specs.Names.{most_phys}
use Rattle.port.specs.State.{Port, valid_of}
use Rattle.port.specs.Step.{PortStepped, bay_at}
use Rattle.port.specs.Log.{step_on, after}
use Rattle.port.specs.Stages as port
use Rattle.port.specs.Stages.{standing_of, concerned, taken_of}
use Rattle.port.specs.declared.Standing.{Standing}
use Rattle.port.specs.declared.Stepped.{Stepped}
use Rattle.port.specs.declared.Reports.{Reports}
use Rattle.port.proofs.Valid.{sound}
use Rattle.port.proofs.Ways.{Refuses, not_valid, not_known, not_for_port, no_phy, is_full, phys_own, Way, is_refused, joins, at_once, takes, frees, ways}
use Rattle.port.specs.Laws.{Agrees}
use Rattle.port.proofs.Agrees.{takes_agree}
use Rattle.port_laws.proofs.Steps.{stays_valid}
use Rattle.shelf_run.specs.Running.{Course, onwards, taking, byte_of, bytes_of}
use Rattle.shelf_run.specs.Stages as stages
use Rattle.shelf_run.specs.Stages.{in_use, Went, one_more, byte_in, puts, goes_on, by_read, going}

-- ---- what is reported are bytes

few_refusals : {limit : ℕ} {p : Port} {number : ℕ} {e : Event} {n : ℕ} → Refuses limit p number e n → n < 256
few_refusals (not_valid _) = lit< tt
few_refusals (not_known _ _) = lit< tt
few_refusals (not_for_port _ _ _) = lit< tt
few_refusals (no_phy _ _ _) = lit< tt
few_refusals (is_full _ _ _ _) = lit< tt
few_refusals {p = p} {number} {e} (phys_own _ _ _ _) = (are_bytes (bay_at p.bays number) e).refusal

abbrev Small : Reports → Type 0
Small r = (r.refusal < 256) × (r.answer.code < 256)

by_way : {limit : ℕ} {p : Port} {number : ℕ} {e : Event} {r : PortStepped} → Way limit p number e r → Small r.reports
by_way (is_refused why) = (few_refusals why, lit< tt)
by_way (joins _ _) = (lit< tt, lit< tt)
by_way (at_once _ _ _) = (lit< tt, lit< tt)
by_way {p = p} {number} {e} (takes _ _) = let b = are_bytes (bay_at p.bays number) e in (b.refusal, b.answer)
by_way {p = p} {number} {e} (frees _ _ _ _ _) = let b = are_bytes (bay_at p.bays number) e in (b.refusal, b.answer)

byte_same : (r : Reports) → Small r → byte_in r ≡ byte_for r.refusal r.answer.code
unfolding byte_for
byte_same r h = mod-eq_of_lt (by_pick (λ (n : ℕ). n < 256) (eqb r.refusal 0) (λ _. h.1) (λ _. h.0))

-- ---- a table that begins with the records of a port

module _ (p : Port) (rest : List Bay) (v : valid_of most_phys p ≡ true) where
  in_use_lem : (at : ℕ) → in_use (standing_of p) at ≡ ltb at (length p.bays)
  in_use_lem at =
      by_order at (length p.bays)
      (λ l. rw (lt-ltb at (length p.bays) l, lt-ltb at most_phys (omega (arith, (sound most_phys p v).few))))
      (λ l. rw (le-ltb at (length p.bays) l))

  -- the record that an event concerns, read and put back
  own_so : (at : ℕ) → pick (in_use (standing_of p) at) (get_or (p.bays ++ rest) at fresh_bay) fresh_bay ≡ bay_at p.bays at
  own_so at =
      rw (in_use_lem at)
      (by_order at (length p.bays)
      (λ l. rw (lt-ltb at (length p.bays) l) (get_or-append p.bays rest fresh_bay at l))
      (λ l. rw (le-ltb at (length p.bays) l) (sym (get_or-eq_default p.bays fresh_bay l))))

  put_so : (at : ℕ) (b : Bay) → puts (standing_of p) (p.bays ++ rest) at b ≡ set p.bays at b ++ rest
  put_so at b =
      rw (in_use_lem at)
      (by_order at (length p.bays)
      (λ l. rw (lt-ltb at (length p.bays) l) (set-append_left p.bays rest at b l))
      (λ l. rw (le-ltb at (length p.bays) l) (ap (λ (x : List Bay). x ++ rest) (sym (set_out p.bays at b l)))))

  -- an event of the trace
  module _ (e : ShelfEvent) (k : known_in_trace e.event ≡ true) where
    abbrev at : ℕ
    at = concerned (standing_of p).free e.number

    abbrev c : port.Course
    c = taken_of (standing_of p) (bay_at p.bays at) (lent_as p.queue) e.number e.event

    abbrev r : PortStepped
    r = step_on most_phys p e

    a : Agrees p at c r
    a = takes_agree p e.number e.event v k

    goes_so : (go : Standing → List Bay → List ℕ → Went)
        → goes_on go (standing_of p) (p.bays ++ rest) at (stages.takes (standing_of p) (p.bays ++ rest) (lent_as p.queue) e at)
        ≡ one_more (byte_of r) (go (standing_of r.next) (r.next.bays ++ rest) (lent_as r.next.queue))
    goes_so go =
        ap (λ (b : Bay). goes_on go (standing_of p) (p.bays ++ rest) at (taken_of (standing_of p) b (lent_as p.queue) e.number e.event)) (own_so at)
        ∙ λ i. one_more (byte i) (go (a.stands i) (kept i) (a.queue i))
      where
        byte : byte_in c.taken.stepped.reports ≡ byte_of r
        byte = ap (λ (s : Stepped). byte_in s.reports) a.says ∙ byte_same r.reports (by_way (ways most_phys p e.number e.event))

        kept : puts (standing_of p) (p.bays ++ rest) at c.taken.bay ≡ r.next.bays ++ rest
        kept = put_so at c.taken.bay ∙ ap (λ (x : List Bay). x ++ rest) a.row

-- ---- all events of a trace

-- where a course of the definition leads from a port, with what stands behind its records
abbrev went_of : Port → (rest : List Bay) → Course → Went
went_of p rest d =
    record {
      bays = (after most_phys p d.events).bays ++ rest;
      queue = lent_as (after most_phys p d.events).queue;
      bytes = bytes_of p d.events;
      halt = d.halt;
    }

abbrev Goes : (n : ℕ) (s : List ℕ) (place : ℕ) → Type 0
Goes n s place =
    (p : Port) (rest : List Bay) → valid_of most_phys p ≡ true
    → going n s place (standing_of p) (p.bays ++ rest) (lent_as p.queue) ≡ went_of p rest (taking n s place)

by_read_lem : (n : ℕ) (s : List ℕ) (place : ℕ) → ((next : ℕ) → Goes n s next) → (t : ToldShelf) → read_shelf s place ≡ t
    → (p : Port) (rest : List Bay) → valid_of most_phys p ≡ true
    → by_read t (standing_of p) (p.bays ++ rest) (lent_as p.queue) (going n s) ≡ went_of p rest (onwards t (taking n s))
by_read_lem n s place go (shelf_event e next) q p rest v =
    goes_so p rest v e (read_known s place e next q) (going n s next)
    ∙ ap (one_more (byte_of (step_on most_phys p e))) (go next (step_on most_phys p e).next rest (stays_valid most_phys p e.number e.event v))
by_read_lem n s place go shelf_end q p rest v = refl
by_read_lem n s place go (shelf_refused k _) q p rest v = refl

pub goes : (n : ℕ) (s : List ℕ) (place : ℕ) → Goes n s place
unfolding going taking
goes zero s place p rest v = refl
goes (suc n) s place p rest v = by_read_lem n s place (goes n s) (read_shelf s place) refl p rest v
