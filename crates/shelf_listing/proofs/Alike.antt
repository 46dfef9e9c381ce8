-- A shelf that holds a valid port lists as the port does: its step is the port's, and it holds the port that is left.
use Rattle.std.proofs.Common.{◌≡◌, ℕ, zero, suc, ◌≤◌, true, List, ◌∷◌, length, take, replicate, sym, refl, ap, ◌∙◌, ap₂, arith}
use lib.ListN.{length-replicate}
use lib.Seq.{take-append_seam}
use Rattle.event.specs.declared.ShelfEvent.{ShelfEvent}
use Rattle.bay.specs.State.{fresh_bay}
use Rattle.bay.specs.declared.Bay.{Bay}
use Rattle.queue.specs.Lent.{lent_as, queue_in}
use Rattle.queue.proofs.Lending.{lent_back}
use Rattle.port.specs.Names.{most_phys}
use Rattle.port.specs.State.{Port, valid_of, fresh_port}
use Rattle.port.specs.Step.{PortStepped}
use Rattle.port.specs.Log.{step_on}
use Rattle.port.specs.Lent.{lent_step, numbers_after, tells}
use Rattle.port.specs.Laws.{AsLists}
use Rattle.port.proofs.InPlace.{lent_follows}
use Rattle.port.proofs.Valid.{known_all, Sound, sound}
use Rattle.port_laws.proofs.Steps.{fresh_valid, stays_valid, others_equal}
use Rattle.held.specs.Rows.{most_held, shown, behind}
use Rattle.lines.specs.Laws.{Alike}
use Rattle.shelf_listing.specs.Lines.{states_at, columns_of, event_line}
use Rattle.shelf_listing.specs.Listing.{step_line, of_port}
use Rattle.shelf_listing.specs.Held.{fresh_shelf, bays_of, step_held, held_after, columns_held, of_shelf}
use Rattle.shelf_listing.specs.declared.Shelf.{Shelf}

-- a shelf holds a port
pub record Holds (h : Shelf) (p : Port) : Type 0 where
  pub valid : valid_of most_phys p ≡ true
  pub bays : bays_of h ≡ p.bays
  pub count : length p.bays ≡ shown h.phys
  pub queue : h.queue ≡ lent_as p.queue

module _ (h : Shelf) (p : Port) (e : ShelfEvent) (holds : Holds h p) where
  abbrev left : PortStepped
  left = step_on most_phys p e

  follows : AsLists p e.number e.event
  follows = lent_follows p e.number e.event holds.valid

  same : step_held h e ≡ left
  same = ap₂ (λ (bays : List Bay) (queue : List ℕ). lent_step bays queue e.number e.event) holds.bays holds.queue ∙ follows.step

  -- the numbers of the queue that the step leaves
  numbers : numbers_after h.queue (step_held h e) ≡ lent_as left.next.queue
  numbers = ap₂ numbers_after holds.queue same ∙ follows.numbers

  still : valid_of most_phys left.next ≡ true
  still = stays_valid most_phys p e.number e.event holds.valid

  waiting : length (queue_in (numbers_after h.queue (step_held h e))) ≡ length left.next.queue
  waiting =
      let s : Sound most_phys left.next = sound most_phys left.next still in
      ap (λ (queue : List ℕ). length (queue_in queue)) numbers
      ∙ ap length (lent_back left.next.queue (record { known = known_all left.next.queue s.known; few = s.short })).same

  pub same_line : (place : ℕ) → event_line place (columns_held h e (step_held h e)) ≡ step_line place e left
  same_line place =
      ap₂ (λ (r : PortStepped) (n : ℕ). event_line place (columns_of e (tells r) (states_at r.next.bays e.number) n)) same waiting

  as_many : length left.next.bays ≡ shown h.phys
  as_many = (others_equal most_phys p e.number e.event).count ∙ holds.count

  in_front : take (shown h.phys) (held_after h (step_held h e)).row.bays ≡ left.next.bays
  in_front =
      ap₂ take (sym as_many) (ap (λ (r : PortStepped). (held_after h r).row.bays) same)
      ∙ take-append_seam left.next.bays (behind h.phys h.row.bays)

  pub holds_on : Holds (held_after h (step_held h e)) left.next
  holds_on = record { valid = still; bays = in_front; count = as_many; queue = numbers }

pub alike : Alike of_shelf of_port Holds
alike =
    record {
      header = refl;
      reads = λ s place. refl;
      line = λ place h p e holds. same_line h p e holds place;
      next = λ h p e holds. holds_on h p e holds;
    }

-- ---- from fresh phys

take_same : (n k : ℕ) (b : Bay) → n ≤ k → take n (replicate k b) ≡ replicate n b
take_same zero k b le = refl
take_same (suc n) zero b le = absurd (omega arith)
take_same (suc n) (suc k) b le = ap (λ (bs : List Bay). b ∷ bs) (take_same n k b (omega arith))

pub holds_fresh : (n : ℕ) → 1 ≤ n → n ≤ most_phys → Holds (fresh_shelf n) (fresh_port n)
unfolding lent_as
holds_fresh n some few =
    let all : shown n ≡ n = omega arith in
    record {
      valid = fresh_valid most_phys n some few;
      bays = ap (λ (k : ℕ). take k (replicate most_held fresh_bay)) all ∙ take_same n most_held fresh_bay (omega arith);
      count = length-replicate n fresh_bay ∙ sym all;
      queue = refl;
    }
