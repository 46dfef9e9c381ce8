-- The stages of a run over a table: what is left of the trace, gone through from here, gives the whole. An event taken leads from one stage to the next, and each way to stop is where the rest stops.
use Prim.Native.Nat.{ℕ, zero, suc, ◌+◌, ◌-◌, ◌≤◌, ◌<◌}
use mathlib.Core.Bool.{true}
use mathlib.Core.List.{List}
use mathlib.Core.Path.{◌≡◌, refl, sym, ap, subst, ◌∙◌}
use native.Mathlib.Numerals.{add-one}
use native.Mathlib.Omega.{arith}
use borrow.Author.Tests.{ltb-true}
use lib.Dec.{ltb}
use lib.ListN.{length, set, get_or, length-set}
use lib.Seq.{sets}
use Rattle.std.proofs.lemmas.List.{get_or_default}
use Rattle.table.specs.Choice.{pick}
use Rattle.table.proofs.Laws.{by_pick, parts}
use Rattle.event.specs.declared.ShelfEvent.{ShelfEvent}
use Rattle.bay.specs.State.{fresh_bay}
use Rattle.bay.specs.declared.Bay.{Bay}
use Rattle.shelf.specs.Reading.{ToldShelf, shelf_event, shelf_end, shelf_refused, read_shelf}
use Rattle.run.specs.Running.{Halt, at_end, at_fault}
use Rattle.port.specs.Names.{most_phys}
use Rattle.port.specs.Promises.{Takes}
use Rattle.port.specs.Stages as port
use Rattle.port.specs.Stages.{some_free, concerned, hand_on, on_moved, on_port, taken_of}
use Rattle.port.specs.declared.Standing.{Standing}
use Rattle.port.specs.declared.Taken.{Taken}
use Rattle.shelf_run.specs.Running.{spent_at, ran}
use Rattle.shelf_run.specs.Stages.{in_use, Went, rests, byte_in, takes, puts, goes_on, by_read, going, gone}
use Rattle.shelf_run.specs.Promises.{Through}
use Rattle.shelf_run.specs.declared.Gone.{Gone}

-- a record in use is one of the table
in_table : (st : Standing) (at : ℕ) → in_use st at ≡ true → at < most_phys
in_table st at u = ltb-true at most_phys (parts (ltb at st.count) (ltb at most_phys) u).1

-- the whole, of which so much is gone through
pub record Stage (whole : Went) (s : List ℕ) (budget : ℕ) (before : List ℕ) (st : Standing) (bays : List Bay) (queue : List ℕ) (place count : ℕ) (buffer : List ℕ) : Type 0 where
  pub left : ℕ
  pub spent : count + left ≡ budget
  pub room : budget ≤ length before
  pub long : length buffer ≡ length before
  pub tabled : length bays ≡ most_phys
  pub table : whole.bays ≡ (going left s place st bays queue).bays
  pub opens : whole.queue ≡ (going left s place st bays queue).queue
  pub stops : whole.halt ≡ (going left s place st bays queue).halt
  pub counts : length whole.bytes ≡ count + length (going left s place st bays queue).bytes
  pub bytes : sets before 0 whole.bytes ≡ sets buffer count (going left s place st bays queue).bytes

module _ {whole : Went} {s : List ℕ} {budget : ℕ} {before : List ℕ} {st : Standing} {bays : List Bay} {queue : List ℕ} {place count : ℕ} {buffer : List ℕ} (w : Stage whole s budget before st bays queue place count buffer) where
  abbrev fewer : ℕ
  fewer = w.left - 1

  some_left : count < budget → w.left ≡ suc fewer
  some_left h = omega (arith, w.spent)

  -- what is left, by what is read here
  by_read_lem : count < budget → {t : ToldShelf} → read_shelf s place ≡ t → going w.left s place st bays queue ≡ by_read t st bays queue (going fewer s)
  unfolding going
  by_read_lem h {t} r = ap (λ (n : ℕ). going n s place st bays queue) (some_left h) ∙ rw r refl

  -- an event is taken
  stage_on : (h : count < budget) {e : ShelfEvent} {next : ℕ} → read_shelf s place ≡ shelf_event e next
      → (at : ℕ) → at ≡ concerned st.free e.number → (c : port.Course) → c ≡ takes st bays queue e at
      → Stage whole s budget before c.taken.standing (puts st bays at c.taken.bay) c.queue next (count + 1) (set buffer count (byte_in c.taken.stepped.reports))
  stage_on h {e} {next} r at a c t =
      let q : going w.left s place st bays queue ≡ goes_on (going fewer s next) st bays at c
      = by_read_lem h r ∙ (λ i. goes_on (going fewer s next) st bays (sym a i) (takes st bays queue e (sym a i))) ∙ ap (goes_on (going fewer s next) st bays at) (sym t) in
      record {
        left = fewer;
        spent = omega (arith, w.spent);
        room = w.room;
        long = length-set buffer count (byte_in c.taken.stepped.reports) ∙ w.long;
        tabled = by_pick (λ (l : List Bay). length l ≡ most_phys) (in_use st at) (λ _. length-set bays at c.taken.bay ∙ w.tabled) (λ _. w.tabled);
        table = w.table ∙ ap (λ (x : Went). x.bays) q;
        opens = w.opens ∙ ap (λ (x : Went). x.queue) q;
        stops = w.stops ∙ ap (λ (x : Went). x.halt) q;
        counts = omega (arith, w.counts, ap (λ (x : Went). length x.bytes) q);
        bytes = rw add-one (w.bytes ∙ ap (λ (x : Went). sets buffer count x.bytes) q);
      }

  -- the same in other words
  same_stage : {next n : ℕ} {st₁ st₂ : Standing} {bays₁ bays₂ : List Bay} {queue₁ queue₂ buffer₁ buffer₂ : List ℕ} → st₁ ≡ st₂ → bays₁ ≡ bays₂ → queue₁ ≡ queue₂ → buffer₁ ≡ buffer₂
      → Stage whole s budget before st₁ bays₁ queue₁ next n buffer₁ → Stage whole s budget before st₂ bays₂ queue₂ next n buffer₂
  same_stage {next} {n} p q r t v =
      subst (λ (x : Standing × (List Bay × (List ℕ × List ℕ))). Stage whole s budget before x.0 x.1.0 x.1.1.0 next n x.1.1.1) (λ i. (p i, (q i, (r i, t i)))) v

  -- as the code takes it: by a record, to what it makes of it, the queue, the byte and the records
  pub stage_next : count < budget → {e : ShelfEvent} {next : ℕ} → read_shelf s place ≡ shelf_event e next
      → (at : ℕ) → at ≡ concerned st.free e.number → (b : Bay) → b ≡ pick (in_use st at) (get_or bays at fresh_bay) fresh_bay
      → (t : Taken) (after : List ℕ) → Takes st b queue e.number e.event t after
      → (byte : ℕ) → byte ≡ byte_in t.stepped.reports → (row : List Bay) → row ≡ puts st bays at t.bay
      → Stage whole s budget before t.standing row after next (count + 1) (set buffer count byte)
  stage_next h {e} r at a b o t after l byte y row x =
      let q : takes st bays queue e at ≡ taken_of st b queue e.number e.event = ap (λ (own : Bay). taken_of st own queue e.number e.event) (sym o) in
      let m : (takes st bays queue e at).taken ≡ t = ap (λ (c : port.Course). c.taken) q ∙ sym l.says in
      same_stage (ap (λ (c : Taken). c.standing) m) (ap (λ (c : Taken). puts st bays at c.bay) m ∙ sym x) (ap (λ (c : port.Course). c.queue) q ∙ sym l.leaves)
      (ap (set buffer count) (ap (λ (c : Taken). byte_in c.stepped.reports) m ∙ sym y))
      (stage_on h r at a (takes st bays queue e at) refl)

  -- the record of an event, whether it is in use or not, and the records once it is put back
  pub own_held : (at : ℕ) → in_use st at ≡ true → (other : Bay) → get_or bays at other ≡ pick (in_use st at) (get_or bays at fresh_bay) fresh_bay
  own_held at u other = rw u (get_or_default bays at other fresh_bay (omega (arith, in_table st at u, w.tabled)))

  -- nothing more is taken
  pub stopped_at : {halt : Halt} → going w.left s place st bays queue ≡ rests bays queue halt → (r : Gone) → r ≡ gone bays (ran count halt) → Through whole before r queue buffer
  stopped_at {halt} q r e =
      let n : length whole.bytes ≡ count = omega (arith, w.counts, ap (λ (x : Went). length x.bytes) q) in
      record {
        says = e ∙ λ i. gone (sym (w.table ∙ ap (λ (x : Went). x.bays) q) i) (ran (sym n i) (sym (w.stops ∙ ap (λ (x : Went). x.halt) q) i));
        queued = sym (w.opens ∙ ap (λ (x : Went). x.queue) q);
        bytes = sym (w.bytes ∙ ap (λ (x : Went). sets buffer count x.bytes) q);
      }

  -- by the end
  pub stop_end : count < budget → read_shelf s place ≡ shelf_end → (r : Gone) → r ≡ gone bays (ran count at_end) → Through whole before r queue buffer
  stop_end h f r e = stopped_at (by_read_lem h f) r e

  -- the budget is spent
  pub spent_stage : budget ≤ count → Stage whole s budget before st bays queue place budget buffer
  spent_stage h = subst (λ (n : ℕ). Stage whole s budget before st bays queue place n buffer) (omega (arith, w.spent)) w

  -- by the budget, or by the end where it is spent there
  pub stop_spent : budget ≤ count → (r : Gone) → r ≡ gone bays (ran count (spent_at place (length s))) → Through whole before r queue buffer
  unfolding going
  stop_spent b r e = stopped_at (ap (λ (n : ℕ). going n s place st bays queue) none) r e
    where
      none : w.left ≡ zero
      none = omega (arith, w.spent)

  -- by a fault
  pub stop_fault : count < budget → {n at : ℕ} → read_shelf s place ≡ shelf_refused n at → (r : Gone) → r ≡ gone bays (ran count (at_fault n at)) → Through whole before r queue buffer
  stop_fault h f r e = stopped_at (by_read_lem h f) r e
