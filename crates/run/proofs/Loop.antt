-- The stages of a run: what is left of the trace, taken by the bay as it stands, gives the whole run. An event taken leads from
-- one stage to the next, and each way to stop is a halt of what is left.
use Prim.Native.Nat.{ℕ, zero, suc, ◌+◌, ◌-◌, ◌≤◌, ◌<◌}
use mathlib.Core.Bool.{true, false}
use mathlib.Core.List.{List}
use mathlib.Core.Path.{◌≡◌, refl, sym, ap, subst, ◌∙◌}
use native.Mathlib.Numerals.{add-one}
use native.Mathlib.Omega.{arith}
use borrow.Author.Tests.{le-leb, lt-leb, eq-eqb, ne_eqb}
use lib.Dec.{leb, eqb}
use lib.ListN.{length, set, length-set}
use lib.Seq.{sets}
use Rattle.table.specs.Refusals.{bad_state, no_room}
use Rattle.table.proofs.Laws.{by_test}
use Rattle.event.specs.Names.{time_stamp}
use Rattle.event.specs.Table.{known_of, stamp_of}
use Rattle.event.specs.declared.Event.{Event}
use Rattle.event.proofs.InTrace.{others}
use Rattle.event.proofs.InTrace as in-trace
use Rattle.trace.specs.Reading as reading
use Rattle.trace.specs.Reading.{read_event}
use Rattle.trace.proofs.Accepted.{read_known}
use Rattle.phy.specs.State as phy
use Rattle.phy.specs.Step as phyStep
use Rattle.phy.specs.declared.Phy.{Phy}
use Rattle.phy.specs.declared.Stepped.{Stepped as PhyStepped}
use Rattle.phy_laws.proofs.Steps as phySteps
use Rattle.phy_laws.proofs.Bytes as phyBytes
use Rattle.phy_laws.proofs.Refusals.{step_is_move}
use Rattle.bay.specs.State.{valid_of, unstamped}
use Rattle.bay.specs.Step.{at_once, step_of}
use Rattle.bay.specs.Log.{after}
use Rattle.bay.specs.declared.Bay.{Bay}
use Rattle.bay.specs.declared.Stepped.{Stepped}
use Rattle.bay.proofs.Steps.{with_clock, phy_valid}
use Rattle.bay_laws.proofs.Steps.{stays_valid, others_are_phys}
use Rattle.bay_laws.proofs.Bytes.{are_bytes}
use Rattle.run.specs.Running.{Halt, at_end, at_budget, at_fault, refused, Course, stops, first, taking, byte_for, byte_of, bytes_of, Told, told, told_of, tells_stop, tells}
use Rattle.run.specs.Promises.{GivesByte, Gives, TakesEvents, Runs}
use Rattle.run.specs.Stages.{Stage, clocked, ReadyOn, Comes, GoesOn}
use Rattle.run.specs.declared.Ran.{Ran}
use Rattle.run.specs.declared.Stop.{Stop}
use Rattle.run.specs.declared.Stop.TheVariants.{End, Budget, Fault}
use Rattle.std.specs.Prelude.{Result, Ok, Err}
use Rattle.table.specs.Refusals.{number_of}
use Rattle.number.specs.declared.Found.{Found}
use Rattle.trace.specs.declared.Fault.{Fault as TraceFault}
use Rattle.run.specs.declared.Gone.{Gone}
use Rattle.run.proofs.Taking.{taking_ended, taking_spent, taking_event, taking_fault}

-- a byte of bytes is whole
whole_byte : {refusal answer byte : ℕ} → (answer < 256) × (refusal < 256) → GivesByte refusal answer byte → byte ≡ byte_for refusal answer
unfolding byte_for
whole_byte {refusal} {answer} small y =
    by_test (eqb refusal 0) (λ t. rw t (omega (arith, small, rw t at y))) (λ f. rw f (omega (arith, small, rw f at y)))

-- ---- from stage to stage

abbrev later : ℕ → Told → Told
later count t = told (count + t.count) t.state t.halt

none_counted : (t : Told) → t ≡ later 0 t
none_counted t = ap (λ (n : ℕ). told n t.state t.halt) (omega arith)

pub stage_start : (b : Bay) (s : List ℕ) (budget : ℕ) (before : List ℕ) → valid_of b ≡ true → budget ≤ length before → Stage b s budget before b 0 0 before
stage_start b s budget before v r =
    record { left = budget; spent = omega arith; valid = v; room = r; long = refl; says = none_counted (told_of b (taking budget s 0)); bytes = refl }

module _ {b : Bay} {s : List ℕ} {budget : ℕ} {before : List ℕ} {state : Bay} {place count : ℕ} {buffer : List ℕ} (w : Stage b s budget before state place count buffer) where
  abbrev fewer : ℕ
  fewer = w.left - 1

  some_left : count < budget → w.left ≡ suc fewer
  some_left h = omega (arith, w.spent)

  none_left : budget ≤ count → w.left ≡ zero
  none_left h = omega (arith, w.spent)

  pub stage_ready : ReadyOn state.phy count budget buffer
  stage_ready = record { valid = phy_valid state w.valid; within = omega (arith, w.spent); room = rw w.long w.room }

  -- ---- an event is read, with budget left
  module _ {e : Event} {next : ℕ} {m : Stepped} (h : count < budget) (r : read_event s place ≡ reading.event e next) (q : step_of state e ≡ m) where
    one_more : taking w.left s place ≡ first e (taking fewer s next)
    one_more = ap (λ (n : ℕ). taking n s place) (some_left h) ∙ taking_event s place fewer r

    counted : (n : ℕ) → count + suc n ≡ count + 1 + n
    counted n = omega arith

    told_on : (c : Course) → later count (told_of state (first e c)) ≡ later (count + 1) (told_of m.next c)
    told_on c = λ i. told (counted (length c.events) i) (after (q i).next c.events) c.halt

    bytes_on : {n : ℕ} (c : Course) → n ≡ byte_of m
        → sets buffer count (bytes_of state (first e c).events) ≡ sets (set buffer count n) (count + 1) (bytes_of m.next c.events)
    bytes_on c g = rw (q, g, add-one) refl

    pub stage_on : {n : ℕ} → n ≡ byte_of m → Stage b s budget before m.next next (count + 1) (set buffer count n)
    stage_on {n} g =
        record {
          left = fewer;
          spent = omega (arith, w.spent);
          valid = rw (← q) (stays_valid state e w.valid);
          room = w.room;
          long = length-set buffer count n ∙ w.long;
          says = w.says ∙ ap (λ (c : Course). later count (told_of state c)) one_more ∙ told_on (taking fewer s next);
          bytes = w.bytes ∙ ap (λ (c : Course). sets buffer count (bytes_of state c.events)) one_more ∙ bytes_on (taking fewer s next) g;
        }

  -- ---- nothing more is taken
  halted : {halt : Halt} → taking w.left s place ≡ stops halt
      → Gives b s budget before (told count state halt) buffer
  halted {halt} t =
      record {
        says = sym (w.says ∙ rw t (ap (λ (n : ℕ). told n state halt) (omega arith)));
        leaves = sym (w.bytes ∙ rw t refl);
      }

  -- the budget is spent before the trace's end
  pub halted_budget : place < length s → budget ≤ count
      → Gives b s budget before (told count state at_budget) buffer
  halted_budget h q = halted (ap (λ (n : ℕ). taking n s place) (none_left q) ∙ taking_spent s place h)

  -- a fault, with budget left
  pub halted_fault : {n first : ℕ} → count < budget → read_event s place ≡ reading.refused n first
      → Gives b s budget before (told count state (at_fault n first)) buffer
  halted_fault h f = halted (ap (λ (n : ℕ). taking n s place) (some_left h) ∙ taking_fault s place fewer f)

  -- the trace has ended
  pub halted_end : length s ≤ place
      → Gives b s budget before (told count state at_end) buffer
  halted_end h = halted (taking_ended s place w.left h)

-- ---- up to a stamp: the phy alone goes from stage to stage, whatever the base

pub record Going (p : Phy) (s : List ℕ) (place count budget : ℕ) (before : List ℕ) (state : Phy) (at n : ℕ) (buffer : List ℕ) : Type 0 where
  pub valid : phy.valid_of state ≡ true
  pub far : count ≤ n
  pub within : n ≤ budget
  pub same : length buffer ≡ length before
  pub stage :
      (b : Bay) (lent : List ℕ) (base baseSet : ℕ)
      → Stage b s budget lent (clocked p base baseSet) place count before
      → Stage b s budget lent (clocked state base baseSet) at n buffer

pub going_start : {p : Phy} {s : List ℕ} {place count budget : ℕ} {before : List ℕ} → ReadyOn p count budget before → Going p s place count budget before p place count before
going_start r = record { valid = r.valid; far = omega arith; within = r.within; same = refl; stage = λ _ _ _ _ w. w }

module _ {p : Phy} {s : List ℕ} {place count budget : ℕ} {before : List ℕ} {state : Phy} {at n : ℕ} {buffer : List ℕ} (g : Going p s place count budget before state at n buffer) where
  pub going_room : budget ≤ length before → n < budget → n < length buffer
  going_room r h = omega (arith, r, g.same)

  -- an event that is no stamp is read, with budget left
  module _ {e : Event} {next : ℕ} {m : PhyStepped} (h : n < budget) (r : read_event s at ≡ reading.event e next) (o : e.code ≡ time_stamp → ⊥) (q : m ≡ phyStep.move_of state e) where
    other : eqb e.code time_stamp ≡ false
    other = ne_eqb e.code time_stamp o

    known : known_of e ≡ true
    known = others e other (read_known s at e next r)

    moves : phyStep.step_of state e ≡ m
    moves = step_is_move state e (record { valid = g.valid; known = known }) ∙ sym q

    going_small : (m.answer < 256) × (m.refusal < 256)
    going_small = rw (← moves) ((phyBytes.are_bytes state e).answer, (phyBytes.are_bytes state e).refusal)

    steps : (b : Bay) → valid_of b ≡ true → b.phy ≡ state → step_of b e ≡ at_once b m
    steps b v y = others_are_phys b e v (rw other refl) ∙ ap (at_once b) (ap (λ (x : Phy). phyStep.step_of x e) y ∙ moves)

    pub going_on : {byte : ℕ} → GivesByte m.refusal m.answer byte → Going p s place count budget before m.next next (n + 1) (set buffer n byte)
    going_on {byte} y =
        record {
          valid = rw (← moves) (phySteps.stays_valid state e g.valid);
          far = omega (arith, g.far);
          within = omega arith;
          same = length-set buffer n byte ∙ g.same;
          stage = λ b lent base baseSet w. let v = g.stage b lent base baseSet w in stage_on v h r (steps (clocked state base baseSet) v.valid refl) (whole_byte going_small y);
        }

  -- the budget is spent
  pub going_spent : budget ≤ n → Going p s place count budget before state at budget buffer
  going_spent h = subst (λ (m : ℕ). Going p s place count budget before state at m buffer) (omega (arith, g.within)) g

  -- ---- what comes behind such events

  goes : {behind : Result (Found ℕ) Stop} (r : Gone) → r ≡ record { phy = state; count = n; behind = behind }
      → ((b : Bay) (lent : List ℕ) (base baseSet : ℕ)
      → Stage b s budget lent (clocked state base baseSet) at n buffer
      → Comes b s budget lent (clocked state base baseSet) n buffer behind)
      → GoesOn p s place count budget before r buffer
  goes r q f =
      subst (λ (x : Gone). GoesOn p s place count budget before x buffer) (sym q)
      (record { far = g.far; within = g.within; same = g.same; comes = λ b lent base baseSet w. f b lent base baseSet (g.stage b lent base baseSet w) })

  -- a stamp is read, with budget left
  pub goes_to_stamp : {e : Event} {next : ℕ} (r : Gone) → n < budget → read_event s at ≡ reading.event e next → e.code ≡ time_stamp
      → r ≡ record { phy = state; count = n; behind = Ok (record { value = e.first; next = next }) } → GoesOn p s place count budget before r buffer
  goes_to_stamp {e} {next} r h y t q =
      let is = (in-trace.stamp e (eq-eqb e.code time_stamp t) (read_known s at e next y)).nothing_else in
      goes r q (λ b lent base baseSet w. record { left = h; place = at; stands = y ∙ ap (λ (x : Event). reading.event x next) is; stage = w })

  pub goes_to_budget : (r : Gone) → at < length s → budget ≤ n
      → r ≡ record { phy = state; count = n; behind = Err Budget } → GoesOn p s place count budget before r buffer
  goes_to_budget r h y q = goes r q (λ b lent base baseSet w. halted_budget w h y)

  pub goes_to_fault : {fault : TraceFault} (r : Gone) → n < budget → read_event s at ≡ reading.refused (number_of fault.refusal) fault.place
      → r ≡ record { phy = state; count = n; behind = Err (Fault fault) } → GoesOn p s place count budget before r buffer
  goes_to_fault r h y q = goes r q (λ b lent base baseSet w. halted_fault w h y)

  pub goes_to_end : (r : Gone) → length s ≤ at
      → r ≡ record { phy = state; count = n; behind = Err End } → GoesOn p s place count budget before r buffer
  goes_to_end r h q = goes r q (λ b lent base baseSet w. halted_end w h)

-- ---- from stamp to stamp

module _
    {b : Bay} {s : List ℕ} {budget : ℕ} {before : List ℕ} {state : Bay} {place count : ℕ} {buffer : List ℕ} {r : Gone} {now : List ℕ}
    (w : Stage b s budget before state place count buffer) (y : GoesOn state.phy s place count budget buffer r now) where
  -- the bay at that place: its base is kept
  abbrev held : Bay
  held = clocked r.phy state.base state.baseSet

  behind_is : {behind : Result (Found ℕ) Stop} → r.behind ≡ behind → Comes b s budget before held r.count now behind
  behind_is q = subst (Comes b s budget before held r.count now) q (y.comes b before state.base state.baseSet w)

  pub as_long : length now ≡ length before
  as_long = y.same ∙ w.long

  -- a stamp comes
  module _ {stamp : Found ℕ} (q : r.behind ≡ Ok stamp) where
    pub stamp_left : r.count < budget
    stamp_left = (behind_is q).left

    pub stamp_room : r.count < length now
    stamp_room = omega (arith, stamp_left, w.room, as_long)

    module _ {m : Stepped} (t : m ≡ step_of held (stamp_of stamp.value)) where
      stamp_small : (m.answer.code < 256) × (m.refusal < 256)
      stamp_small = rw t ((are_bytes held (stamp_of stamp.value)).answer, (are_bytes held (stamp_of stamp.value)).refusal)

      pub stamp_on : {n : ℕ} → GivesByte m.refusal m.answer.code n → Stage b s budget before m.next stamp.next (r.count + 1) (set now r.count n)
      stamp_on y = let c = behind_is q in stage_on c.stage c.left c.stands (sym t) (whole_byte stamp_small y)

  -- nothing more comes
  pub no_more : (x : Ran) {stop : Stop} → r.behind ≡ Err stop → tells x ≡ told r.count held (tells_stop stop) → TakesEvents b s budget before x now
  no_more x q t = let c = behind_is q in record { says = t ∙ c.says; leaves = c.leaves }

-- ---- the contract: not valid, valid and without room, valid and with room

-- the bay begins with the phy, and no base is set
module _ (p : Phy) {b : Bay} (u : b ≡ unstamped p) where
  -- so it is valid exactly where the phy is
  pub as_valid : phy.valid_of p ≡ true → valid_of b ≡ true
  as_valid v = rw u (with_clock (unstamped p) refl ∙ v)

  module _ (s : List ℕ) (budget : ℕ) (before : List ℕ) (r : Ran) where
    pub not_valid : phy.valid_of p ≡ false → tells r ≡ told 0 b (refused bad_state) → Runs p s budget before r before
    not_valid v t = record { says = t ∙ rw (u, v) refl; leaves = rw v refl }

    pub no_room_lem : phy.valid_of p ≡ true → length before < budget → tells r ≡ told 0 b (refused no_room) → Runs p s budget before r before
    no_room_lem v h t =
        let f : leb budget (length before) ≡ false = lt-leb budget (length before) h in
        record { says = t ∙ rw (u, v, f) refl; leaves = rw (v, f) refl }

    pub with_room : {after : List ℕ} → phy.valid_of p ≡ true → budget ≤ length before → TakesEvents b s budget before r after → Runs p s budget before r after
    with_room v h t =
        let f : leb budget (length before) ≡ true = le-leb budget (length before) h in
        record { says = t.says ∙ rw (u, v, f) refl; leaves = t.leaves ∙ rw (u, v, f) refl }
