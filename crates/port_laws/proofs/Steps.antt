-- What holds of every step of a port, whichever of its five ways it goes: of a refused one nothing is left to show, and every other changes one record at most.
use Prim.Native.Nat.{ℕ, zero, suc, ◌≤◌, ◌<◌}
use mathlib.Core.Bool.{Bool, true, false, ◌||◌, or-true, false≢true}
use mathlib.Core.List.{List, [], ◌∷◌, ◌++◌}
use mathlib.Core.Logic.{◌⊎◌, inl, inr, ⊎_elim}
use mathlib.Core.Path.{◌≡◌, refl, sym, ap, ◌∙◌}
use native.Mathlib.Omega.{arith}
use borrow.Author.Tests.{eq-eqb, ne_eqb}
use lib.Dec.{eqb}
use lib.ListN.{length, set, replicate, length-append, length-set, length-replicate}
use lib.Seq.{get_or-set_other}
use Rattle.table.specs.Choice.{pick}
use Rattle.table.specs.Flags.{flag_of}
use Rattle.table.proofs.Laws.{by_test, parts}
use Rattle.event.specs.Names.{tx_open, time_stamp}
use Rattle.event.specs.Table.{known_in_trace, open_of, open_known}
use Rattle.event.specs.declared.Event.{Event}
use Rattle.event.specs.declared.Open.{Open}
use Rattle.event.proofs.InTrace.{others}
use Rattle.phy_laws.proofs.OneStep as phy
use Rattle.bay.specs.State as bayState
use Rattle.bay.specs.State.{fresh_bay}
use Rattle.bay.specs.Step as bay
use Rattle.bay.specs.declared.Bay.{Bay}
use Rattle.bay_laws.proofs.Steps as bays
use Rattle.queue.specs.Lent.{most_waiting}
use Rattle.port.specs.Names.{the_port}
use Rattle.port.specs.State.{Port, free_phys, all_pass, none_beside, valid_of, fresh_port}
use Rattle.port.specs.Step.{PortStepped, refused, open_event, bay_at, lowest_free, is_ports}
use Rattle.port.proofs.Valid.{sound, sound_valid, passes_set, bay_valid, none_free, then_free, lowest_free_lem}
use Rattle.port.proofs.Ways.{Way, is_refused, joins, at_once, takes, frees, free_no_more, ways}
use Rattle.port_laws.specs.Laws.{FreshValid, StaysValid, RefusedKeeps, AtMostOne, requests_to, OthersEqual, OnlyItsPhy, OnlyReceiver}

-- ---- validity

all_fresh : (n : ℕ) → all_pass bayState.valid_of (replicate n fresh_bay) ≡ true
all_fresh zero = refl
all_fresh (suc n) = rw (bays.fresh_valid, all_fresh n)

pub fresh_valid : FreshValid
fresh_valid limit n some few =
    sound_valid limit (fresh_port n)
    (record {
      some = rw length-replicate some;
      few = rw length-replicate few;
      bays = all_fresh n;
      short = omega arith;
      known = refl;
      beside = refl;
    })

-- the Open of a Tx Open that may stand in a trace is known
pub its_open_known : (e : Event) → known_in_trace e ≡ true → e.code ≡ tx_open → open_known (open_of e) ≡ true
its_open_known e k c = phy.open_known_lem e (others e (ne_eqb e.code time_stamp (λ t. omega arith)) k) c

-- the oldest of those that wait is known
pub oldest_known : (limit : ℕ) (p : Port) (o : Open) (os : List Open) → valid_of limit p ≡ true → p.queue ≡ o ∷ os → open_known o ≡ true
oldest_known limit p o os v q = (parts (open_known o) (all_pass open_known os) (rw q at (sound limit p v).known)).0

passes_more : {A : Type 0} (test : A → Bool) (l : List A) (a : A) → all_pass test l ≡ true → test a ≡ true → all_pass test (l ++ (a ∷ [])) ≡ true
passes_more test [] a h t = rw t
passes_more test (x ∷ l) a h t = let q = parts (test x) (all_pass test l) h in rw (q.0, passes_more test l a q.1 t)

-- none waits, or none is free
beside : (bays : List Bay) (queue : List Open) → (queue ≡ []) ⊎ (free_phys bays ≡ 0) → none_beside (record { bays = bays; queue = queue }) ≡ true
beside bays queue y = ⊎_elim {0, 0, 0} (λ q. rw q) (λ n. ap (λ (m : ℕ). eqb (length queue) 0 || eqb m 0) n ∙ or-true (eqb (length queue) 0)) y

module _ (limit : ℕ) (p : Port) (number : ℕ) (e : Event) where
  -- one record is put in place of another, and the queue is this
  module _ (v : valid_of limit p ≡ true) (k : ℕ) (b : Bay) (queue : List Open) where
    changed : bayState.valid_of b ≡ true → length queue ≤ most_waiting → all_pass open_known queue ≡ true
        → (queue ≡ []) ⊎ (free_phys (set p.bays k b) ≡ 0)
        → valid_of limit (record { bays = set p.bays k b; queue = queue }) ≡ true
    changed w short known y =
        let s = sound limit p v in
        sound_valid limit (record { bays = set p.bays k b; queue = queue })
        (record {
          some = rw length-set s.some;
          few = rw length-set s.few;
          bays = passes_set bayState.valid_of p.bays k b s.bays w;
          short = short;
          known = known;
          beside = beside (set p.bays k b) queue y;
        })

  -- of a valid port, what a phy makes of an event is valid
  made_valid : valid_of limit p ≡ true → (k : ℕ) → k < length p.bays → (f : Event) → bayState.valid_of (bay.step_of (bay_at p.bays k) f).next ≡ true
  made_valid v k l f = bays.stays_valid (bay_at p.bays k) f (bay_valid limit p v k l)

  stay : {r : PortStepped} → Way limit p number e r → valid_of limit p ≡ true → valid_of limit r.next ≡ true
  stay (is_refused _) v = v
  stay (joins w none) v =
      let s = sound limit p v in
      sound_valid limit _
      (record {
        some = s.some;
        few = s.few;
        bays = s.bays;
        short = rw length-append (omega (arith, w.room));
        known = passes_more open_known p.queue (open_of e) s.known (its_open_known e w.judged.known w.opens);
        beside = beside p.bays (p.queue ++ (open_of e ∷ [])) (inr none);
      })
  stay (at_once w _ some) v =
      let l = (lowest_free_lem p.bays some).0 in
      changed v (lowest_free p.bays) _ [] (made_valid v (lowest_free p.bays) l (open_event (open_of e))) (omega arith) refl (inl refl)
  stay (takes w y) v =
      let s = sound limit p v in
      changed v number _ p.queue (made_valid v number w.there e) s.short s.known y
  stay (frees o os w q f) v =
      let s = sound limit p v in
      let n = made_valid v number w.there e in
      let b = (bay.step_of (bay.step_of (bay_at p.bays number) e).next (open_event o)).next in
      changed v number b os (bays.stays_valid (bay.step_of (bay_at p.bays number) e).next (open_event o) n)
      (omega (arith, s.short, ap length q))
      (parts (open_known o) (all_pass open_known os) (rw q at s.known)).1
      (inr (then_free p.bays number w.there (none_free limit p v (omega (arith, ap length q))) b ∙ ap flag_of (free_no_more (bay.step_of (bay_at p.bays number) e).next o n f (oldest_known limit p o os v q))))

pub stays_valid : StaysValid
stays_valid limit p number e = stay limit p number e (ways limit p number e)

-- ---- refused

keeps : {limit : ℕ} {p : Port} {number : ℕ} {e : Event} {r : PortStepped} → Way limit p number e r → (r.reports.refusal ≡ 0 → ⊥) → r ≡ refused p r.reports.refusal
keeps (is_refused _) h = refl
keeps (joins _ _) h = absurd (h refl)
keeps (at_once _ _ _) h = absurd (h refl)
keeps (takes w _) h = absurd (h w.taken)
keeps (frees _ _ w _ _) h = absurd (h w.taken)

pub refused_keeps : RefusedKeeps
refused_keeps limit p number e = keeps (ways limit p number e)

-- ---- hand-outs

at_most : {limit : ℕ} {p : Port} {number : ℕ} {e : Event} {r : PortStepped} → Way limit p number e r → length r.hand_outs ≤ 1
at_most (is_refused _) = omega arith
at_most (joins _ _) = omega arith
at_most (at_once _ _ _) = omega arith
at_most (takes _ _) = omega arith
at_most (frees _ _ _ _ _) = omega arith

pub at_most_one : AtMostOne
at_most_one limit p number e = at_most (ways limit p number e)

-- ---- the other phys

count : {limit : ℕ} {p : Port} {number : ℕ} {e : Event} {r : PortStepped} → Way limit p number e r → length r.next.bays ≡ length p.bays
count (is_refused _) = refl
count (joins _ _) = refl
count (at_once _ _ _) = simp length-set
count (takes _ _) = simp length-set
count (frees _ _ _ _ _) = simp length-set

-- an event to a phy concerns that phy alone
module _ {limit : ℕ} {p : Port} {number : ℕ} {e : Event} (j : ℕ) (other : j ≡ number → ⊥) where
  own_alone : {r : PortStepped} → Way limit p number e r → is_ports number ≡ false → bay_at r.next.bays j ≡ bay_at p.bays j
  own_alone (is_refused _) _ = refl
  own_alone (joins w _) _ = refl
  own_alone (at_once w _ _) f = absurd (false≢true (sym f ∙ w.ports))
  own_alone (takes _ _) _ = get_or-set_other p.bays number j _ fresh_bay other
  own_alone (frees _ _ _ _ _) _ = get_or-set_other p.bays number j _ fresh_bay other

-- a hand-out to another is one to another
not_it : (k j : ℕ) (o : Open) (os : List Open) → pick (eqb k j) (o ∷ []) [] ++ os ≡ [] → j ≡ k → ⊥
not_it k j o os h e = let z : ◌≡◌ {A = ℕ} 0 1 = cc (eq-eqb k j (sym e)) in omega arith

port_alone : {limit : ℕ} {p : Port} {number : ℕ} {e : Event} (j : ℕ) {r : PortStepped} → Way limit p number e r → is_ports number ≡ true
    → requests_to j r.hand_outs ≡ [] → bay_at r.next.bays j ≡ bay_at p.bays j
port_alone j (is_refused _) _ _ = refl
port_alone j (joins _ _) _ _ = refl
port_alone {p = p} {e = e} j (at_once _ _ _) _ h = get_or-set_other p.bays (lowest_free p.bays) j _ fresh_bay (not_it (lowest_free p.bays) j (open_of e) [] h)
port_alone j (takes w _) t _ = absurd (false≢true (sym w.phys ∙ t))
port_alone j (frees _ _ w _ _) t _ = absurd (false≢true (sym w.phys ∙ t))

pub others_equal : OthersEqual
others_equal limit p number e =
    let w = ways limit p number e in
    record {
      count = count w;
      others = λ j n h. by_test (is_ports number) (λ t. port_alone j w t h) (λ f. own_alone j n w f);
    }

pub only_its_phy : OnlyItsPhy
only_its_phy limit p number e m j n = own_alone j n (ways limit p number e) (ne_eqb number the_port m)

pub only_receiver : OnlyReceiver
only_receiver limit p e j h = port_alone j (ways limit p the_port e) refl h
