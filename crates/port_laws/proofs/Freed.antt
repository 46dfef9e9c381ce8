-- An idle phy receives the Open, by the ways of a step: no other way leaves a phy idle beside one.
use Prim.Native.Nat.{ℕ, ◌<◌}
use mathlib.Core.Bool.{false, false≢true}
use mathlib.Core.List.{List, [], ◌∷◌}
use mathlib.Core.Logic.{inl, ⊎_elim}
use mathlib.Core.Path.{◌≡◌, sym, ap, subst, ◌∙◌}
use native.Mathlib.Omega.{arith}
use borrow.Author.Tests.{eqb-true}
use lib.ListN.{length, set, get_or, length-set}
use lib.Seq.{get_or-set_same}
use Rattle.std.proofs.lemmas.List.{get_or-map}
use Rattle.table.proofs.Laws.{by_order}
use Rattle.event.specs.Table.{open_of}
use Rattle.event.specs.declared.Event.{Event}
use Rattle.event.specs.declared.Open.{Open}
use Rattle.phy.specs.Names.{sent_open}
use Rattle.bay.specs.State.{fresh_bay}
use Rattle.bay.specs.Step as bay
use Rattle.bay.specs.declared.Bay.{Bay}
use Rattle.bay.specs.declared.Stepped.{Stepped as BayStepped}
use Rattle.bay_laws.proofs.Steps as bays
use Rattle.queue.specs.Lent.{most_waiting}
use Rattle.port.specs.Names.{the_port}
use Rattle.port.specs.State.{Port, is_free, free_of, free_phys}
use Rattle.port.specs.Step.{PortStepped, bay_at, lowest_free}
use Rattle.port.specs.declared.Reports.{Reports}
use Rattle.port.proofs.Flags.{lowest_is_least}
use Rattle.port.proofs.Valid.{bay_valid, none_waits, lowest_free_lem}
use Rattle.port.proofs.Ways.{Way, is_refused, joins, at_once, takes, frees, is_some, opened, ways}
use Rattle.port_laws.specs.Laws.{Idle, AtPort, AtPhy, phy_at, FreedReceives, IdleReceives}
use Rattle.port_laws.proofs.Refusals.{as_the_bay, not_refused_exactly}
use Rattle.port_laws.proofs.Rules.{is_idle, is_free_lem, none_idle}
use Rattle.port_laws.proofs.Steps.{its_open_known, oldest_known}

-- the oldest of a list that begins with it
head : (o o' : Open) (os os' : List Open) → o ∷ os ≡ o' ∷ os' → o ≡ o'
head o o' os os' q = ap (λ (l : List Open). get_or l 0 o) q

-- ---- an event leaves its phy idle

module _ {limit : ℕ} {p : Port} {number : ℕ} {e : Event} (o : Open) (os : List Open) (a : AtPhy limit p number e) (q : p.queue ≡ o ∷ os) where
  abbrev made : BayStepped
  made = bay.step_of (bay_at p.bays number) e

  freed : Idle made.next.phy → {r : PortStepped} → Way limit p number e r → r.reports.refusal ≡ 0
      → r.hand_outs ≡ record { phy = number; request = o; sent = sent_open } ∷ []
  freed i (is_refused why) z = absurd (is_some why z)
  freed i (joins w _) z = absurd (a.phys (eqb-true number the_port w.ports))
  freed i (at_once w _ _) z = absurd (a.phys (eqb-true number the_port w.ports))
  freed i (takes w y) z =
      let then : List Bay = set p.bays number made.next in
      ⊎_elim (λ n. absurd (omega (arith, ap length (sym n ∙ q))))
      (λ n. absurd (none_idle then n number (rw length-set w.there) (subst (λ (b : Bay). Idle b.phy) (sym (get_or-set_same p.bays number made.next fresh_bay w.there)) i))) y
  freed i (frees o' os' w q' t) z =
      let v = a.judged.valid in
      let sends = opened made.next o' (bays.stays_valid (bay_at p.bays number) e (bay_valid limit p v number a.there)) t (oldest_known limit p o' os' v q') in
      λ k. record { phy = number; request = head o' o os' os (sym q' ∙ q) k; sent = ap (λ (s : BayStepped). s.sent.code) sends k } ∷ []

pub freed_receives : FreedReceives
freed_receives limit p number e o os a q z i =
    freed o os a q i (ways limit p number e) (ap (λ (r : Reports). r.refusal) (as_the_bay limit p number e a.judged.valid a.phys a.there) ∙ z)

-- ---- a Tx Open to the port, and an idle phy

module _ {limit : ℕ} {p : Port} {e : Event} (i : ℕ) (a : AtPort limit p the_port e) (l : i < length p.bays) (d : Idle (phy_at p i)) (none : (j : ℕ) → j < i → Idle (phy_at p j) → ⊥) where
  some : 0 < free_phys p.bays
  some = by_order 0 (free_phys p.bays) (λ h. h) (λ h. absurd (none_idle p.bays (omega (arith, h)) i l d))

  is_lowest : lowest_free p.bays ≡ i
  is_lowest =
      let low = lowest_free_lem p.bays some in
      by_order (lowest_free p.bays) i
      (λ h. absurd (none (lowest_free p.bays) h (is_idle (bay_at p.bays (lowest_free p.bays)) low.1)))
      (λ h. by_order i (lowest_free p.bays)
      (λ m. absurd (false≢true (sym ((lowest_is_least (free_of p.bays) some).none_before i m) ∙ get_or-map is_free p.bays i fresh_bay false l ∙ is_free_lem (bay_at p.bays i) d)))
      (λ m. omega arith))

  received : {r : PortStepped} → Way limit p the_port e r → r.reports.refusal ≡ 0
      → r.hand_outs ≡ record { phy = i; request = open_of e; sent = sent_open } ∷ []
  received (is_refused why) z = absurd (is_some why z)
  received (joins _ n) z = absurd (none_idle p.bays n i l d)
  received (at_once w q h) z =
      let low = lowest_free_lem p.bays some in
      let b : Bay = bay_at p.bays (lowest_free p.bays) in
      let sends = opened b (open_of e) (bay_valid limit p a.judged.valid (lowest_free p.bays) low.0) low.1 (its_open_known e a.judged.known a.opens) in
      λ k. record { phy = is_lowest k; request = open_of e; sent = ap (λ (s : BayStepped). s.sent.code) sends k } ∷ []
  received (takes w _) z = absurd (false≢true (sym w.phys))
  received (frees _ _ w _ _) z = absurd (false≢true (sym w.phys))

  room : length p.queue < most_waiting
  room = omega (arith, ap length (none_waits limit p a.judged.valid some))

pub idle_receives : IdleReceives
idle_receives limit p e i a l d none =
    received i a l d none (ways limit p the_port e) ((not_refused_exactly limit p the_port e).1 (inl (a, room i a l d none)))
