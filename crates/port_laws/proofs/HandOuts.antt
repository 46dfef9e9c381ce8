-- A hand-out is a Tx Open to a free phy, the lowest: of the two ways with one, the phy was free as the event left it.
use Prim.Native.Nat.{ℕ, ◌<◌}
use mathlib.Core.Bool.{true, false}
use mathlib.Core.List.{List, [], ◌∷◌}
use mathlib.Core.Path.{◌≡◌, refl, sym, ap, subst, ◌∙◌}
use native.Mathlib.Omega.{arith}
use lib.ListN.{length, set, get_or}
use lib.Seq.{get_or-set_same, get_or-set_other}
use Rattle.std.proofs.lemmas.List.{get_or-map}
use Rattle.event.specs.Table.{open_of, open_known}
use Rattle.event.specs.declared.Event.{Event}
use Rattle.event.specs.declared.Open.{Open}
use Rattle.bay.specs.State as bayState
use Rattle.bay.specs.State.{fresh_bay}
use Rattle.bay.specs.Step as bay
use Rattle.bay.specs.declared.Bay.{Bay}
use Rattle.bay.specs.declared.Stepped.{Stepped as BayStepped}
use Rattle.bay_laws.proofs.Steps as bays
use Rattle.port.specs.State.{Port, is_free, free_of}
use Rattle.port.specs.Step.{HandOut, PortStepped, open_event, bay_at, lowest_free}
use Rattle.port.proofs.Flags.{none_set, lowest_is_least}
use Rattle.port.proofs.Valid.{bay_valid, none_free, lowest_free_lem}
use Rattle.port.proofs.Ways.{Way, is_refused, joins, at_once, takes, frees, opened, ways}
use Rattle.port_laws.specs.Laws.{Sends, HandOutsSend}
use Rattle.port_laws.proofs.Steps.{its_open_known, oldest_known}

-- the only one of a list is that one
only : (g h : HandOut) → g ∷ [] ≡ h ∷ [] → g ≡ h
only g h q = ap (λ (l : List HandOut). get_or l 0 g) q

-- and an empty list has none
nothing : {A : Type 0} {h : HandOut} → [] ≡ h ∷ [] → A
nothing q = absurd (omega (arith, ap length q))

-- what a free phy makes of an Open, put into the row
module _ (p : Port) (r : PortStepped) (i : ℕ) (b : Bay) (o : Open) (l : i < length p.bays) where
  abbrev got : BayStepped
  got = bay.step_of b (open_event o)

  sends : bayState.valid_of b ≡ true → is_free b ≡ true → open_known o ≡ true → r.next.bays ≡ set p.bays i got.next
      → ((j : ℕ) → j < i → is_free (bay_at p.bays j) ≡ false)
      → Sends p r (record { phy = i; request = o; sent = got.sent.code })
  sends v f k q none =
      let made = opened b o v f k in
      let here : bay_at r.next.bays i ≡ got.next = ap (λ (bays : List Bay). bay_at bays i) q ∙ get_or-set_same p.bays i got.next fresh_bay l in
      record {
        there = l;
        none_below = λ j m. ap is_free (ap (λ (bays : List Bay). bay_at bays j) q ∙ get_or-set_other p.bays i j got.next fresh_bay (λ z. omega arith)) ∙ none j m;
        sent = ap (λ (s : BayStepped). s.sent.code) made;
        link = ap (λ (x : Bay). x.phy.link) here ∙ ap (λ (s : BayStepped). s.next.phy.link) made;
        port = ap (λ (x : Bay). x.phy.port) here ∙ ap (λ (s : BayStepped). s.next.phy.port) made;
        timer = ap (λ (x : Bay). x.phy.timer) here ∙ ap (λ (s : BayStepped). s.next.phy.timer) made;
        request = ap (λ (x : Bay). x.phy.request) here ∙ ap (λ (s : BayStepped). s.next.phy.request) made;
      }

by_way : {limit : ℕ} {p : Port} {number : ℕ} {e : Event} {r : PortStepped} → Way limit p number e r → (h : HandOut) → r.hand_outs ≡ h ∷ [] → Sends p r h
by_way (is_refused _) h q = nothing q
by_way (joins _ _) h q = nothing q
by_way {limit} {p} {number} {e} {r} (at_once w z some) h q =
    let low = lowest_free_lem p.bays some in
    subst (Sends p r) (only _ h q)
    (sends p r (lowest_free p.bays) (bay_at p.bays (lowest_free p.bays)) (open_of e) low.0 (bay_valid limit p w.judged.valid (lowest_free p.bays) low.0) low.1 (its_open_known e w.judged.known w.opens) refl
    (λ j m. sym (get_or-map is_free p.bays j fresh_bay false (omega (arith, low.0))) ∙ (lowest_is_least (free_of p.bays) some).none_before j m))
by_way (takes _ _) h q = nothing q
by_way {limit} {p} {number} {e} {r} (frees o os w z f) h q =
    let v = w.judged.valid in
    let none = none_free limit p v (omega (arith, ap length z)) in
    subst (Sends p r) (only _ h q)
    (sends p r number (bay.step_of (bay_at p.bays number) e).next o w.there (bays.stays_valid (bay_at p.bays number) e (bay_valid limit p v number w.there)) f (oldest_known limit p o os v z) refl
    (λ j m. sym (get_or-map is_free p.bays j fresh_bay false (omega (arith, w.there))) ∙ none_set (free_of p.bays) j none))

pub hand_outs_send : HandOutsSend
hand_outs_send limit p number e h q = by_way (ways limit p number e) h q
