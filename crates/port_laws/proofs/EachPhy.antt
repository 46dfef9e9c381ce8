-- Each phy by itself: what holds of one entry holds of every list of shelf events, one entry after the other; and of the events of a phy, demand 3 holds as of any.
use Prim.Native.Nat.{ℕ, ◌<◌}
use mathlib.Core.Bool.{true}
use mathlib.Core.List.{List, [], ◌∷◌, ◌++◌}
use mathlib.Core.Path.{◌≡◌, refl, sym, ap, ap₂, ◌∙◌}
use lib.ListN.{length, length-replicate, get_or-replicate}
use Rattle.event.specs.declared.Event.{Event}
use Rattle.event.specs.declared.ShelfEvent.{ShelfEvent}
use Rattle.bay.specs.State.{fresh_bay}
use Rattle.bay.specs.Log as bay
use Rattle.bay.specs.declared.Bay.{Bay}
use Rattle.bay_laws.specs.Spelled.{bay_opens, bay_answers}
use Rattle.bay_laws.proofs.Spelled.{spelled_out_lem}
use Rattle.port.specs.State.{Port, valid_of, fresh_port}
use Rattle.port.specs.Step.{bay_at}
use Rattle.port.specs.Log.{step_on, log, after}
use Rattle.port_laws.specs.EachPhy.{came_to, bay_events, accepted_by, answered_by, EachByItself, entry_of}
use Rattle.port_laws.proofs.Steps.{fresh_valid, stays_valid, others_equal}
use Rattle.port_laws.proofs.Logs.{after_append, gathered_log}
use Rattle.port_laws.proofs.OneEntry.{one}

-- ---- any shelf events, from any valid port

pub record All (limit : ℕ) (p : Port) (i : ℕ) (es : List ShelfEvent) : Type 0 where
  pub leads : bay_at (after limit p es).bays i ≡ bay.after (bay_at p.bays i) (bay_events i (log limit p es))
  pub opens : accepted_by i (log limit p es) ≡ bay_opens (bay.log (bay_at p.bays i) (bay_events i (log limit p es)))
  pub answered : answered_by i (log limit p es) ≡ bay_answers (bay.log (bay_at p.bays i) (bay_events i (log limit p es)))

pub all : (limit : ℕ) (es : List ShelfEvent) (p : Port) (i : ℕ) → valid_of limit p ≡ true → i < length p.bays → All limit p i es
all limit [] p i v l = record { leads = refl; opens = refl; answered = refl }
all limit (e ∷ es) p i v l =
    let x = one limit p i e v l in
    let next = (step_on limit p e).next in
    let xs = all limit es next i (stays_valid limit p e.number e.event v) (rw (others_equal limit p e.number e.event).count l) in
    let b = bay_at p.bays i in
    let came : List Event = came_to i (entry_of limit p e) in
    let behind : List Event = bay_events i (log limit next es) in
    let on : bay_at next.bays i ≡ bay.after b came = x.leads in
    record {
      leads = xs.leads ∙ ap (λ (c : Bay). bay.after c behind) on ∙ sym (after_append b came behind);
      opens = ap₂ ◌++◌ x.opens (xs.opens ∙ ap (λ (c : Bay). bay_opens (bay.log c behind)) on) ∙ sym (gathered_log _ b came behind);
      answered = ap₂ ◌++◌ x.answered (xs.answered ∙ ap (λ (c : Bay). bay_answers (bay.log c behind)) on) ∙ sym (gathered_log _ b came behind);
    }

-- a port stays valid, and of as many phys
pub after_valid : (limit : ℕ) (es : List ShelfEvent) (p : Port) → valid_of limit p ≡ true → valid_of limit (after limit p es) ≡ true
after_valid limit [] p v = v
after_valid limit (e ∷ es) p v = after_valid limit es (step_on limit p e).next (stays_valid limit p e.number e.event v)

pub after_count : (limit : ℕ) (es : List ShelfEvent) (p : Port) → length (after limit p es).bays ≡ length p.bays
after_count limit [] p = refl
after_count limit (e ∷ es) p = after_count limit es (step_on limit p e).next ∙ (others_equal limit p e.number e.event).count

-- ---- from a fresh port

pub each_by_itself : EachByItself
each_by_itself limit n i es some few l =
    let a = all limit es (fresh_port n) i (fresh_valid limit n some few) (rw length-replicate l) in
    let fresh : bay_at (fresh_port n).bays i ≡ fresh_bay = get_or-replicate n i fresh_bay fresh_bay l in
    let came : List Event = bay_events i (log limit (fresh_port n) es) in
    let s = spelled_out_lem came in
    let alone : bay_at (after limit (fresh_port n) es).bays i ≡ bay.after fresh_bay came = a.leads ∙ ap (λ (b : Bay). bay.after b came) fresh in
    record {
      alone = alone;
      phy = ap (λ (b : Bay). b.phy) alone ∙ s.phy;
      accepted = a.opens ∙ ap (λ (b : Bay). bay_opens (bay.log b came)) fresh ∙ s.accepted;
      answers = a.answered ∙ ap (λ (b : Bay). bay_answers (bay.log b came)) fresh ∙ s.answers;
      lawful = s.lawful;
    }
