-- Demand 3 for every list of events: the one-entry law, carried along the list.
use Prim.Native.Nat.{◌+◌, ◌<◌}
use mathlib.Core.Bool.{true, false, false≢true}
use mathlib.Core.List.{List, [], ◌∷◌}
use mathlib.Core.Path.{◌≡◌, refl, sym, subst, ◌∙◌}
use native.Mathlib.Omega.{arith}
use Rattle.event.specs.declared.Event.{Event}
use Rattle.phy.specs.Shapes.{fresh_phy}
use Rattle.phy.specs.State.{valid_of}
use Rattle.phy.specs.Step.{step_of}
use Rattle.phy.specs.declared.Phy.{Phy}
use Rattle.phy_laws.specs.Waiting.{waits}
use Rattle.phy_laws.proofs.Steps.{fresh_valid, stays_valid}
use Rattle.ledger.specs.Log.{entry, log, after, accepted, answered, many}
use Rattle.ledger.specs.Ledger.{due, Waiting, Ledger, free, waiting, broken, grown, book, books}
use Rattle.ledger.specs.Demand.{one_if_waiting, books_of, phy_after, Demand3}
use Rattle.ledger.proofs.OneEntry.{Holds, Agrees, not_broken, agree, balanced, time_left}

-- valid and in agreement after any events
pub follow : (p : Phy) (l : Ledger) (es : List Event) → valid_of p ≡ true → Agrees p l
    → (valid_of (after step_of p es) ≡ true) × Agrees (after step_of p es) (books l (log step_of p es))
follow p l [] v a = (v, a)
follow p l (e ∷ es) v a = follow (step_of p e).next (book l (entry step_of p e)) es (stays_valid p e v) (agree p e l v a)

-- Opens and answers balance over any events
pub balances : (p : Phy) (es : List Event) → valid_of p ≡ true
    → many accepted (log step_of p es) + one_if_waiting p ≡ many answered (log step_of p es) + one_if_waiting (after step_of p es)
balances p [] v = refl
balances p (e ∷ es) v =
    let b = balanced p e v in
    let c = balances (step_of p e).next es (stays_valid p e v) in
    omega arith

-- what agreement says of the books
held_by : (p : Phy) (l : Ledger) → Agrees p l → waits p.port ≡ true → (w : Waiting) × (l ≡ waiting w) × (p.request ≡ grown w)
held_by p free a w = absurd (false≢true (sym a ∙ w))
held_by p (waiting x) a w = (x, refl, a.request)
held_by p broken a w = absurd a

pub rests_by : (p : Phy) (l : Ledger) → Agrees p l → waits p.port ≡ false → l ≡ free
rests_by p free a w = refl
rests_by p (waiting x) a w = absurd (false≢true (sym w ∙ a.waits_too))
rests_by p broken a w = absurd a

pub in_time_by : (p : Phy) (l : Ledger) → valid_of p ≡ true → Agrees p l → (w : Waiting) → l ≡ waiting w → w.ticks < due w.aips
in_time_by p l v a w q =
    let h : Holds p w = subst (Agrees p) q a in
    omega (arith, time_left p v, h.in_time)

pub demand3 : Demand3
demand3 es =
    let f = follow fresh_phy free es fresh_valid refl in
    record {
      books_hold = not_broken (phy_after es) (books_of es) f.1;
      held = held_by (phy_after es) (books_of es) f.1;
      at_rest = rests_by (phy_after es) (books_of es) f.1;
      balance = omega (arith, balances fresh_phy es fresh_valid);
      bound = in_time_by (phy_after es) (books_of es) f.0 f.1;
    }
