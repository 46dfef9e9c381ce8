-- Once the ticks are due the answer has been given: until it is, the books say that they are not.
use Prim.Native.Nat.{ℕ, ◌+◌, ◌≤◌}
use mathlib.Core.Bool.{true, false}
use mathlib.Core.List.{List, [], ◌∷◌, ◌++◌}
use mathlib.Core.Path.{◌≡◌, refl, ap, subst, ◌∙◌}
use native.Mathlib.Omega.{arith}
use borrow.Author.Tests.{eqb-true, eq-eqb}
use lib.Dec.{eqb}
use Rattle.table.specs.Choice.{pick}
use Rattle.table.proofs.Laws.{by_test, parts}
use Rattle.event.specs.Table.{open_of, same_open}
use Rattle.event.specs.declared.Event.{Event}
use Rattle.event.specs.declared.Open.{Open}
use Rattle.phy.specs.Shapes.{fresh_phy, no_open}
use Rattle.phy.specs.State.{valid_of}
use Rattle.phy.specs.Step.{step_of}
use Rattle.phy.specs.declared.Phy.{Phy}
use Rattle.phy_laws.specs.Waiting.{is_answer}
use Rattle.phy_laws.proofs.InUse.{same_open_lem}
use Rattle.phy_laws.proofs.Steps.{fresh_valid, stays_valid}
use Rattle.ledger.specs.Log.{Entry, entry, log, after, accepted, answered, many, ticked, ticked_in_p2, heard_aip}
use Rattle.ledger.specs.Ledger.{due, Waiting, Ledger, free, waiting, broken, grown, begins, through, silent, answers, book, books}
use Rattle.ledger.specs.Demand.{phy_after, AnsweredBy}
use Rattle.ledger.proofs.OneEntry.{Holds, Agrees, not_broken, agree}
use Rattle.ledger.proofs.Demand.{follow, in_time_by}

-- ---- one entry while an Open waits: it waits on, or is answered

pub data Next (w : Waiting) (x : Entry) : Type 0 where
  waits_on : accepted x ≡ false → x.result.answer ≡ 0 → book (waiting w) x ≡ waiting (through w x) → Next w x
  answered_now : is_answer x.result.answer ≡ true → x.result.answered ≡ grown (through w x) → Next w x

pub next : (w : Waiting) (x : Entry) → (book (waiting w) x ≡ broken → ⊥) → Next w x
unfolding book
next w x n =
    by_test (accepted x)
    (λ t. absurd (n (rw t)))
    (λ f. by_test (silent x)
    (λ s. waits_on f (eqb-true x.result.answer 0 (parts (eqb x.result.answer 0) (same_open x.result.answered no_open) s).0) (rw (f, s)))
    (λ s. by_test (answers (through w x) x)
    (λ a. let q = parts (is_answer x.result.answer) (same_open x.result.answered (grown (through w x))) a in
    answered_now q.0 (same_open_lem x.result.answered (grown (through w x)) q.1))
    (λ a. absurd (n (rw (f, s, a))))))

-- ---- the first answer, from a phy whose books wait with w
record Found (p : Phy) (w : Waiting) (fs : List Event) : Type 0 where
  before : List Event
  last : Event
  rest : List Event
  whole : fs ≡ before ++ (last ∷ rest)
  none_answered : many answered (log step_of p before) ≡ 0
  none_accepted : many accepted (log step_of p before) ≡ 0
  code : is_answer (step_of (after step_of p before) last).answer ≡ true
  carries :
      (step_of (after step_of p before) last).answered
      ≡ grown (record { open_as_accepted = w.open_as_accepted; ticks_in_P2 = w.ticks_in_P2 + (many ticked_in_p2 (log step_of p before) + pick (ticked_in_p2 (entry step_of (after step_of p before) last)) 1 0); ticks = 0; aips = 0 })

-- the accepted Open after n ticks in P2
abbrev by_ticks : Open → ℕ → Open
by_ticks o n = grown (record { open_as_accepted = o; ticks_in_P2 = n; ticks = 0; aips = 0 })

stop_here : (p : Phy) (w : Waiting) (e : Event) (fs : List Event) → is_answer (step_of p e).answer ≡ true → (step_of p e).answered ≡ grown (through w (entry step_of p e)) → Found p w (e ∷ fs)
stop_here p w e fs c r =
    record {
      before = [];
      last = e;
      rest = fs;
      whole = refl;
      none_answered = refl;
      none_accepted = refl;
      code = c;
      carries = r ∙ ap (by_ticks w.open_as_accepted) (omega arith);
    }

go_on : (p : Phy) (w : Waiting) (e : Event) (fs : List Event) → accepted (entry step_of p e) ≡ false → (step_of p e).answer ≡ 0
    → Found (step_of p e).next (through w (entry step_of p e)) fs → Found p w (e ∷ fs)
go_on p w e fs a z f =
    record {
      before = e ∷ f.before;
      last = f.last;
      rest = f.rest;
      whole = ap (λ (es : List Event). e ∷ es) f.whole;
      none_answered = rw (eq-eqb (step_of p e).answer 0 z) (omega (arith, f.none_answered));
      none_accepted = rw a (omega (arith, f.none_accepted));
      code = f.code;
      carries = f.carries ∙ ap (by_ticks w.open_as_accepted) (omega arith);
    }

find : (p : Phy) (w : Waiting) (fs : List Event) → valid_of p ≡ true → Holds p w
    → due (w.aips + many heard_aip (log step_of p fs)) ≤ w.ticks + many ticked (log step_of p fs) → Found p w fs
find p w [] v h d = absurd (omega (arith, in_time_by p (waiting w) v h w refl))
find p w (e ∷ fs) v h d = choose (next w x (not_broken q (book (waiting w) x) a)) (λ k. find q (through w x) fs (stays_valid p e v) k (omega arith))
  where
    x : Entry
    x = entry step_of p e

    q : Phy
    q = (step_of p e).next

    a : Agrees q (book (waiting w) x)
    a = agree p e (waiting w) v h

    choose : Next w x → (Holds q (through w x) → Found q (through w x) fs) → Found p w (e ∷ fs)
    choose (waits_on n z b) on = go_on p w e fs n z (on (subst (Agrees q) b a))
    choose (answered_now c r) on = stop_here p w e fs c r

-- ---- from fresh

-- an accepted Open is what the books wait with
begun : (p : Phy) (e : Event) → accepted (entry step_of p e) ≡ true → (l : Ledger) → (book l (entry step_of p e) ≡ broken → ⊥) → book l (entry step_of p e) ≡ waiting (begins (entry step_of p e))
unfolding book
begun p e t free n = by_test (silent (entry step_of p e)) (λ s. rw (s, t)) (λ s. absurd (n (rw s)))
begun p e t (waiting w) n = absurd (n (rw t))
begun p e t broken n = absurd (n refl)

pub answered_by : AnsweredBy
answered_by es e fs t d =
    let p = phy_after es in
    let x = entry step_of p e in
    let f = follow fresh_phy free es fresh_valid refl in
    let l = books free (log step_of fresh_phy es) in
    let a = agree p e l f.0 f.1 in
    let h : Holds (step_of p e).next (begins x) = subst (Agrees (step_of p e).next) (begun p e t l (not_broken (step_of p e).next (book l x) a)) a in
    let g = find (step_of p e).next (begins x) fs (stays_valid p e f.0) h (omega arith) in
    record {
      before = g.before;
      last = g.last;
      rest = g.rest;
      whole = g.whole;
      none_answered = g.none_answered;
      none_accepted = g.none_accepted;
      code = g.code;
      carries = g.carries ∙ ap (by_ticks (open_of e)) (omega arith);
    }
