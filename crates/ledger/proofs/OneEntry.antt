-- One entry: a valid phy and books that agree with it agree after any event.
use Prim.Native.Nat.{ℕ, ◌+◌, ◌*◌, ◌≤◌}
use mathlib.Core.Bool.{Bool, true, false, not, and-false, false≢true}
use mathlib.Core.Path.{◌≡◌, refl, sym, ap, subst, ◌∙◌}
use native.Mathlib.Nat.{add-zero}
use native.Mathlib.Omega.{arith}
use borrow.Author.Tests.{eq-eqb, eqb-true}
use lib.Dec.{eqb}
use Rattle.table.specs.Choice.{pick}
use Rattle.table.proofs.Laws.{apart, by_test, by_pick, parts}
use Rattle.table.specs.Refusals.{bad_event}
use Rattle.event.specs.Names.{tx_open, tick, aip_received, most_wait}
use Rattle.event.specs.Table.{open_of, known_of, same_open}
use Rattle.event.specs.declared.Event.{Event}
use Rattle.event.specs.declared.Open.{Open}
use Rattle.phy.specs.Names.{P2}
use Rattle.phy.specs.Shapes.{◌and◌, no_open, with_wait, refused}
use Rattle.phy.specs.State.{valid_of}
use Rattle.phy.specs.Ticks.{longer, waited_of, aged}
use Rattle.phy.specs.Step.{move_of, step_of}
use Rattle.phy.specs.declared.Waited.{Waited}
use Rattle.phy.specs.declared.Phy.{Phy}
use Rattle.phy.specs.declared.Stepped.{Stepped}
use Rattle.phy_laws.specs.Waiting.{waits, is_answer}
use Rattle.phy_laws.proofs.Counting.{accepts, heard, ticks_of, aips_of, left}
use Rattle.phy_laws.specs.Laws.{Judged}
use Rattle.phy_laws.proofs.Refusals.{step_is_move, not_refused_exactly}
use Rattle.phy_laws.proofs.Shapes.{by_shape}
use Rattle.phy_laws.proofs.OneStep.{Stepping, wait_known, open_known_lem, no_part, at_least_one}
use Rattle.phy_laws.proofs.InUse.{runs}
use Rattle.phy_laws.proofs.Steps.{by_way}
use Rattle.phy_laws.proofs.Answers.{by_tally}
use Rattle.ledger.specs.Log.{Entry, entry, not_refused, accepted, answered, ticked, ticked_in_p2, heard_aip}
use Rattle.ledger.specs.Demand.{one_if_waiting}
use Rattle.ledger.specs.Ledger.{due, Waiting, Ledger, free, waiting, broken, waited, grown, begins, through, silent, book}
use Rattle.ledger.proofs.Wait.{longer_waited, waited_none}

-- the books of a phy: free where no request waits; else its request is the accepted Open, grown, its part in P2 is the one that has grown with it, and what it may yet take is within what is due
pub record Holds (p : Phy) (w : Waiting) : Type 0 where
  pub waits_too : waits p.port ≡ true
  pub request : p.request ≡ grown w
  pub part : p.port ≡ P2 → p.part ≡ (waited w).part
  pub in_time : w.ticks + left p ≤ due w.aips

abbrev pub Agrees : Phy → Ledger → Type 0
Agrees p free = waits p.port ≡ false
Agrees p (waiting w) = Holds p w
Agrees p broken = ⊥

-- ---- tests

same_refl : (o : Open) → same_open o o ≡ true
same_refl o =
    rw (eq-eqb o.destination o.destination refl, eq-eqb o.protocol o.protocol refl, eq-eqb o.rate o.rate refl, eq-eqb o.tag o.tag refl, eq-eqb o.blockedCount o.blockedCount refl, eq-eqb o.wait o.wait refl)

pub same : (a b : Open) → a ≡ b → same_open a b ≡ true
same a b e = subst (λ (x : Open). same_open a x ≡ true) e (same_refl a)

-- an answer's code is not 0
code_not_zero : (n : ℕ) → is_answer n ≡ true → eqb n 0 ≡ false
code_not_zero n a = by_test (eqb n 0) (λ t. absurd (false≢true (subst (λ (m : ℕ). is_answer m ≡ true) (eqb-true n 0 t) a))) (λ f. f)

pub is_silent : (x : Entry) → x.result.answer ≡ 0 → x.result.answered ≡ no_open → silent x ≡ true
is_silent x a n = rw (eq-eqb x.result.answer 0 a, same x.result.answered no_open n)

pub not_silent : (x : Entry) → is_answer x.result.answer ≡ true → silent x ≡ false
not_silent x a = rw (code_not_zero x.result.answer a)

-- ---- an accepted Open begins with its own wait, which is in its range, and with no part

begins_with : (x : Entry) → x.event.sixth ≤ most_wait → waited (begins x) ≡ x.event.sixth and 0
begins_with x h = waited_none (x.event.sixth and 0) (record { wait = h; part = no_part P2 x.event.sixth })

grown_begins : (x : Entry) → x.event.sixth ≤ most_wait → open_of x.event ≡ grown (begins x)
grown_begins x h = ap (λ (v : Waited). with_wait (open_of x.event) v.wait) (sym (begins_with x h))

-- ---- refused events count as neither

no_code : (code : ℕ) (x : Entry) → eqb x.result.refusal 0 ≡ false → not_refused code x ≡ false
no_code code x r = by_test (eqb x.event.code code) (λ t. rw (t, r)) (λ f. rw f)

nothing_more : (n : ℕ) (test : Bool) → test ≡ false → n + pick test 1 0 ≡ n
nothing_more n test f = rw f (add-zero n)

-- a refused event leaves the books as they were
pub refused_book : (l : Ledger) (x : Entry) → eqb x.result.refusal 0 ≡ false → silent x ≡ true → (l ≡ broken → ⊥) → book l x ≡ l
unfolding book
refused_book free x r s n = rw (s, no_code tx_open x r)
refused_book (waiting w) x r s n =
    rw (no_code tx_open x r, s)
    (ap waiting (λ i. record {
      open_as_accepted = w.open_as_accepted;
      ticks_in_P2 = nothing_more w.ticks_in_P2 (ticked_in_p2 x) (rw (no_code tick x r)) i;
      ticks = nothing_more w.ticks (ticked x) (no_code tick x r) i;
      aips = nothing_more w.aips (heard_aip x) (no_code aip_received x r) i;
    }))
refused_book broken x r s n = absurd (n refl)

-- ---- a judged event

module _ (p : Phy) (e : Event) (v : valid_of p ≡ true) (k : known_of e ≡ true) where
  abbrev x : Entry
  x = record { event = e; result = move_of p e; port = p.port }

  -- ticks and AIPs are never refused
  unrefused : (code : ℕ) → (code ≡ 1 → ⊥) → (code ≡ 2 → ⊥) → (code ≡ 3 → ⊥) → (code ≡ 4 → ⊥) → e.code ≡ code → (move_of p e).refusal ≡ 0
  unrefused code a b c d h =
      let j : Judged p e = record { valid = v; known = k } in
      ap (λ (r : Stepped). r.refusal) (sym (step_is_move p e j))
      ∙ (not_refused_exactly p e).1 (j, record { opens = λ q. absurd (a (sym h ∙ q)); cancels = λ q. absurd (b (sym h ∙ q)); closes = λ q. absurd (c (sym h ∙ q)); breaks = λ q. absurd (d (sym h ∙ q)); protocol = λ q. absurd (d (sym h ∙ q)) })

  counts : (code : ℕ) → (code ≡ 1 → ⊥) → (code ≡ 2 → ⊥) → (code ≡ 3 → ⊥) → (code ≡ 4 → ⊥) → not_refused code x ≡ eqb e.code code
  counts code a b c d =
      by_test (eqb e.code code)
      (λ t. rw (t, eq-eqb (move_of p e).refusal 0 (unrefused code a b c d (eqb-true e.code code t))))
      (λ f. rw f)

  counts_ticks : not_refused tick x ≡ eqb e.code tick
  counts_ticks = counts tick (omega arith) (omega arith) (omega arith) (omega arith)

  counts_aips : not_refused aip_received x ≡ eqb e.code aip_received
  counts_aips = counts aip_received (omega arith) (omega arith) (omega arith) (omega arith)

  -- the request that waits has grown as the books say, and so has its part
  heard_waited : (w : Waiting) → p.request ≡ grown w → p.part ≡ (waited w).part → p.port ≡ P2 → waited_of (heard p e) ≡ waited (through w x)
  unfolding heard aged
  heard_waited w q r u =
      let v : waited_of p ≡ waited w = λ i. (q i).wait and r i in
      by_test (eqb e.code tick)
      (λ t. rw (counts_ticks, t, eq-eqb p.port P2 u) (ap longer v ∙ longer_waited (w.open_as_accepted.wait and 0) w.ticks_in_P2))
      (λ f. rw (counts_ticks, f, add-zero w.ticks_in_P2) v)

  -- of the request nothing else changes, and outside P2 nothing at all
  heard_but_wait : (heard p e).request ≡ with_wait p.request (heard p e).request.wait
  unfolding heard aged
  heard_but_wait =
      let P : Phy → Type 0 = λ q. q.request ≡ with_wait p.request q.request.wait in
      by_pick P (eqb e.code tick) (λ _. by_pick P (eqb p.port P2) (λ _. refl) (λ _. refl)) (λ _. refl)

  heard_outside : eqb p.port P2 ≡ false → heard p e ≡ p
  unfolding heard aged
  heard_outside f = by_pick (λ q. q ≡ p) (eqb e.code tick) (λ _. rw f) (λ _. refl)

  heard_grown : (w : Waiting) → p.request ≡ grown w → (p.port ≡ P2 → p.part ≡ (waited w).part) → (heard p e).request ≡ grown (through w x)
  heard_grown w q r =
      by_test (eqb p.port P2)
      (λ t. let u = eqb-true p.port P2 t in
      let h = heard_waited w q (r u) u in
      heard_but_wait ∙ (λ i. with_wait (q i) (h i).wait))
      (λ f. rw (heard_outside f, f, and-false (not_refused tick x), add-zero w.ticks_in_P2) q)

  -- what it may yet take stays within what is due
  in_due : (w : Waiting) → w.ticks + left p ≤ due w.aips → left (move_of p e).next + ticks_of e ≤ left p + 999 * aips_of e
      → (through w x).ticks + left (move_of p e).next ≤ due (through w x).aips
  in_due w h f = rw (counts_ticks, counts_aips) (omega arith)

  -- books and phy agree after the move
  agree_moved : (l : Ledger) → Agrees p l → Stepping p e (move_of p e) → Agrees (move_of p e).next (book l x)
  unfolding book
  agree_moved free a s =
      by_tally (Agrees (move_of p e).next (book free x)) p e (move_of p e) s.tally
      (λ w _ _. absurd (false≢true (sym a ∙ w)))
      (λ w _ _. absurd (false≢true (sym a ∙ w)))
      (λ _ u t. let h = wait_known (open_of e) (open_known_lem e k (eqb-true e.code tx_open (parts (eqb e.code tx_open) (eqb (move_of p e).refusal 0) t.opens).0)) in
      rw (is_silent x t.silent t.none, t.opens) (record { waits_too = u; request = t.request ∙ grown_begins x h; part = λ _. t.part ∙ ap (λ (v : Waited). v.part) (sym (begins_with x h)); in_time = omega (arith, t.soon) }))
      (λ _ u n. rw (is_silent x n.silent n.none, n.opens) u)
  agree_moved (waiting w) a s =
      by_tally (Agrees (move_of p e).next (book (waiting w) x)) p e (move_of p e) s.tally
      (λ _ u t. rw (t.opens, is_silent x t.silent t.none) (record { waits_too = u; request = t.request ∙ heard_grown w a.request a.part; part = λ q. (t.part q).1 ∙ ap (λ (v : Waited). v.part) (heard_waited w a.request (a.part (t.part q).0) (t.part q).0); in_time = in_due w a.in_time t.falls }))
      (λ _ u t. rw (t.opens, not_silent x t.code, t.code, same x.result.answered (grown (through w x)) (t.carries ∙ heard_grown w a.request a.part)) u)
      (λ f _ _. absurd (false≢true (sym f ∙ a.waits_too)))
      (λ f _ _. absurd (false≢true (sym f ∙ a.waits_too)))
  agree_moved broken a s = absurd a

pub not_broken : (p : Phy) (l : Ledger) → Agrees p l → l ≡ broken → ⊥
not_broken p free a q = apart cc
not_broken p (waiting w) a q = apart cc
not_broken p broken a q = a

-- books and phy agree after any event: a refused one changes neither
pub agree : (p : Phy) (e : Event) (l : Ledger) → valid_of p ≡ true → Agrees p l → Agrees (step_of p e).next (book l (entry step_of p e))
agree p e l v a =
    by_way (λ r. Agrees r.next (book l (record { event = e; result = r; port = p.port }))) p e
    (λ f. absurd (false≢true (sym f ∙ v)))
    (λ _ _. subst (Agrees p) (sym (refused_book l (record { event = e; result = refused p bad_event; port = p.port }) refl refl (not_broken p l a))) a)
    (λ _ k s. agree_moved p e v k l a s)

-- ---- Opens and answers

not_zero : (n : ℕ) → is_answer n ≡ true → not (eqb n 0) ≡ true
not_zero n a = rw (code_not_zero n a)

balanced_move : (p : Phy) (e : Event) → Stepping p e (move_of p e)
    → pick (accepts e (move_of p e)) 1 0 + one_if_waiting p ≡ pick (not (eqb (move_of p e).answer 0)) 1 0 + one_if_waiting (move_of p e).next
balanced_move p e s =
    by_tally (pick (accepts e (move_of p e)) 1 0 + one_if_waiting p ≡ pick (not (eqb (move_of p e).answer 0)) 1 0 + one_if_waiting (move_of p e).next) p e (move_of p e) s.tally
    (λ w u t. rw (t.opens, eq-eqb (move_of p e).answer 0 t.silent, w, u))
    (λ w u t. rw (t.opens, not_zero (move_of p e).answer t.code, w, u))
    (λ w u t. rw (t.opens, eq-eqb (move_of p e).answer 0 t.silent, w, u))
    (λ w u t. rw (t.opens, eq-eqb (move_of p e).answer 0 t.silent, w, u))

-- an acceptance begins a wait and an answer ends one
pub balanced : (p : Phy) (e : Event) → valid_of p ≡ true
    → pick (accepted (entry step_of p e)) 1 0 + one_if_waiting p ≡ pick (answered (entry step_of p e)) 1 0 + one_if_waiting (step_of p e).next
balanced p e v =
    by_way (λ r. pick (accepts e r) 1 0 + one_if_waiting p ≡ pick (not (eqb r.answer 0)) 1 0 + one_if_waiting r.next) p e
    (λ f. absurd (false≢true (sym f ∙ v)))
    (λ _ _. rw (no_code tx_open (record { event = e; result = refused p bad_event; port = p.port }) refl))
    (λ _ _ s. balanced_move p e s)

-- a request that waits may yet take a tick
pub time_left : (p : Phy) → valid_of p ≡ true → 1 ≤ left p
unfolding left
time_left =
    by_shape (λ p. 1 ≤ left p)
    (λ f v. omega arith) (λ f v. omega arith) (λ f v. omega arith)
    (λ f v. omega arith) (λ f v. omega arith) (λ f v. omega arith)
    (λ f v. omega arith) (λ f v. omega arith) (λ f v. at_least_one f.timer (runs refl v)) (λ f v. omega arith)
    (λ f v. at_least_one f.timer (runs refl v)) (λ f v. omega arith)
