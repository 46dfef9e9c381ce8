-- Demand 3 with stamps: event by event a bay does what its phy does on the spelled-out list, of which demand 3 holds.
use Prim.Native.Nat.{ℕ, zero, suc, ◌+◌, ◌≤◌}
use mathlib.Core.Bool.{Bool, true, false}
use mathlib.Core.List.{List, [], ◌∷◌, ◌++◌, append-nil, append_assoc}
use mathlib.Core.Path.{◌≡◌, refl, sym, ap, ap₂, subst, ◌∙◌}
use native.Mathlib.Omega.{arith}
use borrow.Author.Tests.{eq-eqb, ne_eqb, eqb-true}
use lib.Dec.{eqb}
use lib.ListN.{length, get_or, length-append}
use Rattle.table.specs.Choice.{pick}
use Rattle.table.proofs.Laws.{by_test, parts}
use Rattle.event.specs.Names.{tx_open, tick, time_stamp}
use Rattle.event.specs.Table.{known_in_trace, open_of}
use Rattle.event.specs.declared.Event.{Event}
use Rattle.event.specs.declared.Open.{Open}
use Rattle.phy.specs.Shapes.{no_open}
use Rattle.phy.specs.Step as phy
use Rattle.phy.specs.declared.Phy.{Phy}
use Rattle.phy_laws.proofs.Bytes.{answer_least}
use Rattle.ledger.specs.Log as ledger
use Rattle.ledger.specs.Log.{many, ticked, heard_aip, answered}
use Rattle.ledger.specs.Ledger.{due}
use Rattle.ledger.specs.Demand.{plain, log_of, phy_after, one_if_waiting, AnsweredWithin}
use Rattle.ledger.proofs.Log.{after_append, log_append}
use Rattle.ledger.proofs.Demand.{demand3}
use Rattle.ledger.proofs.AnsweredBy.{answered_by}
use Rattle.bay.specs.State.{valid_of, fresh_bay}
use Rattle.bay.specs.Gap.{ticks, in_order, answer_at, open_at, gap_of}
use Rattle.bay.specs.Step.{no_report, ticks_to, is_stamp, step_of}
use Rattle.bay.specs.Log.{log, after}
use Rattle.bay.specs.declared.Bay.{Bay}
use Rattle.bay.specs.declared.Stepped.{Stepped}
use Rattle.bay.proofs.Steps.{phy_valid}
use Rattle.bay_laws.specs.Spelled.{in_ticks, spelled_out, Answer, open_if, answer_if, gathered, opens_of, answers_of, bay_opens, bay_answers, SpelledOut, AnsweredByStamps}
use Rattle.bay_laws.proofs.AtMost.{answers}
use Rattle.bay_laws.proofs.Steps.{others_are_phys, a_gap, fresh_valid, stays_valid}

-- ---- lists of a log

module _ {A : Type 0} (given : ledger.Entry → List A) where
  gathered_append : (xs ys : List ledger.Entry) → gathered given (xs ++ ys) ≡ gathered given xs ++ gathered given ys
  gathered_append [] ys = refl
  gathered_append (x ∷ xs) ys = ap (λ (l : List A). given x ++ l) (gathered_append xs ys) ∙ sym (append_assoc (given x) (gathered given xs) (gathered given ys))

  -- as many as pass a test, where each that does gives one
  many_gathered : (test : ledger.Entry → Bool) → ((x : ledger.Entry) → length (given x) ≡ pick (test x) 1 0) → (xs : List ledger.Entry) → length (gathered given xs) ≡ many test xs
  many_gathered test h [] = refl
  many_gathered test h (x ∷ xs) = omega (arith, length-append (given x) (gathered given xs), h x, many_gathered test h xs)

many_opens : (xs : List ledger.Entry) → length (opens_of xs) ≡ many ledger.accepted xs
many_opens = many_gathered _ ledger.accepted (λ x. by_test (ledger.accepted x) (λ t. rw t) (λ f. rw f))

many_answers : (xs : List ledger.Entry) → length (answers_of xs) ≡ many answered xs
many_answers = many_gathered _ answered (λ x. by_test (eqb x.result.answer 0) (λ t. rw t) (λ f. rw f))

none_answered : (xs : List ledger.Entry) → many answered xs ≡ 0 → answers_of xs ≡ []
none_answered [] z = refl
none_answered (x ∷ xs) z =
    by_test (eqb x.result.answer 0)
    (λ t. rw t (none_answered xs (omega (arith, rw t at z))))
    (λ f. absurd (let q = rw f at z in omega arith))

-- ---- a gap's answer is the one of its log, where that has one at most

alone : (a : Answer) {more : List Answer} → more ≡ [] → (a ∷ []) ≡ a ∷ more
alone a e = rw e

gap_answer : (at : ℕ) (xs : List ledger.Entry) → many answered xs ≤ 1
    → answer_if (get_or (in_order answer_at at xs) 0 no_report).code (get_or (in_order open_at at xs) 0 no_open) ≡ answers_of xs
gap_answer at [] h = refl
gap_answer at (x ∷ xs) h =
    by_test (eqb x.result.answer 0)
    (λ t. rw t (gap_answer (suc at) xs (omega (arith, rw t at h))))
    (λ f. rw (f, f) (alone _ (none_answered xs (let q = rw f at h in omega arith))))

no_opens : (n : ℕ) (p : Phy) → opens_of (ledger.log phy.step_of p (ticks n)) ≡ []
no_opens zero p = refl
no_opens (suc n) p = no_opens n (phy.step_of p (plain tick)).next

-- ---- one event

record One (b : Bay) (e : Event) : Type 0 where
  leads : (step_of b e).next.phy ≡ ledger.after phy.step_of b.phy (in_ticks b e)
  opens : open_if e (step_of b e).refusal ≡ opens_of (ledger.log phy.step_of b.phy (in_ticks b e))
  answered : answer_if (step_of b e).answer.code (step_of b e).answered ≡ answers_of (ledger.log phy.step_of b.phy (in_ticks b e))

-- a stamp is no Tx Open
stamp_opens : (e : Event) (n : ℕ) → is_stamp e ≡ true → open_if e n ≡ []
stamp_opens e n t = rw (eqb-true e.code time_stamp (parts (eqb e.code time_stamp) (known_in_trace e) t).0)

one : (b : Bay) (e : Event) → valid_of b ≡ true → One b e
unfolding gap_of
one b e v =
    by_test (is_stamp e)
    (λ t. let g = a_gap b e v t in
    let n = ticks_to b e.first in
    record {
      leads = ap (λ (r : Stepped). r.next.phy) g ∙ rw t;
      opens = rw t (stamp_opens e (step_of b e).refusal t ∙ sym (no_opens n b.phy));
      answered = rw t (ap (λ (r : Stepped). answer_if r.answer.code r.answered) g ∙ gap_answer 1 (ledger.log phy.step_of b.phy (ticks n)) (answers n b.phy (phy_valid b v)));
    })
    (λ f. let g = others_are_phys b e v f in
    let r = phy.step_of b.phy e in
    record {
      leads = ap (λ (r : Stepped). r.next.phy) g ∙ rw f;
      opens = rw f (ap (λ (r : Stepped). open_if e r.refusal) g ∙ sym (append-nil (open_if e r.refusal)));
      answered = rw f (ap (λ (r : Stepped). answer_if r.answer.code r.answered) g ∙ sym (append-nil (answer_if r.answer r.answered)));
    })

-- ---- any events, from any valid bay

record All (b : Bay) (es : List Event) : Type 0 where
  leads : (after b es).phy ≡ ledger.after phy.step_of b.phy (spelled_out b es)
  opens : bay_opens (log b es) ≡ opens_of (ledger.log phy.step_of b.phy (spelled_out b es))
  answered : bay_answers (log b es) ≡ answers_of (ledger.log phy.step_of b.phy (spelled_out b es))

all : (es : List Event) (b : Bay) → valid_of b ≡ true → All b es
all [] b v = record { leads = refl; opens = refl; answered = refl }
all (e ∷ es) b v =
    let next = (step_of b e).next in
    let x = one b e v in
    let xs = all es next (stays_valid b e v) in
    let behind : List Event = spelled_out next es in
    let p : ledger.after phy.step_of b.phy (in_ticks b e) ≡ next.phy = sym x.leads in
    let l : ledger.log phy.step_of b.phy (in_ticks b e ++ behind) ≡ ledger.log phy.step_of b.phy (in_ticks b e) ++ ledger.log phy.step_of next.phy behind =
    log_append phy.step_of b.phy (in_ticks b e) behind ∙ ap (λ (q : Phy). ledger.log phy.step_of b.phy (in_ticks b e) ++ ledger.log phy.step_of q behind) p in
    record {
      leads = xs.leads ∙ ap (λ (q : Phy). ledger.after phy.step_of q behind) (sym p) ∙ sym (after_append phy.step_of b.phy (in_ticks b e) behind);
      opens = ap₂ ◌++◌ x.opens xs.opens ∙ sym (ap opens_of l ∙ gathered_append _ (ledger.log phy.step_of b.phy (in_ticks b e)) (ledger.log phy.step_of next.phy behind));
      answered = ap₂ ◌++◌ x.answered xs.answered ∙ sym (ap answers_of l ∙ gathered_append _ (ledger.log phy.step_of b.phy (in_ticks b e)) (ledger.log phy.step_of next.phy behind));
    }

pub after_valid : (es : List Event) (b : Bay) → valid_of b ≡ true → valid_of (after b es) ≡ true
after_valid [] b v = v
after_valid (e ∷ es) b v = after_valid es (step_of b e).next (stays_valid b e v)

pub spelled_out_lem : SpelledOut
spelled_out_lem es =
    let a = all es fresh_bay fresh_valid in
    let d = demand3 (spelled_out fresh_bay es) in
    let l = log_of (spelled_out fresh_bay es) in
    record {
      phy = a.leads;
      accepted = a.opens;
      answers = a.answered;
      lawful = d;
      balance = ap length a.opens ∙ many_opens l ∙ d.balance ∙ ap₂ (λ (m n : ℕ). m + n) (sym (ap length a.answered ∙ many_answers l)) (ap one_if_waiting (sym a.leads));
    }

-- ---- once the ticks are due

-- the answer that is found first is the log's first
first_answer : (p : Phy) (o : Open) (fs : List Event) (w : AnsweredWithin p o fs)
    → answers_of (ledger.log phy.step_of p fs)
    ≡ record { code = (phy.step_of (ledger.after phy.step_of p w.before) w.last).answer; request = (phy.step_of (ledger.after phy.step_of p w.before) w.last).answered }
    ∷ answers_of (ledger.log phy.step_of (phy.step_of (ledger.after phy.step_of p w.before) w.last).next w.rest)
first_answer p o fs w =
    let q = ledger.after phy.step_of p w.before in
    let r = phy.step_of q w.last in
    let n : eqb r.answer 0 ≡ false = ne_eqb r.answer 0 (λ z. omega (arith, answer_least r.answer w.code)) in
    ap (λ (es : List Event). answers_of (ledger.log phy.step_of p es)) w.whole
    ∙ ap answers_of (log_append phy.step_of p w.before (w.last ∷ w.rest))
    ∙ gathered_append _ (ledger.log phy.step_of p w.before) (ledger.log phy.step_of q (w.last ∷ w.rest))
    ∙ rw (none_answered (ledger.log phy.step_of p w.before) w.none_answered, n)

pub answered_by_stamps : AnsweredByStamps
answered_by_stamps es e fs a d =
    let b = after fresh_bay es in
    let gs = spelled_out fresh_bay es in
    let v = after_valid es fresh_bay fresh_valid in
    let n : is_stamp e ≡ false = rw a.0 in
    let g = others_are_phys b e v n in
    let next = (step_of b e).next in
    let same : b.phy ≡ phy_after gs = (all es fresh_bay fresh_valid).leads in
    let there : (phy.step_of (phy_after gs) e).next ≡ next.phy = ap (λ (q : Phy). (phy.step_of q e).next) (sym same) ∙ sym (ap (λ (r : Stepped). r.next.phy) g) in
    let taken : (phy.step_of (phy_after gs) e).refusal ≡ 0 = ap (λ (q : Phy). (phy.step_of q e).refusal) (sym same) ∙ sym (ap (λ (r : Stepped). r.refusal) g) ∙ a.1 in
    let hs : List Event = spelled_out next fs in
    let w : AnsweredWithin next.phy (open_of e) hs =
    subst (λ (q : Phy). AnsweredWithin q (open_of e) hs) there
    (answered_by gs e hs (rw (eq-eqb e.code tx_open a.0, eq-eqb (phy.step_of (phy_after gs) e).refusal 0 taken))
    (subst (λ (q : Phy). due (many heard_aip (ledger.log phy.step_of q hs)) ≤ many ticked (ledger.log phy.step_of q hs)) (sym there) d)) in
    record { spelled = w; others = _; first = (all fs next (stays_valid b e v)).answered ∙ first_answer next.phy (open_of e) (spelled_out next fs) w }
