-- One counter alone: what is set at a bay and a column is read there, and elsewhere what was there before.
use Prim.Native.Nat.{ℕ, zero, suc, ◌+◌, ◌≤◌, ◌<◌}
use mathlib.Core.Bool.{false, false≢true}
use mathlib.Core.List.{List, [], ◌∷◌}
use mathlib.Core.Path.{◌≡◌, refl, sym, ap, ◌∙◌}
use native.Mathlib.Omega.{arith}
use borrow.Author.Tests.{lt-ltb, le-ltb, eqb-true, eqb-false}
use lib.Dec.{eqb}
use lib.ListN.{length, set, get_or, replicate, length-set, length-replicate, get_or-eq_default}
use lib.Seq.{get_or-set_same, get_or-set_other}
use Rattle.std.proofs.lemmas.List.{get_or-replicate}
use Rattle.table.proofs.Laws.{by_test, by_order, by_pick}
use Rattle.counts.specs.Names.{row_count, column_count, ceiling, column_of}
use Rattle.counts.specs.Counters.{Counters, none, counter_at, is_counter, refusal_at, one_higher, raised_at, raised_of}
use Rattle.counts.specs.Walk.{at_most}
use Rattle.counts.specs.Laws.{AllLong, Sound, NoneSound, RaisesOneAlone}
use Rattle.counts.proofs.Places.{There, there}

pub one_higher_lem : (n : ℕ) → n ≤ ceiling → one_higher n ≡ at_most (n + 1)
one_higher_lem n h = by_order n ceiling (λ lt. rw (lt-ltb n ceiling lt) (omega arith)) (λ le. rw (le-ltb n ceiling le) (omega arith))

-- each row is long, also where one is set to another that is
pub row_long : (t : Counters) (bay : ℕ) → AllLong t → bay < length t → length (get_or t bay []) ≡ column_count
row_long [] bay l h = absurd (omega arith)
row_long (row ∷ rows) zero l h = l.0
row_long (row ∷ rows) (suc bay) l h = row_long rows bay l.1 (omega arith)

set_long : (t : Counters) (bay : ℕ) (row : List ℕ) → AllLong t → length row ≡ column_count → AllLong (set t bay row)
set_long [] bay row l h = tt
set_long (other ∷ rows) zero row l h = (h, l.1)
set_long (other ∷ rows) (suc bay) row l h = (l.0, set_long rows bay row l.1 h)

module _ (t : Counters) (bay column v : ℕ) where
  abbrev changed : Counters
  changed = set t bay (set (get_or t bay []) column v)

  pub set_there : bay < length t → column < length (get_or t bay []) → counter_at changed bay column ≡ v
  set_there h k =
      ap (λ (row : List ℕ). get_or row column 0) (get_or-set_same t bay (set (get_or t bay []) column v) [] h)
      ∙ get_or-set_same (get_or t bay []) column v 0 k

  pub set_elsewhere : (other at : ℕ) → bay < length t → ((other ≡ bay) × (at ≡ column) → ⊥) → counter_at changed other at ≡ counter_at t other at
  set_elsewhere other at h ne =
      by_test (eqb other bay)
      (λ e. let same = eqb-true other bay e in
      rw same
      (ap (λ (row : List ℕ). get_or row at 0) (get_or-set_same t bay (set (get_or t bay []) column v) [] h)
      ∙ get_or-set_other (get_or t bay []) column at v 0 (λ f. ne (same, f))))
      (λ e. ap (λ (row : List ℕ). get_or row at 0) (get_or-set_other t bay other (set (get_or t bay []) column v) [] (eqb-false other bay e)))

-- ---- raising

module _ (t : Counters) (bay column : ℕ) (s : Sound t) (p : There bay column) where
  row_there : bay < length t
  row_there = omega (arith, s.rows, p.row)

  long : length (get_or t bay []) ≡ column_count
  long = row_long t bay s.columns row_there

  pub raised_own : counter_at (raised_at t bay column) bay column ≡ at_most (counter_at t bay column + 1)
  raised_own =
      set_there t bay column (one_higher (counter_at t bay column)) row_there (omega (arith, long, p.within))
      ∙ one_higher_lem (counter_at t bay column) (s.low bay column)

  pub raised_others : (other at : ℕ) → ((other ≡ bay) × (at ≡ column) → ⊥) → counter_at (raised_at t bay column) other at ≡ counter_at t other at
  raised_others other at ne = set_elsewhere t bay column (one_higher (counter_at t bay column)) other at row_there ne

  raised_low : (other at : ℕ) → counter_at (raised_at t bay column) other at ≤ ceiling
  raised_low other at =
      by_test (eqb other bay)
      (λ e. by_test (eqb at column)
      (λ f. rw (eqb-true other bay e, eqb-true at column f, raised_own) (omega arith))
      (λ f. rw (raised_others other at (λ q. eqb-false at column f q.1)) (s.low other at)))
      (λ e. rw (raised_others other at (λ q. eqb-false other bay e q.0)) (s.low other at))

  pub raised_sound : Sound (raised_at t bay column)
  raised_sound =
      record {
        rows = length-set _ _ _ ∙ s.rows;
        columns = set_long t bay _ s.columns (length-set _ _ _ ∙ long);
        low = raised_low;
      }

-- what is not there is refused
pub is_refused : (bay column : ℕ) → is_counter bay column ≡ false → refusal_at bay column ≡ 0 → ⊥
is_refused bay column c r =
    by_order bay row_count
    (λ h. by_order column column_count (λ k. false≢true (sym c ∙ rw (lt-ltb bay row_count h, lt-ltb column column_count k) refl))
    (λ k. omega (arith, rw (lt-ltb bay row_count h, le-ltb column column_count k) at r)))
    (λ h. omega (arith, rw (le-ltb bay row_count h) at r))

pub raises_one_alone : RaisesOneAlone
unfolding raised_of
raises_one_alone t bay answer s =
    let column = column_of answer in
    record {
      sound = by_pick Sound (is_counter bay column) (λ c. raised_sound t bay column s (there bay column c)) (λ _. s);
      own = λ r. by_pick (λ (u : Counters). counter_at u bay column ≡ at_most (counter_at t bay column + 1)) (is_counter bay column) (λ c. raised_own t bay column s (there bay column c)) (λ c. absurd (is_refused bay column c r));
      others = λ other at ne. by_pick (λ (u : Counters). counter_at u other at ≡ counter_at t other at) (is_counter bay column) (λ c. raised_others t bay column s (there bay column c) other at ne) (λ _. refl);
    }

-- ---- cleared counters

-- as many rows of zeros as there may be
zeros_long : (n : ℕ) → AllLong (replicate n (replicate column_count 0))
zeros_long zero = tt
zeros_long (suc n) = (length-replicate {A = ℕ} column_count 0, zeros_long n)

zero_at : (n column : ℕ) → get_or {A = ℕ} (replicate n 0) column 0 ≡ 0
zero_at n column =
    by_order column n (λ h. get_or-replicate n column 0 0 h)
    (λ h. get_or-eq_default (replicate n 0) 0 (omega (arith, length-replicate {A = ℕ} n 0)))

zeros_at : (n bay column : ℕ) → counter_at (replicate n (replicate column_count 0)) bay column ≡ 0
zeros_at zero bay column = refl
zeros_at (suc n) zero column = zero_at column_count column
zeros_at (suc n) (suc bay) column = zeros_at n bay column

pub none_at : (bay column : ℕ) → counter_at none bay column ≡ 0
none_at = zeros_at row_count

pub none_sound : NoneSound
none_sound =
    record {
      rows = length-replicate row_count (replicate {A = ℕ} column_count 0);
      columns = zeros_long row_count;
      low = λ bay column. omega (arith, none_at bay column);
    }
