-- An event is known exactly when its code is and each argument, also one that it lacks, lies in the range that the table has for it.
use Prim.Native.Nat.{ℕ, zero, suc, ◌^◌, ◌≤◌, ◌<◌}
use mathlib.Core.Bool.{Bool, true, ◌&&◌}
use mathlib.Core.List.{List, [], ◌∷◌}
use mathlib.Core.Path.{◌≡◌, refl, ap₂, subst}
use native.Mathlib.Nat.{le_trans}
use native.Mathlib.Omega.{arith}
use borrow.Author.Tests.{leb-true}
use lib.Dec.{leb}
use lib.ListN.{length, get_or, get_or-eq_default}
use Rattle.table.proofs.Laws.{every, parts, one}
use Rattle.event.specs.Names.{tx_open, time_stamp}
use Rattle.event.specs.Table.{event_of, ◌to◌, argument_rows, arguments_of, argument_count, range_at, argument_range, within, code_in_trace, arguments_known, known_in_trace}
use Rattle.event.specs.declared.Event.{Event}
use Rattle.event.specs.declared.Range.{Range}
use Rattle.event.proofs.Ranges.{fit, in_ranges}
use Rattle.trace.specs.Writing.{all_numbers}

join : {a b : Bool} → a ≡ true → b ≡ true → (a && b) ≡ true
join p q = ap₂ ◌&&◌ p q

-- ---- the table: at most six arguments, each of at most 64 bits

abbrev Capped : List Range → Type 0
Capped [] = Unit
Capped (r ∷ rs) = (r.most < 2 ^ 64) × Capped rs

pub at_most_six : (code : ℕ) → length (arguments_of code) ≤ 6
at_most_six code =
    every (λ (l : List Range). length l ≤ 6) code argument_rows
    (omega arith, (omega arith, (omega arith, (omega arith, tt))))
    (omega arith)

pub six_arguments : (code : ℕ) → argument_count code ≤ 6
unfolding argument_count
six_arguments code = at_most_six code

capped : (code : ℕ) → Capped (arguments_of code)
capped code =
    every Capped code argument_rows (
      (omega arith, (omega arith, (omega arith, (omega arith, (omega arith, (omega arith, tt)))))),
      ((omega arith, (omega arith, tt)), ((omega arith, tt), ((omega arith, tt), tt))),
    )
    tt

capped_at : (ranges : List Range) → Capped ranges → (k : ℕ) → (range_at ranges k).most < 2 ^ 64
capped_at [] c k = omega arith
capped_at (r ∷ rs) c zero = c.0
capped_at (r ∷ rs) c (suc k) = capped_at rs c.1 k

-- ---- arguments in their ranges

-- each value in its range, and zero where there is none
abbrev pub AllWithin : List Range → List ℕ → Type 0
AllWithin ranges vs = (k : ℕ) → within (range_at ranges k) (get_or vs k 0) ≡ true

pub lacks : (ranges : List Range) (vs : List ℕ) → AllWithin ranges vs → (k : ℕ) → length ranges ≤ k → get_or vs k 0 ≡ 0
lacks ranges vs w k h =
    let z : within (0 to 0) (get_or vs k 0) ≡ true = subst (λ (r : Range). within r (get_or vs k 0) ≡ true) (get_or-eq_default ranges (0 to 0) h) (w k) in
    omega (arith, leb-true (get_or vs k 0) 0 (parts (leb 0 (get_or vs k 0)) (leb (get_or vs k 0) 0) z).1)

pub small : (code : ℕ) (vs : List ℕ) → AllWithin (arguments_of code) vs → (k : ℕ) → get_or vs k 0 < 2 ^ 64
small code vs w k =
    let range : Range = range_at (arguments_of code) k in
    omega (arith, leb-true (get_or vs k 0) range.most (parts (leb range.least (get_or vs k 0)) (leb (get_or vs k 0) range.most) (w k)).1, capped_at (arguments_of code) (capped code) k)

-- ---- from an event that is known, and back

-- its six arguments
abbrev pub six_of : Event → List ℕ
six_of e = e.first ∷ e.second ∷ e.third ∷ e.fourth ∷ e.fifth ∷ e.sixth ∷ []

pub record IsKnown (code : ℕ) (vs : List ℕ) : Type 0 where
  pub coded : code_in_trace code ≡ true
  pub ranged : AllWithin (arguments_of code) vs

module _ (e : Event) (k : known_in_trace e ≡ true) where
  coded_of : code_in_trace e.code ≡ true
  unfolding known_in_trace
  coded_of = (parts _ _ k).0

  six_of_lem : (n : ℕ) → one (fit e.code 0 e.first ∷ fit e.code 1 e.second ∷ fit e.code 2 e.third ∷ fit e.code 3 e.fourth ∷ fit e.code 4 e.fifth ∷ fit e.code 5 e.sixth ∷ []) n ≡ true
  unfolding known_in_trace
  six_of_lem = in_ranges e.code e.first e.second e.third e.fourth e.fifth e.sixth (parts (code_in_trace e.code) _ k).1

  past_six : (n : ℕ) → 6 ≤ n → within (range_at (arguments_of e.code) n) (get_or (six_of e) n 0) ≡ true
  past_six n h =
      rw (get_or-eq_default (arguments_of e.code) (0 to 0) {n = n} (le_trans (at_most_six e.code) h), get_or-eq_default (six_of e) 0 {n = n} h) refl

  ranged_of : AllWithin (arguments_of e.code) (six_of e)
  unfolding argument_range
  ranged_of zero = six_of_lem 0
  ranged_of (suc zero) = six_of_lem 1
  ranged_of (suc (suc zero)) = six_of_lem 2
  ranged_of (suc (suc (suc zero))) = six_of_lem 3
  ranged_of (suc (suc (suc (suc zero)))) = six_of_lem 4
  ranged_of (suc (suc (suc (suc (suc zero))))) = six_of_lem 5
  ranged_of (suc (suc (suc (suc (suc (suc n)))))) = past_six (suc (suc (suc (suc (suc (suc n)))))) (omega arith)

  pub is_known : IsKnown e.code (six_of e)
  is_known = record { coded = coded_of; ranged = ranged_of }

  -- its code and its arguments are of 64 bits
  pub numbers_small : (n : ℕ) → get_or (all_numbers e) n 0 < 2 ^ 64
  numbers_small zero = omega (arith, leb-true e.code time_stamp (parts (leb tx_open e.code) (leb e.code time_stamp) coded_of).1)
  numbers_small (suc n) = small e.code (six_of e) ranged_of n

pub known_is : {code : ℕ} {vs : List ℕ} → IsKnown code vs → known_in_trace (event_of code vs) ≡ true
unfolding known_in_trace arguments_known argument_range
known_is i = join i.coded (join (join (join (join (join (i.ranged 0) (i.ranged 1)) (i.ranged 2)) (i.ranged 3)) (i.ranged 4)) (i.ranged 5))
