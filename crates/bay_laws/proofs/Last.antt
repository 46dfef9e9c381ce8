-- The last report of a gap: there are two notices and one primitive at most, and no code in a list is 0.
use Prim.Native.Nat.{ℕ, suc, ◌≤◌}
use mathlib.Core.Bool.{false}
use mathlib.Core.List.{List, [], ◌∷◌}
use mathlib.Core.Path.{◌≡◌, refl}
use native.Mathlib.Omega.{arith}
use lib.Dec.{eqb}
use lib.ListN.{length, get_or}
use Rattle.table.specs.Choice.{pick}
use Rattle.table.proofs.Laws.{by_test}
use Rattle.phy.specs.Step.{step_of}
use Rattle.phy.specs.declared.Stepped.{Stepped}
use Rattle.ledger.specs.Log.{Entry, log}
use Rattle.bay.specs.Gap.{ticks, in_order, code_at, gap_of}
use Rattle.bay.specs.Step.{no_report}
use Rattle.bay.specs.declared.Report.{Report}
use Rattle.bay_laws.specs.Gaps.{last_code, LastAreLast}
use Rattle.bay_laws.proofs.AtMost.{at_most}

abbrev NoneZero : List Report → Type 0
NoneZero [] = Unit
NoneZero (r ∷ rs) = (eqb r.code 0 ≡ false) × NoneZero rs

none_zero : (code : Stepped → ℕ) (at : ℕ) (xs : List Entry) → NoneZero (in_order (λ k r. code_at (code r) k) at xs)
none_zero code at [] = tt
none_zero code at (x ∷ xs) =
    by_test (eqb (code x.result) 0) (λ t. rw t (none_zero code (suc at) xs)) (λ f. rw f (f, none_zero code (suc at) xs))

last_of_two : (l : List Report) → length l ≤ 2 → NoneZero l
    → pick (eqb (get_or l 1 no_report).code 0) (get_or l 0 no_report).code (get_or l 1 no_report).code ≡ last_code l
last_of_two [] h z = refl
last_of_two (r ∷ []) h z = refl
last_of_two (r ∷ s ∷ []) h z = rw z.1.0
last_of_two (r ∷ s ∷ t ∷ rs) h z = absurd (omega arith)

last_of_one : (l : List Report) → length l ≤ 1 → (get_or l 0 no_report).code ≡ last_code l
last_of_one [] h = refl
last_of_one (r ∷ []) h = refl
last_of_one (r ∷ s ∷ rs) h = absurd (omega arith)

pub last_are_last : LastAreLast
unfolding gap_of
last_are_last p n counter v =
    record {
      notice = last_of_two (gap_of p n).notices (at_most p n v).two_notices (none_zero (λ r. r.notice) 1 (log step_of p (ticks n)));
      sent = last_of_one (gap_of p n).sents (at_most p n v).one_sent;
    }
