-- The lines that are still to come lead on from those that were made, so they end as the lines from the start do.
use Prim.Native.Nat.{ℕ}
use mathlib.Core.Bool.{Bool, true, false}
use mathlib.Core.List.{List, [], ◌++◌}
use mathlib.Core.Path.{◌≡◌, subst}
use lib.Dec.{eqb}
use Rattle.table.proofs.Laws.{by_pick}
use Rattle.output.specs.Writing.{lost}
use Rattle.lines.specs.Listing.{Listable, no_line, start_of, line_at}
use Rattle.lines.specs.Laws.{Advances, over, more}
use Rattle.lines.specs.declared.Progress.{Progress}
use Rattle.lister.specs.Says.{ending_of, Ends, ListsTo}

pub record Leads {S E : Type 0} (m : Listable S E) (from : S) (s : List ℕ) (total : ℕ) (progress : Progress) (b : S) : Type 0 where
  pub back : (whole : Bool) → Ends m s progress b whole → Ends m s (start_of total) from whole

module _ {S E : Type 0} {m : Listable S E} {from : S} {s : List ℕ} {total : ℕ} {progress : Progress} {b : S} (l : Leads m from s total progress b) where
  pub leads_on : {next : Progress} {c : S} {before : List ℕ} {at n : ℕ} → Advances m s progress next b c before at n → Leads m from s total next c
  leads_on a =
      record { back = λ whole e. l.back whole (record { bytes = a.bytes ++ e.bytes; lines = more a.comes e.lines }) }

  pub leads_over : {whole : Bool} (n : ℕ) → line_at m s progress b ≡ no_line whole → ListsTo m from s total (ending_of whole n)
  leads_over {whole} n e =
      let ends : Ends m s (start_of total) from whole = l.back whole (record { bytes = []; lines = over e }) in
      let told : (t : Bool) → whole ≡ t → Ends m s (start_of total) from t = λ t w. subst (Ends m s (start_of total) from) w ends in
      by_pick (ListsTo m from s total) (eqb n lost) (λ _. tt) (λ _. by_pick (ListsTo m from s total) whole (told true) (told false))
