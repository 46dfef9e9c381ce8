-- Each contract gives its result, and the queue that it leaves, as values of definitions. Of a row it gives what is in front and what is behind, which are the whole row.
use Prim.Native.Nat.{ℕ}
use mathlib.Core.List.{List, ◌++◌}
use mathlib.Core.Path.{◌≡◌, sym, ◌∙◌}
use lib.ListN.{take-append-drop}
use Rattle.table.proofs.Results.{by_equation}
use Rattle.bay.specs.declared.Bay.{Bay}
use Rattle.held.specs.Rows.{shown, front, behind}
use Rattle.held.specs.Laws.{Determined}

whole : (count : ℕ) (xs ys : List Bay) → front count xs ≡ front count ys → behind count xs ≡ behind count ys → xs ≡ ys
whole count xs ys f b = sym (take-append-drop (shown count) xs) ∙ (λ i. f i ++ b i) ∙ take-append-drop (shown count) ys

pub determined : Determined
determined =
    record {
      fresh = by_equation _;
      step = λ bays count queue number e r q left later x y.
          let same : left.0 ≡ later.0 = whole count _ _ (x.steps.row_left ∙ sym y.steps.row_left) (x.others ∙ sym y.others) in
          (x.steps.says ∙ sym y.steps.says, λ i. (same i, (x.steps.queue_left ∙ sym y.steps.queue_left) i));
    }
