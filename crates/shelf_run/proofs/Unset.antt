-- Records that are changed, each by itself, are those of a table that are changed.
use Prim.Native.Nat.{ℕ, ◌<◌}
use mathlib.Core.List.{List, ◌++◌, map, append-nil}
use mathlib.Core.Path.{◌≡◌, sym, ap, ◌∙◌}
use native.Mathlib.Omega.{arith}
use lib.ListN.{length, drop, get_or, length-map, drop_of_length-le}
use lib.Seq.{take_all}
use Rattle.std.proofs.lemmas.List.{ext_get_or, get_or-map}
use Rattle.bay.specs.declared.Bay.{Bay}
use Rattle.port.specs.Names.{most_phys}
use Rattle.shelf_run.specs.Rows.{fronted}

pub all_changed : (f : Bay → Bay) (d : Bay) (bays now : List Bay) → length bays ≡ most_phys → length now ≡ most_phys
    → ((i : ℕ) → i < most_phys → get_or now i d ≡ f (get_or bays i d)) → now ≡ fronted most_phys (map f bays) bays
all_changed f d bays now l m each =
    ext_get_or d now (map f bays) (m ∙ sym (length-map bays f ∙ l)) (λ i h. each i (omega (arith, m)) ∙ sym (get_or-map f bays i d d (omega (arith, l, m))))
    ∙ sym (append-nil (map f bays))
    ∙ ap (λ (rest : List Bay). map f bays ++ rest) (sym (drop_of_length-le bays {i = most_phys} (omega (arith, l))))
    ∙ ap (λ (front : List Bay). front ++ drop most_phys bays) (sym (take_all most_phys (map f bays) (omega (arith, l, length-map bays f))))
