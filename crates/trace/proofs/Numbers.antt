-- Bytes that stand at a place: what follows them, and that they lie within the list.
use Prim.Native.Nat.{ℕ, ◌+◌, ◌≤◌, ◌<◌}
use mathlib.Core.List.{List, ◌++◌}
use mathlib.Core.Path.{◌≡◌, refl, sym, ap, ◌∙◌}
use native.Mathlib.Omega.{arith}
use lib.ListN.{length, drop, length-append, length-drop}
use lib.Seq.{drop_at, drop-drop}

module _ (s : List ℕ) (place : ℕ) (bytes rest : List ℕ) (e : drop place s ≡ bytes ++ rest) where
  pub behind : drop (place + length bytes) s ≡ rest
  behind = sym (drop-drop (length bytes) place s) ∙ ap (drop (length bytes)) e ∙ drop_at bytes rest (length bytes) refl

  pub inside : 0 < length bytes → place + length bytes ≤ length s
  inside h = omega (arith, simp (length-drop, length-append) at (ap length e))
