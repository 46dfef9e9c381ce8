-- Listings alike, by induction over the lines of the one: each is a line of the other, and the states after it are alike.
use Prim.Native.Nat.{ℕ}
use mathlib.Core.List.{List, ◌++◌}
use mathlib.Core.Path.{sym, subst, ◌∙◌}
use Rattle.lines.specs.Listing.{Listable, ListsFrom, ended, stopped, taken, Lists, listed, too_long}
use Rattle.lines.specs.Laws.{Alike, ListsAlike}

module _ {S R E : Type 0} (m : Listable S E) (w : Listable R E) (Same : S → R → Type 0) (a : Alike m w Same) where
  from : {s : List ℕ} {place count : ℕ} {b : S} {c : R} {bytes : List ℕ} → Same b c → ListsFrom m s place count b bytes → ListsFrom w s place count c bytes
  from {s} {place} k (ended e) = ended (sym (a.reads s place) ∙ e)
  from {s} {place} k (stopped e) = stopped (sym (a.reads s place) ∙ e)
  from {s} {place} {count} {b} {c} k (taken {e = v} {others = others} e l) =
      subst (λ (x : List ℕ). ListsFrom w s place count c (x ++ others)) (sym (a.line place b c v k))
      (taken (sym (a.reads s place) ∙ e) (from (a.next b c v k) l))

pub lists_alike : {S R E : Type 0} (m : Listable S E) (w : Listable R E) (Same : S → R → Type 0) → ListsAlike m w Same
lists_alike m w Same a b c s bytes k (listed {others = others} h l) =
    subst (λ (x : List ℕ). Lists w c s (x ++ others)) (sym a.header) (listed h (from m w Same a k l))
lists_alike m w Same a b c s bytes k (too_long h) = too_long h
