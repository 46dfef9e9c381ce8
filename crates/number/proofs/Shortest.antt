-- The groups written for a value have that value. No others that have it are fewer, and as many are the same.
use Prim.Native.Nat.{ℕ, zero, suc, ◌+◌, ◌*◌, ◌/◌, ◌≤◌, ◌<◌}
use mathlib.Core.List.{List, [], ◌∷◌}
use mathlib.Core.Path.{◌≡◌, refl, sym, ap, ap₂, subst, ◌∙◌}
use native.Mathlib.Omega.{arith}
use borrow.Author.Tests.{le-ltb}
use lib.ListN.{length}
use Rattle.table.proofs.Laws.{by_order}
use Rattle.number.specs.Reading.{high, most_later}
use Rattle.number.specs.Writing.{bytes_of, number_bytes}
use Rattle.number.specs.Laws.{value_of, Sevens, as_bytes, WritesValue, Fewest, OneShortest}
use Rattle.number.proofs.Groups.{last}
use Rattle.number.proofs.Padded.{groups_of, spelt}
use Rattle.number.proofs.RoundTrip.{as_many}

pub writes_value : WritesValue
unfolding number_bytes
writes_value v h = let g = spelt most_later v h in rw (g.bytes, groups_of g.first g.others g.sevens) g.says

-- ---- the number of groups: taking a group off a value takes one off any groups that have it

one_byte : (later v n : ℕ) → v < high → length (bytes_of later v) ≤ suc n
one_byte later v n h = rw (last later v h) (omega arith)

more_bytes : (later v n : ℕ) → high ≤ v → length (bytes_of later (v / high)) ≤ n → length (bytes_of (suc later) v) ≤ suc n
unfolding bytes_of
more_bytes later v n h ih = rw (le-ltb v high h) (omega arith)

tenth_byte : (v n : ℕ) → length (bytes_of zero v) ≤ suc n
unfolding bytes_of
tenth_byte v n = omega arith

above : (g w : ℕ) → g < high → (g + high * w) / high ≡ w
above g w h = omega arith

fewest_from : (later g : ℕ) (gs : List ℕ) → Sevens (g ∷ gs) → length (bytes_of later (value_of (g ∷ gs))) ≤ length (g ∷ gs)
fewest_from zero g gs s = tenth_byte (value_of (g ∷ gs)) (length gs)
fewest_from (suc later) g [] s = one_byte (suc later) (g + high * 0) 0 (omega (arith, s.0))
fewest_from (suc later) g (h ∷ hs) s =
    by_order (value_of (g ∷ h ∷ hs)) high
    (λ l. one_byte (suc later) (value_of (g ∷ h ∷ hs)) (length (h ∷ hs)) l)
    (λ m. more_bytes later (value_of (g ∷ h ∷ hs)) (length (h ∷ hs)) m
    (subst (λ (v : ℕ). length (bytes_of later v) ≤ length (h ∷ hs)) (sym (above g (value_of (h ∷ hs)) s.0)) (fewest_from later h hs s.1)))

pub fewest : Fewest
unfolding number_bytes
fewest g gs s = fewest_from most_later g gs s

-- ---- as many groups that have one value are the same: their lowest are, and so on above them

same_groups : (gs hs : List ℕ) → Sevens gs → Sevens hs → length gs ≡ length hs → value_of gs ≡ value_of hs → gs ≡ hs
same_groups [] [] s t l e = refl
same_groups [] (h ∷ hs) s t l e = absurd (omega arith)
same_groups (g ∷ gs) [] s t l e = absurd (omega arith)
same_groups (g ∷ gs) (h ∷ hs) s t l e =
    ap₂ (λ (n : ℕ) (ns : List ℕ). n ∷ ns) (omega (arith, s.0, t.0))
    (same_groups gs hs s.1 t.1 (omega arith) (omega (arith, s.0, t.0)))

pub one_shortest : OneShortest
unfolding number_bytes
one_shortest g gs s h e =
    let f = spelt most_later (value_of (g ∷ gs)) h in
    f.bytes ∙ ap as_bytes (same_groups (f.first ∷ f.others) (g ∷ gs) f.sevens s (sym (as_many (value_of (g ∷ gs)) h) ∙ e) f.says)
