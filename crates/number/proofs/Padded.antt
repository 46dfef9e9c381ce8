-- Groups that stand at a place are read to their value, by induction over the groups that may follow. Zero groups at the end add nothing to it, and what is written for a value is groups that have it.
use Prim.Native.Nat.{ℕ, zero, suc, ◌+◌, ◌-◌, ◌*◌, ◌/◌, ◌%◌, ◌^◌, ◌≤◌, ◌<◌}
use mathlib.Core.List.{List, [], ◌∷◌, ◌++◌, map}
use mathlib.Core.Path.{◌≡◌, refl, sym, ap, ap₂, ◌∙◌}
use native.Mathlib.Nat.{add-suc, suc-add}
use native.Mathlib.Numerals.{add-one}
use native.Mathlib.Omega.{arith}
use borrow.Author.Tests.{lt-ltb, le-ltb}
use lib.Dec.{ltb}
use lib.ListN.{length, replicate, length-append, length-replicate}
use Rattle.table.specs.Choice.{pick}
use Rattle.table.specs.Refusals.{too_large}
use Rattle.table.proofs.Laws.{apart, by_test, by_order}
use Rattle.number.specs.Reading.{Told, value, refused, high, most_later, tenth_byte, below, groups, read_number}
use Rattle.number.specs.Writing.{bytes_of}
use Rattle.number.specs.Laws.{value_of, group, Sevens, as_bytes, GroupsRead, PaddedAlike, GroupsAreBytes}
use Rattle.number.proofs.Groups.{cap, cap_two, last}

-- a group by itself is its value
pub one_value : (g : ℕ) → value_of (g ∷ []) ≡ g
one_value g = omega arith

-- a byte without its high bit
high_off : (g : ℕ) → high + g - high ≡ g
high_off g = omega arith

pub length_bytes : (g : ℕ) (gs : List ℕ) → length (as_bytes (g ∷ gs)) ≡ length (g ∷ gs)
length_bytes g [] = refl
length_bytes g (h ∷ hs) = ap suc (length_bytes h hs)

-- the groups of the bytes of groups are those
pub groups_of : (g : ℕ) (gs : List ℕ) → Sevens (g ∷ gs) → map group (as_bytes (g ∷ gs)) ≡ g ∷ gs
groups_of g [] s = ap (λ (n : ℕ). n ∷ []) (omega (arith, s.0))
groups_of g (h ∷ hs) s = ap₂ (λ (n : ℕ) (l : List ℕ). n ∷ l) (omega (arith, s.0)) (groups_of h hs s.1)

pub groups_are_bytes : GroupsAreBytes
groups_are_bytes [] s = tt
groups_are_bytes (g ∷ []) s = (omega (arith, s.0), tt)
groups_are_bytes (g ∷ h ∷ hs) s = (omega (arith, s.0), groups_are_bytes (h ∷ hs) s.1)

-- ---- what is said of groups, of which `later` may follow the first

abbrev said_of : (later place : ℕ) (gs : List ℕ) → Told
said_of later place gs = pick (ltb (value_of gs) (cap later)) (value (value_of gs) (place + length gs)) (refused too_large)

tenth_said : (place g : ℕ) → tenth_byte g (suc place) ≡ said_of zero place (g ∷ [])
unfolding tenth_byte
tenth_said place g =
    rw (one_value g, add-one place)
    (by_order 1 g (λ l. rw (lt-ltb 1 g l, le-ltb g 2 l)) (λ m. rw (le-ltb 1 g m, lt-ltb g 2 (omega arith))))

last_said : (later place g : ℕ) → g < high → value g (suc place) ≡ said_of (suc later) place (g ∷ [])
last_said later place g h = rw (one_value g, add-one place, lt-ltb g (cap (suc later)) (omega (arith, cap_two later)))

-- one more group below
below_said : (g w c next : ℕ) → g < high
    → below g (pick (ltb w c) (value w next) (refused too_large)) ≡ pick (ltb (g + high * w) (high * c)) (value (g + high * w) next) (refused too_large)
below_said g w c next h =
    by_order w c
    (λ l. rw (lt-ltb w c l, lt-ltb (g + high * w) (high * c) (omega arith)))
    (λ m. rw (le-ltb w c m, le-ltb (g + high * w) (high * c) (omega arith)))

said_from : (later place g : ℕ) (gs rest : List ℕ) → Sevens (g ∷ gs) → length gs ≤ later
    → groups later place (as_bytes (g ∷ gs) ++ rest) ≡ said_of later place (g ∷ gs)
unfolding groups
said_from zero place g [] rest s l = tenth_said place g
said_from zero place g (h ∷ hs) rest s l = absurd (omega arith)
said_from (suc later) place g [] rest s l = rw (lt-ltb g high s.0) (last_said later place g s.0)
said_from (suc later) place g (h ∷ hs) rest s l =
    rw (le-ltb (high + g) high (omega arith), high_off g, said_from later (suc place) h hs rest s.1 (omega arith), add-suc place (suc (length hs)), ← suc-add place (suc (length hs)))
    (below_said g (value_of (h ∷ hs)) (cap later) (suc place + suc (length hs)) s.0)

pub groups_read : GroupsRead
unfolding read_number
groups_read s place [] g = absurd (omega (arith, g.some))
groups_read s place (f ∷ fs) g = rw g.whole (said_from most_later place f fs g.rest g.sevens (omega (arith, g.few)))

-- ---- zero groups at the end

no_value : (n : ℕ) → value_of (replicate n 0) ≡ 0
no_value zero = refl
no_value (suc n) = omega (arith, no_value n)

same_value : (gs : List ℕ) (n : ℕ) → value_of (gs ++ replicate n 0) ≡ value_of gs
same_value [] n = no_value n
same_value (g ∷ gs) n = ap (λ (v : ℕ). g + high * v) (same_value gs n)

-- what is said with one place after the groups is said with another
elsewhere : (w c v next after : ℕ) → pick (ltb w c) (value w next) (refused too_large) ≡ value v next → pick (ltb w c) (value w after) (refused too_large) ≡ value v after
elsewhere w c v next after e =
    by_test (ltb w c)
    (λ t. let same : ◌≡◌ {A = Told} (value w next) (value v next) = rw t at e in rw t (ap (λ (n : ℕ). value n after) cc))
    (λ f. let none : ◌≡◌ {A = Told} (refused too_large) (value v next) = rw f at e in apart cc)

pub padded_alike : PaddedAlike
padded_alike s t place at gs n v g h =
    let there = groups_read t at (gs ++ replicate n 0) h in
    let long : length (gs ++ replicate n 0) ≡ length gs + n = rw (length-append, length-replicate) refl in
    let padded = rw (same_value gs n, long) at there in (
      λ e. padded ∙ elsewhere (value_of gs) (2 ^ 64) v (place + length gs) (at + (length gs + n)) (sym (groups_read s place gs g) ∙ e),
      λ e. groups_read s place gs g ∙ elsewhere (value_of gs) (2 ^ 64) v (at + (length gs + n)) (place + length gs) (sym padded ∙ e),
    )

-- ---- what is written for a value

pub record Spelt (later v : ℕ) : Type 0 where
  pub first : ℕ
  pub others : List ℕ
  pub bytes : bytes_of later v ≡ as_bytes (first ∷ others)
  pub few : length others ≤ later
  pub sevens : Sevens (first ∷ others)
  pub says : value_of (first ∷ others) ≡ v

one_group : (later v : ℕ) → v < high → Spelt later v
one_group later v h = record { first = v; others = []; bytes = last later v h; few = omega arith; sevens = (h, tt); says = one_value v }

more_groups : (later v : ℕ) → high ≤ v → Spelt later (v / high) → Spelt (suc later) v
unfolding bytes_of
more_groups later v h r =
    record {
      first = v % high;
      others = r.first ∷ r.others;
      bytes = rw (le-ltb v high h) (ap (λ (bs : List ℕ). (high + v % high) ∷ bs) r.bytes);
      few = omega (arith, r.few);
      sevens = (omega arith, r.sevens);
      says = omega (arith, r.says);
    }

pub spelt : (later v : ℕ) → v < cap later → Spelt later v
spelt zero v h = one_group zero v (omega arith)
spelt (suc later) v h = by_order v high (one_group (suc later) v) (λ m. more_groups later v m (spelt later (v / high) (omega arith)))
