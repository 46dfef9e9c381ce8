-- Each refusal exactly when the paper says: forwards by what the reader met, backwards by computing it there.
use Prim.Native.Nat.{ℕ, zero, suc, ◌+◌, ◌-◌, ◌^◌, ◌≤◌, ◌<◌}
use mathlib.Core.List.{List, [], ◌∷◌, ◌++◌}
use mathlib.Core.Logic.{◌⊎◌, inl, inr}
use mathlib.Core.Path.{◌≡◌, refl, sym, ap, ap₂, subst, ◌∙◌}
use native.Mathlib.Nat.{add-suc, suc-add}
use native.Mathlib.Numerals.{add-one}
use native.Mathlib.Omega.{arith}
use borrow.Author.Tests.{lt-ltb, le-ltb, le-leb, lt-leb, eqb-true}
use lib.Dec.{eqb}
use lib.ListN.{length, drop, length-append, length-drop}
use Rattle.table.specs.Choice.{◌⇒◌, rows}
use Rattle.table.specs.Refusals.{cut, too_large}
use Rattle.table.proofs.Laws.{by_test, by_order}
use Rattle.number.specs.Reading.{Told, value, refused, high, most_later, tenth_byte, below, groups, read_number}
use Rattle.number.specs.Writing.{number_bytes}
use Rattle.number.specs.Laws.{value_of, Sevens, as_bytes, Bytes, ReadIsValue, Followed, EndsEarly, TenthTooLarge, CutExactly, TooLargeExactly, RefusesNoOther, NoRoomExactly, NoRoomKeeps, ReadMovesOn}
use Rattle.number.proofs.Groups.{cap, cap_two}
use Rattle.number.proofs.Padded.{one_value, length_bytes}
use Rattle.number.proofs.RoundTrip.{refused_not_wrote}

-- ---- forwards: what the reader met, for each thing it says

data Met (later place : ℕ) (bytes : List ℕ) : Told → Type 0 where
  early : Followed bytes → length bytes ≤ later → Met later place bytes (refused cut)
  large :
      (others : List ℕ) (tenth : ℕ) (rest : List ℕ) → bytes ≡ others ++ (tenth ∷ rest) → Followed others → length others ≡ later → 1 < tenth
      → Met later place bytes (refused too_large)
  whole :
      (g : ℕ) (gs rest : List ℕ) → bytes ≡ as_bytes (g ∷ gs) ++ rest → length gs ≤ later → (Bytes bytes → Sevens (g ∷ gs) × (value_of (g ∷ gs) < cap later))
      → Met later place bytes (value (value_of (g ∷ gs)) (place + length (g ∷ gs)))

-- a last group
last_met : (later place b : ℕ) (bytes : List ℕ) → b < high → b < cap later → Met later place (b ∷ bytes) (value b (suc place))
last_met later place b bytes h k =
    let m : Met later place (b ∷ bytes) (value (value_of (b ∷ [])) (place + 1)) = whole b [] bytes refl (omega arith) (λ _. ((h, tt), omega arith)) in
    rw (one_value b, add-one place) at m

-- one more byte, which says that another follows
more_met : (later place b : ℕ) (bytes : List ℕ) (t : Told) → high ≤ b → Met later (suc place) bytes t → Met (suc later) place (b ∷ bytes) (below (b - high) t)
more_met later place b bytes t h (early f l) = early (h, f) (omega arith)
more_met later place b bytes t h (large os n rest e f l g) = large (b ∷ os) n rest (ap (λ (bs : List ℕ). b ∷ bs) e) (h, f) (ap suc l) g
more_met later place b bytes t h (whole g gs rest e l w) =
    subst (λ (k : ℕ). Met (suc later) place (b ∷ bytes) (value (value_of ((b - high) ∷ g ∷ gs)) k)) (add-suc place (length (g ∷ gs)) ∙ sym (suc-add place (length (g ∷ gs))))
    (whole (b - high) (g ∷ gs) rest (ap₂ (λ (n : ℕ) (bs : List ℕ). n ∷ bs) (omega arith) e) (omega arith)
    (λ y. ((omega (arith, y.0), (w y.1).0), omega (arith, y.0, (w y.1).1))))

met : (later place : ℕ) (bytes : List ℕ) → Met later place bytes (groups later place bytes)
unfolding groups tenth_byte
met later place [] = early tt (omega arith)
met zero place (b ∷ bytes) =
    by_order 1 b
    (λ l. rw (lt-ltb 1 b l) (large [] b bytes refl tt refl l))
    (λ s. rw (le-ltb 1 b s) (last_met zero place b bytes (omega arith) (omega arith)))
met (suc later) place (b ∷ bytes) =
    by_order b high
    (λ l. rw (lt-ltb b high l) (last_met (suc later) place b bytes l (omega (arith, cap_two later))))
    (λ m. rw (le-ltb b high m) (more_met later place b bytes (groups later (suc place) bytes) m (met later (suc place) bytes)))

-- the groups of a value that was said
record Groups (place : ℕ) (bytes : List ℕ) (v next : ℕ) : Type 0 where
  first : ℕ
  others : List ℕ
  rest : List ℕ
  whole : bytes ≡ as_bytes (first ∷ others) ++ rest
  few : length others ≤ most_later
  says : v ≡ value_of (first ∷ others)
  far : next ≡ place + length (first ∷ others)
  sound : Bytes bytes → Sevens (first ∷ others) × (v < 2 ^ 64)

-- why it was said: the paper's reason for each refusal, and for a value its groups
abbrev Why : ℕ → List ℕ → Told → Type 0
Why place bytes (value v next) = Groups place bytes v next
Why place bytes (refused n) = rows n ((cut ⇒ EndsEarly bytes) ∷ (too_large ⇒ TenthTooLarge bytes) ∷ []) ⊥

why : {place : ℕ} {bytes : List ℕ} {t : Told} → Met most_later place bytes t → Why place bytes t
why (early f l) = record { followed = f; few = l }
why (large os n rest w f l g) = record { others = os; tenth = n; rest = rest; whole = w; followed = f; nine = l; large = g }
why (whole g gs rest w l sound) = record { first = g; others = gs; rest = rest; whole = w; few = l; says = refl; far = refl; sound = sound }

-- ---- backwards

early_back : (later place : ℕ) (bytes : List ℕ) → Followed bytes → length bytes ≤ later → groups later place bytes ≡ refused cut
unfolding groups
early_back later place [] f l = refl
early_back zero place (b ∷ bytes) f l = absurd (omega arith)
early_back (suc later) place (b ∷ bytes) f l =
    rw (le-ltb b high f.0) (ap (below (b - high)) (early_back later (suc place) bytes f.1 (omega arith)))

large_back : (later place : ℕ) (others : List ℕ) (tenth : ℕ) (rest : List ℕ) → Followed others → length others ≡ later → 1 < tenth → groups later place (others ++ (tenth ∷ rest)) ≡ refused too_large
unfolding groups tenth_byte
large_back zero place [] tenth rest f l g = rw (lt-ltb 1 tenth g)
large_back (suc later) place [] tenth rest f l g = absurd (omega arith)
large_back zero place (b ∷ others) tenth rest f l g = absurd (omega arith)
large_back (suc later) place (b ∷ others) tenth rest f l g =
    rw (le-ltb b high f.0) (ap (below (b - high)) (large_back later (suc place) others tenth rest f.1 (omega arith) g))

-- ---- exactly when

because : (s : List ℕ) (place : ℕ) {t : Told} → read_number s place ≡ t → Why place (drop place s) t
unfolding read_number
because s place e = subst (Why place (drop place s)) e (why (met most_later place (drop place s)))

pub cut_exactly : CutExactly
unfolding read_number
cut_exactly s place = (because s place, λ f. early_back most_later place (drop place s) f.followed f.few)

pub too_large_exactly : TooLargeExactly
unfolding read_number
too_large_exactly s place = (
  because s place,
  λ l. rw l.whole (large_back most_later place l.others l.tenth l.rest l.followed l.nine l.large),
)

-- a number of the table of reasons is one of its two
listed : (n : ℕ) (bytes : List ℕ) → Why 0 bytes (refused n) → (n ≡ cut) ⊎ (n ≡ too_large)
listed n bytes w =
    by_test (eqb n cut) (λ t. inl (eqb-true n cut t))
    (λ f. by_test (eqb n too_large) (λ t. inr (eqb-true n too_large t)) (λ g. absurd (rw (f, g) at w)))

pub refuses_no_other : RefusesNoOther
refuses_no_other s place n e = listed n (drop place s) (because s place e)

-- ---- a value

pub read_moves_on : ReadMovesOn
read_moves_on s place v next e =
    let y = because s place e in
    let long : length s - place ≡ length (as_bytes (y.first ∷ y.others)) + length y.rest = simp (length-drop, length-append) at (ap length y.whole) in
    record { forward = omega (arith, y.far); few = omega (arith, y.far, y.few); within = omega (arith, y.far, length_bytes y.first y.others) }

bytes_from : (s : List ℕ) (place : ℕ) → Bytes s → Bytes (drop place s)
bytes_from s zero w = w
bytes_from [] (suc place) w = tt
bytes_from (b ∷ s) (suc place) w = bytes_from s place w.1

pub read_is_value : ReadIsValue
read_is_value s place v next w e =
    let y = because s place e in
    let k = y.sound (bytes_from s place w) in
    record {
      gs = y.first ∷ y.others;
      stands = record { some = omega arith; few = omega (arith, y.few); sevens = k.0; rest = y.rest; whole = y.whole };
      says = y.says;
      small = k.1;
      far = y.far;
    }

-- ---- the writer

pub no_room_exactly : NoRoomExactly
no_room_exactly v buffer place = (
  λ e. by_order (length buffer) (place + length (number_bytes v)) (λ l. l) (λ g. absurd (refused_not_wrote (sym (rw (le-leb (place + length (number_bytes v)) (length buffer) g) at e)))),
  λ l. rw (lt-leb (place + length (number_bytes v)) (length buffer) l),
)

pub no_room_keeps : NoRoomKeeps
no_room_keeps v buffer place e = rw (lt-leb (place + length (number_bytes v)) (length buffer) ((no_room_exactly v buffer place).0 e))
