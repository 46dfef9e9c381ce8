-- Writing one thing after another is writing both: a store past the end changes nothing, so what has no room is left out either way.
use Prim.Native.Nat.{ℕ, suc, ◌+◌, ◌-◌, ◌≤◌, ◌<◌, min}
use mathlib.Core.List.{List, [], ◌∷◌, ◌++◌, append_assoc}
use mathlib.Core.Path.{◌≡◌, refl, sym, ap, ap₂, subst, ◌∙◌}
use native.Mathlib.Numerals.{add-one}
use native.Mathlib.Omega.{arith}
use borrow.Rule.Slice.PartMut.{put_mid}
use lib.Dec.{ltb}
use lib.ListN.{length, take, drop, get_or, length-append, take-append-drop, drop_of_length-le}
use lib.Seq.{sets, sets-eq, set_out, length-sets, length-take-le, take_all, drop-drop, drop-cons}
use Rattle.table.proofs.Laws.{by_test, by_order}
use Rattle.table.proofs.Stores.{sets_on, stored_to}
use Rattle.output.specs.Writing.{further, more_of, reached, gathered, lost}
use Rattle.output.specs.Promises.{Extends, Puts, PutsAll, WritesOut, PutsLine}
use Rattle.output.specs.declared.Text.{Text}
use Rattle.output.specs.Laws.{PutsStayLost, LinesStayLost, OutStaysLost}

-- a buffer that is full stays as it is
pub sets_out : (buffer xs : List ℕ) (at : ℕ) → length buffer ≤ at → sets buffer at xs ≡ buffer
sets_out buffer [] at h = refl
sets_out buffer (x ∷ xs) at h = rw (set_out buffer at x h) (sets_out buffer xs (suc at) (omega arith))

-- from the place reached on
sets_then : (buffer xs ys : List ℕ) (at : ℕ) → sets (sets buffer at xs) (reached (length buffer) at (length xs)) ys ≡ sets buffer at (xs ++ ys)
sets_then buffer xs ys at =
    let same : length (sets buffer at xs) ≡ length buffer = length-sets buffer at xs in
    by_order (length buffer) (at + length xs)
    (λ h. sets_out (sets buffer at xs) ys (reached (length buffer) at (length xs)) (omega arith)
    ∙ sym (sets_on buffer xs ys at ∙ sets_out (sets buffer at xs) ys (at + length xs) (omega arith)))
    (λ h. let there : reached (length buffer) at (length xs) ≡ at + length xs = omega arith in rw there (sym (sets_on buffer xs ys at)))

pub puts_none : (before : List ℕ) (n : ℕ) → Puts [] before n n before
puts_none before n = record { there = omega arith; stored = refl }

pub puts_then : {xs ys before out after : List ℕ} {n m r : ℕ} → Puts xs before n m out → Puts ys out m r after → Puts (xs ++ ys) before n r after
puts_then {xs} {ys} {before} {out} {after} {n} {m} {r} p q =
    let same : length out ≡ length before = ap length p.stored ∙ length-sets before n xs in
    record {
      there = rw length-append (omega (arith, p.there, q.there));
      stored = q.stored ∙ ap₂ (λ (l : List ℕ) (k : ℕ). sets l k ys) p.stored p.there ∙ sets_then before xs ys n;
    }

pub puts_long : {bytes before after : List ℕ} {n r : ℕ} → Puts bytes before n r after → length after ≡ length before
puts_long {bytes} {before} {n = n} p = ap length p.stored ∙ length-sets before n bytes

-- what has room stands behind what stood before it
pub puts_whole : {bytes before after : List ℕ} {n r : ℕ} → Puts bytes before n r after → n + length bytes ≤ length before → take r after ≡ take n before ++ bytes
puts_whole {bytes} {before} {n = n} p h =
    let all : reached (length before) n (length bytes) ≡ n + length bytes = omega arith in
    rw (p.stored, p.there, all) (stored_to before bytes n h)

-- the end of a line
pub puts_line : {xs ys before out after : List ℕ} {n m r : ℕ} → Puts xs before n m out → PutsLine ys out m r after → PutsLine (xs ++ ys) before n r after
puts_line {xs} {ys} {before} {out} {after} {n} {m} {r} p q =
    let both : Puts (xs ++ ys) before n (reached (length out) m (length ys)) after = puts_then p (record { there = refl; stored = q.stored }) in
    record { there = subst (λ (k : ℕ). WritesOut k gathered r) both.there q.there; stored = both.stored }

-- the same of a text that goes on in its buffer
pub extends_then : {xs ys : List ℕ} {old mid new : Text} → Extends (Puts xs) old mid → Extends (Puts ys) mid new → Extends (Puts (xs ++ ys)) old new
extends_then p q = record { puts = puts_then p.puts q.puts; same_buffer = q.same_buffer ∙ p.same_buffer }

pub extends_line : {xs ys : List ℕ} {old mid new : Text} → Extends (Puts xs) old mid → Extends (PutsLine ys) mid new → Extends (PutsLine (xs ++ ys)) old new
extends_line p q = record { puts = puts_line p.puts q.puts; same_buffer = q.same_buffer ∙ p.same_buffer }

pub extends_all : {bytes : List ℕ} {old new : Text} → Extends (PutsAll bytes) old new → Extends (Puts bytes) old new
extends_all p = record { puts = p.puts.puts; same_buffer = p.same_buffer }

-- a text that began at its buffer's start, with room for all that was put
pub extends_whole : {bytes : List ℕ} {old new : Text} → Extends (Puts bytes) old new → old.n ≡ 0 → length bytes ≤ length old.out.now → take new.n new.out.now ≡ bytes
extends_whole {bytes} {old} {new} p start room =
    puts_whole {n = 0} (subst (λ (n : ℕ). Puts bytes old.out.now n new.n new.out.now) start p.puts) (omega (arith, room))

-- ---- the invariant of a loop that writes: what is left, written from here, makes the whole

pub record Putting (whole before : List ℕ) (n : ℕ) (left out : List ℕ) (end : ℕ) : Type 0 where
  pub rest : (r : ℕ) (after : List ℕ) → Puts left out end r after → Puts whole before n r after
  pub long : length out ≡ length before

pub putting_start : (whole before : List ℕ) (n : ℕ) → Putting whole before n whole before n
putting_start whole before n = record { rest = λ r after p. p; long = refl }

module _ {whole before left out : List ℕ} {n end : ℕ} (p : Putting whole before n left out end) where
  putting_on : {xs ys next : List ℕ} {m : ℕ} → left ≡ xs ++ ys → Puts xs out end m next → Putting whole before n ys next m
  putting_on e q =
      record {
        rest = λ r after t. p.rest r after (rw e (puts_then q t));
        long = puts_long q ∙ p.long;
      }

  putting_done : left ≡ [] → Puts whole before n end out
  putting_done e = p.rest end out (rw e (puts_none out end))

-- further numbers one by one
pub more_on : {T : Type 0} (value : T → ℕ) {whole before out next : List ℕ} {n end m v : ℕ} (numbers : List T) (i : ℕ) (d : T)
    → Putting whole before n (more_of value (drop i numbers)) out end → i < length numbers
    → v ≡ value (get_or numbers i d) → Puts (further v) out end m next → Putting whole before n (more_of value (drop (i + 1) numbers)) next m
unfolding more_of
more_on value {out = out} {next} {end = end} {m} numbers i d p h e q =
    putting_on p (ap (more_of value) (drop-cons numbers i d h) ∙ rw add-one refl) (subst (λ (k : ℕ). Puts (further k) out end m next) e q)

pub more_done : {T : Type 0} (value : T → ℕ) {whole before out : List ℕ} {n end : ℕ} (numbers : List T) (i : ℕ) → Putting whole before n (more_of value (drop i numbers)) out end → length numbers ≤ i → Puts whole before n end out
unfolding more_of
more_done value numbers i p h = putting_done p (ap (more_of value) (drop_of_length-le numbers h))

-- whoever starts in the buffer ends in it
pub puts_within : {bytes before after : List ℕ} {n r : ℕ} → Puts bytes before n r after → PutsAll bytes before n r after
puts_within p = record { puts = p; within = λ h. omega (arith, p.there, puts_long p) }

-- ---- where a write failed nothing has room

pub puts_stay_lost : PutsStayLost
puts_stay_lost bytes before r after h p = (omega (arith, p.there), p.stored ∙ sets_out before bytes lost h)

pub lines_stay_lost : LinesStayLost
lines_stay_lost bytes before r after h p =
    let there : reached (length before) lost (length bytes) ≡ lost = omega arith in
    (rw there at p.there, p.stored ∙ sets_out before bytes lost h)

pub out_stays_lost : OutStaysLost
out_stays_lost least r w = by_test (ltb lost least) (λ t. rw t at w) (λ t. rw t at w)

-- ---- bytes that are written at once

-- what has no room changes nothing
fitting : (before bytes : List ℕ) (n fits : ℕ) → fits ≡ min (length bytes) (length before - n) → sets before n (take fits bytes) ≡ sets before n bytes
fitting before bytes n fits e =
    by_order (length before - n) (length bytes)
    (λ h. let long : length (take fits bytes) ≡ fits = length-take-le fits bytes (omega arith) in
    sym (ap (sets before n) (sym (take-append-drop fits bytes))
    ∙ sets_on before (take fits bytes) (drop fits bytes) n
    ∙ sets_out (sets before n (take fits bytes)) (drop fits bytes) (n + length (take fits bytes)) (rw (length-sets before n (take fits bytes), long) (omega arith))))
    (λ h. ap (sets before n) (take_all fits bytes (omega arith)))

-- a run that is written over a part as long is stored there
put_run : (before run : List ℕ) (at n : ℕ) → at + length run ≤ length before → n ≡ length run → put_mid at n before run ≡ sets before at run
put_run before run at n h e =
    rw (drop-drop n at before, e) (sym (append_assoc (take at before) run (drop (at + length run) before))) ∙ sym (sets-eq run before at h)

module _ (before bytes run : List ℕ) (n at fits : ℕ) (e : at ≡ min n (length before)) (f : fits ≡ min (length bytes) (length before - at)) (g : run ≡ take fits bytes) where
  run_long : length run ≡ fits
  run_long = rw g (length-take-le fits bytes (omega arith))

  run_stored : put_mid at fits before run ≡ sets before n bytes
  run_stored =
      put_run before run at fits (rw run_long (omega arith)) (sym run_long)
      ∙ by_order n (length before)
      (λ h. let same : at ≡ n = omega arith in
      rw (same, g) (fitting before bytes n fits (omega arith)))
      (λ h. let none : fits ≡ 0 = omega arith in rw (g, none) (sym (sets_out before bytes n h)))

  pub puts_run : PutsAll bytes before n (n + fits) (put_mid at (at + fits - at) before run)
  puts_run =
      let same : at + fits - at ≡ fits = omega arith in
      puts_within (record { there = omega arith; stored = rw same run_stored })
