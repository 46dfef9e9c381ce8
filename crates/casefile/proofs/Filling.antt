-- The invariants of filling a buffer with pieces: what is left to do, started from here, makes the whole, and as long as all had room the lengths add up.
use Prim.Native.Nat.{ℕ, zero, suc, ◌+◌, ◌-◌, ◌≤◌, ◌<◌, max}
use mathlib.Core.Bool.{Bool, true, false, ◌&&◌}
use mathlib.Core.List.{List, [], ◌∷◌, ◌++◌}
use mathlib.Core.Path.{◌≡◌, refl, sym, ap, ◌∙◌}
use native.Mathlib.Omega.{arith}
use borrow.Author.Tests.{le-leb, lt-leb, leb-true, leb-false}
use lib.Dec.{leb}
use lib.ListN.{length, length-append}
use Rattle.table.specs.Choice.{pick}
use Rattle.output.specs.Writing.{reached}
use Rattle.output.specs.Promises.{Puts}
use Rattle.output.proofs.Places.{sets_out, Putting, putting_start, puts_none, puts_then, puts_long}
use Rattle.casefile.specs.Reading.{taken}
use Rattle.casefile.specs.Pieces.{repeated, string_at, piece_at, pieces_at, place_behind, all_pieces}
use Rattle.casefile.specs.Promises.{PutsPiece, PutsPieces, TakesNumber, TakesBytes}
use Rattle.number.specs.declared.Found.{Found}

puts_full : (bytes before : List ℕ) (n : ℕ) → length before ≤ n → Puts bytes before n n before
puts_full bytes before n h = record { there = omega arith; stored = sym (sets_out before bytes n h) }

-- ---- one piece, so many times

pub record Filling (piece : List ℕ) (times : ℕ) (before : List ℕ) (n left : ℕ) (buffer : List ℕ) (end : ℕ) : Type 0 where
  pub rest : Putting (repeated times piece) before n (repeated left piece) buffer end
  pub sum : end + length (repeated left piece) ≡ n + length (repeated times piece)
  pub low : n ≤ end
  pub high : end ≤ max n (length before)

pub filling_start : (piece : List ℕ) (times : ℕ) (before : List ℕ) (n : ℕ) → Filling piece times before n times before n
filling_start piece times before n = record { rest = putting_start _ _ _; sum = refl; low = omega arith; high = omega arith }

-- an empty piece is nothing, however often
repeated_none : (piece : List ℕ) → length piece ≡ 0 → (times : ℕ) → repeated times piece ≡ []
unfolding repeated
repeated_none [] h zero = refl
repeated_none [] h (suc times) = repeated_none [] h times
repeated_none (b ∷ bytes) h times = absurd (omega (arith, h))

pub filling_none : (piece : List ℕ) → length piece ≡ 0 → (times : ℕ) (before : List ℕ) (n : ℕ) → PutsPiece piece times true before n n before
filling_none piece h times before n =
    let nothing = repeated_none piece h times in
    let no_length : length (repeated times piece) ≡ 0 = rw nothing refl in
    record {
      puts = rw nothing (puts_none before n);
      whole_says = sym (le-leb (length (repeated times piece)) (length before - n) (omega (arith, no_length)));
      within = omega arith;
    }

module _ {piece before buffer : List ℕ} {times n left end : ℕ} (f : Filling piece times before n left buffer end) where
  one_more : 0 < left → repeated left piece ≡ piece ++ repeated (left - 1) piece
  unfolding repeated
  one_more h = let one : left ≡ suc (left - 1) = omega (arith, h) in ap (λ (k : ℕ). repeated k piece) one

  longer : 0 < left → length (repeated left piece) ≡ length piece + length (repeated (left - 1) piece)
  longer h = ap length (one_more h) ∙ length-append piece (repeated (left - 1) piece)

  -- there was room for one more
  pub filling_on : 0 < left → {next : List ℕ} {m : ℕ} → Puts piece buffer end m next → length piece ≤ m - end → Filling piece times before n (left - 1) next m
  filling_on h {next} {m} p room =
      record {
        rest = record { rest = λ r after t. f.rest.rest r after (rw (one_more h) (puts_then p t)); long = puts_long p ∙ f.rest.long };
        sum = omega (arith, f.sum, longer h, p.there);
        low = omega (arith, f.low, p.there);
        high = omega (arith, f.high, p.there, f.rest.long);
      }

  -- there was not: the buffer is full
  pub filling_cut : 0 < left → {next : List ℕ} {m : ℕ} → Puts piece buffer end m next → m - end < length piece → PutsPiece piece times false before n m next
  filling_cut h {next} {m} p none =
      record {
        puts = f.rest.rest m next (rw (one_more h) (puts_then p (puts_full (repeated (left - 1) piece) next m (omega (arith, p.there, puts_long p)))));
        whole_says = sym (lt-leb (length (repeated times piece)) (length before - n) (omega (arith, f.sum, f.low, f.high, longer h, p.there, f.rest.long)));
        within = omega (arith, f.high, p.there, puts_long p, f.rest.long);
      }

  pub filling_done : left ≤ 0 → PutsPiece piece times true before n end buffer
  unfolding repeated
  filling_done h =
      let none : left ≡ 0 = omega arith in
      let no_length : length (repeated left piece) ≡ 0 = rw none refl in
      record {
        puts = f.rest.rest end buffer (rw none (puts_none buffer end));
        whole_says = sym (le-leb (length (repeated times piece)) (length before - n) (omega (arith, f.sum, f.high, no_length)));
        within = omega (arith, f.high, f.rest.long);
      }

-- ---- pieces of a case file

pub record Making (s : List ℕ) (place : ℕ) (before : List ℕ) (n : ℕ) (buffer : List ℕ) (left next end : ℕ) (whole : Bool) : Type 0 where
  pub rest : Putting (all_pieces s place) before n (pieces_at left s next) buffer end
  pub there : place_behind left s next ≡ place_behind (taken s place).value s (taken s place).next
  pub low : n ≤ end
  pub high : end ≤ max n (length before)
  pub inside : next ≤ length s
  pub flag : pick whole (end + length (pieces_at left s next) ≡ n + length (all_pieces s place)) (length before - n < length (all_pieces s place))

pub making_start : {s : List ℕ} {place : ℕ} (before : List ℕ) (n : ℕ) {r : Found ℕ} → TakesNumber s place r → Making s place before n before r.value r.next n true
making_start before n {r} t =
    record {
      rest = rw t.says (putting_start _ _ _);
      there = rw t.says refl;
      low = omega arith;
      high = omega arith;
      inside = t.within;
      flag = rw t.says refl;
    }

flag_on : (whole fits : Bool) (n room total end long rest m : ℕ) → pick whole (end + (long + rest) ≡ n + total) (room - n < total) → fits ≡ leb long (room - end) → n ≤ end → m ≡ reached room end long
    → pick (whole && fits) (m + rest ≡ n + total) (room - n < total)
flag_on true true n room total end long rest m f e low p = omega (arith, f, leb-true long (room - end) (sym e), p)
flag_on true false n room total end long rest m f e low p = omega (arith, f, leb-false long (room - end) (sym e))
flag_on false fits n room total end long rest m f e low p = f

flag_done : (whole : Bool) (n room total end : ℕ) → pick whole (end + 0 ≡ n + total) (room - n < total) → end ≤ max n room → whole ≡ leb total (room - n)
flag_done true n room total end f h = sym (le-leb total (room - n) (omega (arith, f)))
flag_done false n room total end f h = sym (lt-leb total (room - n) f)

module _ {s before buffer : List ℕ} {place n left next end : ℕ} {whole : Bool} (m : Making s place before n buffer left next end whole) where
  pub making_on : 0 < left → {t : Found ℕ} → TakesNumber s next t → {p : Found (List ℕ)} → TakesBytes s t.next p → {fits : Bool} {r : ℕ} {after : List ℕ} → PutsPiece p.value t.value fits buffer end r after
      → Making s place before n after (left - 1) p.next r (whole && fits)
  unfolding pieces_at place_behind
  making_on h {t} number {p} string {fits} {r} {after} put =
      let one : left ≡ suc (left - 1) = omega (arith, h) in
      let this : repeated t.value p.value ≡ piece_at s next = rw (string.says, number.says) refl in
      let behind : p.next ≡ (string_at s next).to = rw (string.there, number.says) refl in
      let cut : pieces_at left s next ≡ repeated t.value p.value ++ pieces_at (left - 1) s p.next = rw (this, behind) (ap (λ (k : ℕ). pieces_at k s next) one) in
      record {
        rest = record { rest = λ k last q. m.rest.rest k last (rw cut (puts_then put.puts q)); long = puts_long put.puts ∙ m.rest.long };
        there = rw behind (sym (ap (λ (k : ℕ). place_behind k s next) one) ∙ m.there);
        low = omega (arith, m.low, put.puts.there);
        high = omega (arith, m.high, put.puts.there, m.rest.long);
        inside = string.within;
        flag =
            flag_on whole fits n (length before) (length (all_pieces s place)) end (length (repeated t.value p.value)) (length (pieces_at (left - 1) s p.next)) r
            (rw (cut, length-append) at m.flag) (rw m.rest.long at put.whole_says) m.low (rw m.rest.long at put.puts.there);
      }

  pub making_done : left ≤ 0 → PutsPieces s place next whole before n end buffer
  unfolding pieces_at place_behind
  making_done h =
      let none : left ≡ 0 = omega arith in
      record {
        puts = m.rest.rest end buffer (rw none (puts_none buffer end));
        whole_says = flag_done whole n (length before) (length (all_pieces s place)) end (rw none at m.flag) m.high;
        there = rw none at m.there;
        counts = omega (arith, m.high, m.rest.long);
        within = m.inside;
      }
