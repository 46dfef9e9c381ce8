-- The invariant of telling a buffer in few numbers: the pairs still to come, where so many bytes of their first run have passed, make the line with what is written.
use Prim.Native.Nat.{ℕ, ◌+◌, ◌≤◌, ◌<◌}
use mathlib.Core.Bool.{true, false}
use mathlib.Core.List.{List, [], ◌∷◌, ◌++◌, append-nil, append_assoc}
use mathlib.Core.Path.{◌≡◌, sym, ap, subst, ◌∙◌, refl}
use native.Mathlib.Numerals.{add-one}
use native.Mathlib.Omega.{arith}
use lib.ListN.{length, drop, get_or, drop_of_length-le}
use lib.Seq.{drop-cons}
use Rattle.output.specs.Decimal.{decimal}
use Rattle.output.specs.Writing.{further, more_of, more, numbers_text}
use Rattle.output.specs.Promises.{Puts, EndsLine}
use Rattle.output.proofs.Places.{Putting, putting_start, puts_none, puts_then, puts_long, puts_line}
use Rattle.casefile.specs.Pieces.{ends_run, pairs_after}
use Rattle.casefile.specs.Promises.{PutsRepeats}

more_append : (xs ys : List ℕ) → more (xs ++ ys) ≡ more xs ++ more ys
unfolding more_of
more_append [] ys = refl
more_append (x ∷ xs) ys = ap (λ (l : List ℕ). further x ++ l) (more_append xs ys) ∙ sym (append_assoc (further x) (more xs) (more ys))

pub record Repeating (bytes before : List ℕ) (n : ℕ) (out : List ℕ) (end count i : ℕ) : Type 0 where
  pub rest : Putting (more (pairs_after 0 bytes)) before n (more (pairs_after count (drop i bytes))) out end
  pub low : count ≤ i
  pub high : i ≤ length bytes

pub repeating_start : (bytes before : List ℕ) (n : ℕ) → Repeating bytes before n before n 0 0
repeating_start bytes before n = record { rest = putting_start _ _ _; low = omega arith; high = omega arith }

module _ {bytes before out : List ℕ} {n end count i : ℕ} (q : Repeating bytes before n out end count i) (h : i < length bytes) where
  -- the byte at hand and those behind it
  ahead : drop i bytes ≡ get_or bytes i 0 ∷ drop (i + 1) bytes
  ahead = drop-cons bytes i 0 h ∙ rw add-one refl

  -- the same byte follows
  pub repeating_on : false ≡ ends_run (get_or bytes i 0) (drop (i + 1) bytes) → Repeating bytes before n out end (count + 1) (i + 1)
  unfolding pairs_after
  repeating_on e =
      record {
        rest = rw (ahead, ← e) at q.rest;
        low = omega (arith, q.low);
        high = omega arith;
      }

  -- it does not, and the pair is written
  pub repeating_pair : true ≡ ends_run (get_or bytes i 0) (drop (i + 1) bytes) → {next : List ℕ} {m : ℕ} → Puts (more ((count + 1) ∷ get_or bytes i 0 ∷ [])) out end m next → Repeating bytes before n next m 0 (i + 1)
  unfolding pairs_after
  repeating_pair e {next} {m} p =
      let left : more (pairs_after count (drop i bytes)) ≡ more ((count + 1) ∷ get_or bytes i 0 ∷ []) ++ more (pairs_after 0 (drop (i + 1) bytes))
      = rw (ahead, ← e) (more_append ((count + 1) ∷ get_or bytes i 0 ∷ []) (pairs_after 0 (drop (i + 1) bytes))) in
      record {
        rest = record { rest = λ r after t. q.rest.rest r after (rw left (puts_then p t)); long = puts_long p ∙ q.rest.long };
        low = omega arith;
        high = omega arith;
      }

-- the kind before the pairs, and the end of the line behind them
pub repeating_done : (kind : ℕ) {bytes first before out after : List ℕ} {n m end count i r : ℕ} → Puts (numbers_text kind []) first n m before → Repeating bytes before m out end count i → length bytes ≤ i
    → EndsLine out end r after → PutsRepeats kind bytes first n r after
unfolding pairs_after more_of
repeating_done kind {bytes} {first} {before} {out} {n = n} {end = end} head q h p =
    let pairs : Puts (more (pairs_after 0 bytes)) before _ end out = q.rest.rest end out (rw (drop_of_length-le bytes h) (puts_none out end)) in
    puts_line (subst (λ (l : List ℕ). Puts (l ++ more (pairs_after 0 bytes)) first n end out) (append-nil (decimal kind)) (puts_then head pairs)) p
