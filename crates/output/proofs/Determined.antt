-- Each contract equates the result, and the bytes left, with a definition of what was given, so two that it allows coincide;
-- only after a write it leaves two results, and one of them says that the write failed.
use Prim.Native.Nat.{ℕ}
use mathlib.Core.List.{List, [], ◌∷◌}
use mathlib.Core.Logic.{◌⊎◌, inl, inr}
use mathlib.Core.Path.{◌≡◌, sym, ◌∙◌}
use native.Mathlib.Omega.{arith}
use lib.ListN.{length}
use Rattle.table.specs.Results.{DeterminesLent}
use Rattle.table.proofs.Laws.{by_test}
use Rattle.table.proofs.Results.{by_equation, by_result_lent}
use Rattle.output.specs.Writing.{newline, more_of, numbers_text, line, reached, gathered, lost, stays_gathered}
use Rattle.output.specs.Promises.{Puts, WritesOut, PutsLine}
use Rattle.output.specs.Laws.{SameUnlessLost, DeterminesUnlessLost, Determined}

pub after_writes : {r q : ℕ} → (r ≡ 0) ⊎ (r ≡ lost) → (q ≡ 0) ⊎ (q ≡ lost) → SameUnlessLost r q
after_writes (inl e) (inl h) = inl (e ∙ sym h)
after_writes (inl e) (inr h) = inr (inr h)
after_writes (inr e) h = inr (inl e)

out : (n least r q : ℕ) → WritesOut n least r → WritesOut n least q → SameUnlessLost r q
out n least r q a b =
    by_test (stays_gathered n least) (λ t. inl ((rw t at a) ∙ sym (rw t at b))) (λ f. after_writes (rw f at a) (rw f at b))

-- whatever the bytes are that are put, and that end a line
puts : (bytes before : List ℕ) (n : ℕ) → DeterminesLent (Puts bytes before n)
puts bytes before n = by_result_lent (λ r q e. e) (λ r after a. record { says = a.there; leaves = a.stored })

ends_line : (bytes before : List ℕ) (n : ℕ) → DeterminesUnlessLost (PutsLine bytes before n)
ends_line bytes before n r q after later a b =
    (out (reached (length before) n (length bytes)) gathered r q a.there b.there, a.stored ∙ sym b.stored)

pub determined : Determined
determined =
    record {
      new = λ buffer r q a b. (a.same_bytes ∙ sym b.same_bytes, a.start ∙ sym b.start);
      number = λ value v. by_equation _;
      bytes = λ buffer n. by_equation _;
      put_all = λ bytes before n. by_result_lent (λ r q e. e) (λ r after a. record { says = a.puts.there; leaves = a.puts.stored });
      put_more = λ value numbers. puts (more_of value numbers);
      put_numbers = λ first others. puts (numbers_text first others);
      write_gathered = out;
      write_out = out;
      is_lost = λ n. by_equation _;
      end_line = ends_line (newline ∷ []);
      put_line = λ first others. ends_line (line first others);
      fail = by_equation _;
      read_full = λ r q a b. omega arith;
    }
