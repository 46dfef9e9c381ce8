-- What is written is read back: it is groups of the value, which are read wherever they stand.
use Prim.Native.Nat.{ℕ, ◌+◌, ◌^◌, ◌≤◌, ◌<◌}
use mathlib.Core.Bool.{true}
use mathlib.Core.List.{List, ◌∷◌, ◌++◌}
use mathlib.Core.Path.{◌≡◌, ap, ◌∙◌}
use native.Mathlib.Omega.{arith}
use borrow.Author.Tests.{lt-ltb, leb-true}
use lib.ListN.{length, drop}
use lib.Seq.{sets}
use Rattle.table.proofs.Laws.{apart, by_test}
use Rattle.table.proofs.Stores.{stored_from}
use Rattle.number.specs.Reading.{value, most_later, read_number}
use Rattle.number.specs.Writing.{wrote, number_bytes, fits, write_number, buffer_after}
use Rattle.number.specs.Writing as writing
use Rattle.number.specs.Laws.{GroupsStand, ReadBack}
use Rattle.number.proofs.Padded.{Spelt, length_bytes, groups_read, spelt}

wrote_is : {m n : ℕ} → wrote m ≡ wrote n → m ≡ n
wrote_is e = cc

pub refused_not_wrote : {m n : ℕ} → writing.refused m ≡ wrote n → ⊥
refused_not_wrote e = apart cc

-- ---- the bytes of a value are groups that have it

module _ (v : ℕ) (h : v < 2 ^ 64) where
  abbrev written : Spelt most_later v
  written = spelt most_later v h

  pub as_many : length (number_bytes v) ≡ length (written.first ∷ written.others)
  unfolding number_bytes
  as_many = ap length written.bytes ∙ length_bytes written.first written.others

  -- one at least, and ten at most
  pub sized : (0 < length (number_bytes v)) × (length (number_bytes v) ≤ 10)
  sized = (omega (arith, as_many), omega (arith, as_many, written.few))

  -- so they are read to it wherever they stand
  pub read_wherever : (s : List ℕ) (place : ℕ) (rest : List ℕ) → drop place s ≡ number_bytes v ++ rest → read_number s place ≡ value v (place + length (number_bytes v))
  unfolding number_bytes
  read_wherever s place rest e =
      let stand : GroupsStand s place (written.first ∷ written.others) =
      record {
        some = omega arith;
        few = omega (arith, written.few);
        sevens = written.sevens;
        rest = rest;
        whole = e ∙ ap (λ (bytes : List ℕ). bytes ++ rest) written.bytes;
      } in
      rw as_many (rw (written.says, lt-ltb v (2 ^ 64) h) at (groups_read s place (written.first ∷ written.others) stand))

-- ---- in a buffer with room for them

with_room : (v : ℕ) (buffer : List ℕ) (place n : ℕ) → v < 2 ^ 64 → fits v buffer place ≡ true → write_number v buffer place ≡ wrote n
    → read_number (buffer_after v buffer place) place ≡ value v (place + n)
with_room v buffer place n h t e =
    rw (t, ← wrote_is (rw t at e))
    (read_wherever v h (sets buffer place (number_bytes v)) place (drop (place + length (number_bytes v)) buffer)
    (stored_from buffer (number_bytes v) place (leb-true (place + length (number_bytes v)) (length buffer) t)))

pub read_back : ReadBack
read_back v buffer place n h e =
    by_test (fits v buffer place)
    (λ t. with_room v buffer place n h t e)
    (λ f. absurd (refused_not_wrote (rw f at e)))
