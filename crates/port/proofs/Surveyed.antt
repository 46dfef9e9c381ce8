-- What a survey gathers of a row: as many as there are, the mask of the free ones, and whether all are valid; past the most of them, that the row is not valid. So a survey and a queue are sound exactly where the port is valid.
use Prim.Native.Nat.{ℕ, suc, ◌+◌, ◌*◌, ◌^◌, ◌≤◌, ◌<◌}
use mathlib.Core.Bool.{Bool, true, false, ◌&&◌, and-true, and_assoc}
use mathlib.Core.List.{List, [], ◌∷◌}
use mathlib.Core.Path.{◌≡◌, refl, sym, ap, subst, ◌∙◌}
use native.Mathlib.Nat.{add-mul, mul_assoc, mul_comm, add_assoc, pow-suc, one-mul, zero-mul, zero-add, add-zero}
use native.Mathlib.Numerals.{add-one}
use native.Mathlib.Omega.{arith}
use borrow.Author.Tests.{lt-ltb, le-ltb, le-leb, lt-leb}
use lib.Bits.{bit_or, or_shifted_r}
use lib.Dec.{leb}
use lib.ListN.{length}
use lib.Pow.{pow_pos}
use Rattle.table.specs.Flags.{flag_of}
use Rattle.table.proofs.Laws.{by_order}
use Rattle.event.specs.Table.{open_known}
use Rattle.event.specs.declared.Open.{Open}
use Rattle.bay.specs.State as bay
use Rattle.bay.specs.declared.Bay.{Bay}
use Rattle.queue.specs.Lent.{most_waiting, queue_in, good_lent}
use Rattle.queue.specs.Laws.{AllKnown}
use Rattle.queue.proofs.Held.{held_known}
use Rattle.port.specs.Names.{most_phys}
use Rattle.port.specs.Flags.{mask_of}
use Rattle.port.specs.State.{Port, is_free, free_of, all_pass, valid_queue, none_beside, valid_of}
use Rattle.port.specs.Lent.{port_in}
use Rattle.port.specs.Stages.{begun, noted_of, scanned, sound_scan, standing_in}
use Rattle.port.specs.declared.Scan.{Scan}
use Rattle.port.specs.Laws.{SoundExactly, StandsSo}
use Rattle.port.proofs.Mask.{ones_are_many}
use Rattle.port.proofs.Valid.{sound}

-- ---- the records one by one

shift : (m d n f : ℕ) → m * 2 ^ suc n + (d * 2 ^ n + f) ≡ (m * 2 + d) * 2 ^ n + f
shift m d n f =
    sym (add_assoc (m * 2 ^ suc n) (d * 2 ^ n) f)
    ∙ ap (λ (x : ℕ). x + d * 2 ^ n + f) (ap (λ (x : ℕ). m * x) (pow-suc 2 n ∙ mul_comm (2 ^ n) 2) ∙ sym (mul_assoc m 2 (2 ^ n)))
    ∙ ap (λ (x : ℕ). x + f) (sym (add-mul (m * 2) d (2 ^ n)))

-- a survey with one record more, in sums
abbrev next : Scan → Bay → Scan
next s b = record { count = s.count + 1; free = flag_of (is_free b) * 2 ^ s.count + s.free; valid = s.valid && bay.valid_of b }

one_more : (s : Scan) (b : Bay) → s.count < most_phys → s.free < 2 ^ s.count → (f : Bool) → is_free b ≡ f → noted_of s b ≡ next s b
unfolding noted_of
one_more s b l h true e = simp (lt-ltb s.count most_phys l, e, one-mul) (ap (λ (f : ℕ). record { count = s.count + 1; free = f; valid = s.valid && bay.valid_of b }) (subst (λ (x : ℕ). bit_or s.free x ≡ x + s.free) (one-mul (2 ^ s.count)) (or_shifted_r 1 s.count s.free h)))
one_more s b l h false e = simp (lt-ltb s.count most_phys l, e, zero-mul, zero-add)

below : (s : Scan) (f : Bool) → s.free < 2 ^ s.count → flag_of f * 2 ^ s.count + s.free < 2 ^ (s.count + 1)
below s true h = rw add-one (omega (arith, pow-suc 2 s.count))
below s false h = rw add-one (omega (arith, pow-suc 2 s.count))

-- a row that fits
gathered : (bs : List Bay) (s : Scan) → s.count + length bs ≤ most_phys → s.free < 2 ^ s.count
    → scanned s bs ≡ record { count = s.count + length bs; free = mask_of (free_of bs) * 2 ^ s.count + s.free; valid = s.valid && all_pass bay.valid_of bs }
unfolding scanned mask_of
gathered [] s l h = λ i. record { count = sym (add-zero s.count) i; free = sym (ap (λ (x : ℕ). x + s.free) (zero-mul (2 ^ s.count)) ∙ zero-add s.free) i; valid = sym (and-true s.valid) i }
gathered (b ∷ bs) s l h =
    ap (λ (t : Scan). scanned t bs) (one_more s b (omega arith) h (is_free b) refl)
    ∙ gathered bs (next s b) (omega arith) (below s (is_free b) h)
    ∙ λ i. record {
      count = more i;
      free = (ap (λ (k : ℕ). mask_of (free_of bs) * 2 ^ k + (flag_of (is_free b) * 2 ^ s.count + s.free)) (add-one s.count) ∙ shift (mask_of (free_of bs)) (flag_of (is_free b)) s.count s.free) i;
      valid = and_assoc s.valid (bay.valid_of b) (all_pass bay.valid_of bs) i;
    }
  where
    more : s.count + 1 + length bs ≡ s.count + suc (length bs)
    more = omega arith

-- one that does not
stays_bad : (bs : List Bay) (s : Scan) → s.valid ≡ false → (scanned s bs).valid ≡ false
unfolding scanned noted_of
stays_bad [] s f = f
stays_bad (b ∷ bs) s f = stays_bad bs (noted_of s b) (by_order s.count most_phys (λ l. rw (lt-ltb s.count most_phys l, f)) (λ l. rw (le-ltb s.count most_phys l)))

too_many : (bs : List Bay) (s : Scan) → s.count ≤ most_phys → most_phys < s.count + length bs → (scanned s bs).valid ≡ false
unfolding scanned noted_of
too_many [] s l h = absurd (omega arith)
too_many (b ∷ bs) s l h =
    by_order s.count most_phys
    (λ m. too_many bs (noted_of s b) (rw (lt-ltb s.count most_phys m) (omega arith)) (rw (lt-ltb s.count most_phys m) (omega arith)))
    (λ m. stays_bad bs (noted_of s b) (rw (le-ltb s.count most_phys m)))

-- ---- the whole row

pub surveyed : (bays : List Bay) → length bays ≤ most_phys → scanned begun bays ≡ record { count = length bays; free = mask_of (free_of bays); valid = all_pass bay.valid_of bays }
surveyed bays l =
    gathered bays begun (omega arith) (pow_pos 0)
    ∙ λ i. record { count = zero-add (length bays) i; free = whole i; valid = all_pass bay.valid_of bays }
  where
    whole : mask_of (free_of bays) * 2 ^ 0 + 0 ≡ mask_of (free_of bays)
    whole = omega arith

-- ---- sound exactly where valid

pub opens_pass : (os : List Open) → AllKnown os → all_pass open_known os ≡ true
opens_pass [] k = refl
opens_pass (o ∷ os) k = rw (k.0, opens_pass os k.1)

module _ (bays : List Bay) (ns : List ℕ) where
  abbrev s : Scan
  s = scanned begun bays

  abbrev p : Port
  p = port_in bays ns

  sound_is : sound_scan s ns ≡ good_lent ns && valid_of most_phys p
  unfolding valid_of
  sound_is =
      let q = held_known ns in
      by_order most_phys (length bays)
      (λ l. rw (too_many bays begun (omega arith) (omega arith), lt-leb (length bays) most_phys l) (none (good_lent ns) (leb 1 (length bays)) (all_pass bay.valid_of bays) (valid_queue (queue_in ns)) (none_beside p)))
      (λ l. rw (surveyed bays l, ones_are_many (free_of bays), le-leb (length bays) most_phys l, opens_pass (queue_in ns) q.known, le-leb (length (queue_in ns)) most_waiting q.few) (all (good_lent ns) (leb 1 (length bays)) (all_pass bay.valid_of bays) (none_beside p)))
    where
      none : (good some valid queued alone : Bool) → false ≡ good && (some && false && valid && queued && alone)
      none true true valid queued alone = refl
      none true false valid queued alone = refl
      none false some valid queued alone = refl

      all : (good some valid alone : Bool) → valid && some && good && alone ≡ good && (some && true && valid && (true && true) && alone)
      all true true true alone = refl
      all true true false alone = refl
      all true false true alone = refl
      all true false false alone = refl
      all false true true alone = refl
      all false true false alone = refl
      all false false true alone = refl
      all false false false alone = refl

pub sound_exactly : SoundExactly
sound_exactly row numbers = sound_is row numbers

pub stands_so : StandsSo
stands_so row numbers v = ap (λ (t : Scan). standing_in t numbers) (surveyed row (sound most_phys (port_in row numbers) v).few)
