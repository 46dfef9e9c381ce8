-- The invariant of taking many numbers: those stored and those still to be taken from here are all of them.
use Prim.Native.Nat.{ℕ, zero, suc, ◌+◌, ◌-◌, ◌≤◌, ◌<◌, max}
use mathlib.Core.List.{List, ◌++◌, append-nil}
use mathlib.Core.Path.{◌≡◌, refl, sym, ap, subst, ◌∙◌}
use native.Mathlib.Numerals.{add-one}
use native.Mathlib.Omega.{arith}
use lib.ListN.{length, take, set, length-set}
use lib.Seq.{take_all, take-suc-set, append_snoc}
use Rattle.number.specs.Reading.{Told, value, refused, tells, read_number}
use Rattle.std.specs.Prelude.{Result, Ok, Err}
use Rattle.std.specs.Result.{result_unwrap_or}
use Rattle.table.specs.declared.Refusal.{Refusal}
use Rattle.number.proofs.Refusals.{read_moves_on}
use Rattle.casefile.specs.Reading.{taken_of, taken, numbers_at, place_after}
use Rattle.casefile.specs.Promises.{Reads, TakesNumber, TakesNumbers, TakesArray}
use Rattle.casefile.specs.declared.input.Input.{Input}
use Rattle.number.specs.declared.Found.{Found}
use Rattle.std.proofs.Common.{Bor}

-- what is taken where the reader gave this
pub takes : (s : List ℕ) (place : ℕ) (r : Result (Found ℕ) Refusal) → tells r ≡ read_number s place
    → TakesNumber s place (result_unwrap_or r (record { value = 0; next = length s }))
unfolding taken
takes s place (Ok found) e = record { says = ap (taken_of (length s)) e; within = (read_moves_on s place found.value found.next (sym e)).within }
takes s place (Err refusal) e = record { says = ap (taken_of (length s)) e; within = omega arith }

-- a number ends in the file, and so do numbers
pub number_within : (s : List ℕ) (place : ℕ) (told : Told) → told ≡ read_number s place → (taken_of (length s) told).next ≤ length s
number_within s place (value v next) e = (read_moves_on s place v next (sym e)).within
number_within s place (refused n) e = omega arith

pub numbers_within : (s : List ℕ) (count place : ℕ) → 0 < count → place_after count s place ≤ length s
unfolding place_after taken
numbers_within s zero place h = omega (arith, h)
numbers_within s (suc zero) place h = number_within s place (read_number s place) refl
numbers_within s (suc (suc count)) place h = numbers_within s (suc count) (taken s place).next (omega arith)

-- what is taken for each place of an array that has so many
pub array_of :
    {before s numbers : List ℕ} {place next : ℕ} (count : ℕ) → length before ≡ count → TakesNumbers before s place (record { value = numbers; next = next })
    → TakesArray count s place (record { value = numbers; next = next })
array_of {s = s} {place = place} count e n =
    record {
      there = rw e at n.there;
      numbers = rw e at n.numbers;
      within = λ h. rw (n.there, e) (numbers_within s count place h);
    }

-- what is read of an input whose file is another's
pub reads_at : {T : Type 0} {Contract : List ℕ → ℕ → Found T → Type 0} {old new : Input} {r : T} {file : Bor (List ℕ)} → old.s ≡ file → Reads Contract old new r
    → Contract file.now old.place (record { value = r; next = new.place })
reads_at {Contract = Contract} {old} {new} {r} e p = subst (λ (s : Bor (List ℕ)). Contract s.now old.place (record { value = r; next = new.place })) e p.found

pub record Taking (s : List ℕ) (place : ℕ) (before numbers : List ℕ) (next i : ℕ) : Type 0 where
  pub left : ℕ
  pub here : i + left ≡ length before
  pub long : length numbers ≡ length before
  pub there : place_after left s next ≡ place_after (length before) s place
  pub within : next ≤ max place (length s)
  pub found : take i numbers ++ numbers_at left s next ≡ numbers_at (length before) s place

pub taking_start : (s : List ℕ) (place : ℕ) (before : List ℕ) → Taking s place before before place 0
taking_start s place before = record { left = length before; here = omega arith; long = refl; there = refl; within = omega arith; found = refl }

module _ {s : List ℕ} {place : ℕ} {before numbers : List ℕ} {next i : ℕ} (t : Taking s place before numbers next i) where
  pub taking_on : i < length numbers → {r : Found ℕ} → TakesNumber s next r → Taking s place before (set numbers i r.value) r.next (i + 1)
  unfolding numbers_at place_after
  taking_on h {r} n =
      let l : ℕ = t.left - 1 in
      let one : t.left ≡ suc l = omega (arith, t.here, t.long) in
      record {
        left = l;
        here = omega (arith, t.here);
        long = length-set numbers i r.value ∙ t.long;
        there = rw n.says (rw one at t.there);
        within = omega (arith, n.within);
        found =
            rw (add-one, take-suc-set numbers i r.value h)
            (append_snoc (take i numbers) r.value (numbers_at l s r.next) ∙ rw n.says (rw one at t.found));
      }

  pub taking_done : length numbers ≤ i → TakesNumbers before s place (record { value = numbers; next = next })
  unfolding numbers_at place_after
  taking_done h =
      let none : t.left ≡ 0 = omega (arith, t.here, t.long) in
      record {
        there = rw none at t.there;
        within = t.within;
        numbers = sym (append-nil numbers) ∙ rw (take_all i numbers h, none) at t.found;
      }
