-- The invariant of the reader's loop: the arguments that are left, read from here on, give the whole answer.
use Prim.Native.Nat.{ℕ, zero, suc, ◌+◌, ◌≤◌, ◌<◌}
use mathlib.Core.Bool.{true, false}
use mathlib.Core.List.{List, [], ◌∷◌, ◌++◌, append-nil}
use mathlib.Core.Path.{◌≡◌, refl, sym, ap, ◌∙◌}
use native.Mathlib.Numerals.{add-one}
use native.Mathlib.Omega.{arith}
use lib.ListN.{length, take, drop, get_or, set, length-set, drop_of_length-le}
use lib.Seq.{drop-cons, append_snoc, take-suc-set, get_or-set_other}
use Rattle.table.specs.Refusals.{bad_event}
use Rattle.number.specs.Reading.{value, read_number}
use Rattle.number.specs.Reading as number
use Rattle.event.specs.Table.{event_of, ◌to◌, arguments_of, argument_count, argument_range, within}
use Rattle.event.specs.declared.Event.{Event}
use Rattle.trace.specs.Reading.{Got, got, fault, onwards, in_range, arguments, after_code}
use Rattle.trace.proofs.Known.{six_arguments}

-- ---- values of which the last ones are zero

-- up to the last one that is not zero, a list has all its values
pub kept : (n : ℕ) (vs : List ℕ) → ((k : ℕ) → n ≤ k → get_or vs k 0 ≡ 0) → (k : ℕ) → get_or (take n vs) k 0 ≡ get_or vs k 0
kept zero vs h k = sym (h k (omega arith))
kept (suc n) [] h k = refl
kept (suc n) (v ∷ vs) h zero = refl
kept (suc n) (v ∷ vs) h (suc k) = kept n vs (λ j g. h (suc j) (omega arith)) k

pub same_event : (code : ℕ) (vs ws : List ℕ) → ((k : ℕ) → get_or vs k 0 ≡ get_or ws k 0) → event_of code vs ≡ event_of code ws
same_event code vs ws h = λ i. record { code = code; first = h 0 i; second = h 1 i; third = h 2 i; fourth = h 3 i; fifth = h 4 i; sixth = h 5 i }

-- ---- reading: the arguments taken, and what the others say after them

abbrev onto : List ℕ → Got (List ℕ) → Got (List ℕ)
onto taken g = onwards g λ vs next. got (taken ++ vs) next

onto_one : (taken : List ℕ) (v : ℕ) (g : Got (List ℕ)) → onto taken (onwards g λ vs next. got (v ∷ vs) next) ≡ onto (taken ++ (v ∷ [])) g
onto_one taken v (got vs next) = ap (λ (l : List ℕ). got l next) (sym (append_snoc taken v vs))
onto_one taken v (fault n) = refl

pub record Taken (s : List ℕ) (code place : ℕ) (values : List ℕ) (next i : ℕ) : Type 0 where
  pub few : i ≤ argument_count code
  pub six : length values ≡ 6
  pub zeros : (k : ℕ) → i ≤ k → get_or values k 0 ≡ 0
  pub whole : arguments (arguments_of code) s place ≡ onto (take i values) (arguments (drop i (arguments_of code)) s next)

module _ {s : List ℕ} {code place : ℕ} {values : List ℕ} {next i : ℕ} (t : Taken s code place values next i) where
  -- ---- an argument is left
  module _ (h : i < argument_count code) where
    here : arguments (drop i (arguments_of code)) s next ≡ onwards (in_range (argument_range code i) s next) λ v after. onwards (arguments (drop (suc i) (arguments_of code)) s after) λ vs later. got (v ∷ vs) later
    unfolding arguments argument_range argument_count
    here = rw (drop-cons (arguments_of code) i (0 to 0) h)

    pub taken_fault : {n : ℕ} → read_number s next ≡ number.refused n → after_code code s place ≡ fault n
    taken_fault e = rw (t.whole, here, e) refl

    module _ {v after : ℕ} (e : read_number s next ≡ value v after) where
      pub taken_bad : within (argument_range code i) v ≡ false → after_code code s place ≡ fault bad_event
      taken_bad w = rw (t.whole, here, e, w) refl

      in_range_lem : within (argument_range code i) v ≡ true → arguments (drop i (arguments_of code)) s next ≡ onwards (arguments (drop (suc i) (arguments_of code)) s after) λ vs later. got (v ∷ vs) later
      in_range_lem w = rw (here, e, w) refl

      pub taken_on : within (argument_range code i) v ≡ true → Taken s code place (set values i v) after (i + 1)
      taken_on w =
          record {
            few = omega arith;
            six = length-set values i v ∙ t.six;
            zeros = λ k g. get_or-set_other values i k v 0 (λ q. omega arith) ∙ t.zeros k (omega arith);
            whole =
                rw (add-one, take-suc-set values i v (omega (arith, t.six, six_arguments code)))
                (t.whole ∙ ap (onto (take i values)) (in_range_lem w) ∙ onto_one (take i values) v (arguments (drop (suc i) (arguments_of code)) s after));
          }

  -- ---- none is left
  all : argument_count code ≤ i → arguments (arguments_of code) s place ≡ got (take i values) next
  unfolding arguments argument_count
  all h = t.whole ∙ rw (drop_of_length-le (arguments_of code) h) (ap (λ (l : List ℕ). got l next) (append-nil (take i values)))

  pub taken_done : argument_count code ≤ i → after_code code s place ≡ got (event_of code values) next
  taken_done h = rw (all h) (ap (λ (e : Event). got e next) (same_event code (take i values) values (kept i values t.zeros)))

-- ---- none is asked for

-- a code without arguments has the event of zeros, at the place itself
pub none_asked : {code : ℕ} (s : List ℕ) (place : ℕ) → argument_count code ≤ 0 → after_code code s place ≡ got (event_of code []) place
unfolding arguments argument_count
none_asked {code} s place h = rw (drop_of_length-le (arguments_of code) h) refl
