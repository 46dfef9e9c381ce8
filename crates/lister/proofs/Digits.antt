-- The digits of a text, one after the other: what is meant by those from a place on, behind those before it, is what is meant by all.
use Prim.Native.Nat.{ℕ, suc, ◌+◌, ◌-◌, ◌*◌, ◌≤◌, ◌<◌}
use mathlib.Core.Bool.{true, false}
use mathlib.Core.List.{List, ◌∷◌}
use mathlib.Core.Path.{◌≡◌, sym, ap, ◌∙◌}
use native.Mathlib.Numerals.{add-one}
use borrow.Author.Tests.{le-leb, lt-leb}
use lib.ListN.{length, get_or, drop, drop_of_length-le}
use lib.Seq.{drop-cons}
use Rattle.std.specs.Prelude.{Option, Some, None}
use Rattle.table.specs.Choice.{pick}
use Rattle.table.proofs.Laws.{apart, by_test}
use Rattle.lister.specs.Says.{first_digit, is_digit, with_digit, meant_behind, meant_by, some_phys}

-- what is told of a byte by the digit that it is, or is not
abbrev pub Told : ℕ → Option ℕ → Type 0
Told d r = r ≡ pick (is_digit d) (Some (d - first_digit)) None

is_none : (d : ℕ) (r : Option ℕ) → Told d r → r ≡ None → is_digit d ≡ false
is_none d r told none =
    by_test (is_digit d) (λ t. let w : Some (d - first_digit) ≡ None = rw (told, t) at none in apart cc) (λ f. f)

is_some : (d v : ℕ) (r : Option ℕ) → Told d r → r ≡ Some v → (is_digit d ≡ true) × (v ≡ d - first_digit)
is_some d v r told some =
    by_test (is_digit d)
    (λ t. let w : Some (d - first_digit) ≡ Some v = rw (told, t) at some in (t, cc))
    (λ f. let w : ◌≡◌ {A = Option ℕ} None (Some v) = rw (told, f) at some in apart cc)

pub record Stage (limit : ℕ) (text : List ℕ) (n i : ℕ) : Type 0 where
  pub rest : meant_by limit text ≡ meant_behind limit n (drop i text)
  pub few : n ≤ limit

module _ {limit : ℕ} {text : List ℕ} {n i : ℕ} (s : Stage limit text n i) where
  abbrev digit : ℕ
  digit = get_or text i 0

  next : i < length text → meant_by limit text ≡ meant_behind limit n (digit ∷ drop (suc i) text)
  next h = s.rest ∙ ap (meant_behind limit n) (drop-cons text i 0 h)

  pub no_digit : {r : Option ℕ} → i < length text → Told digit r → r ≡ None → None ≡ some_phys (meant_by limit text)
  unfolding meant_behind
  no_digit {r} h told none = sym (ap some_phys (rw (is_none digit r told none) at (next h)))

  pub too_many : {r : Option ℕ} {v : ℕ} → i < length text → Told digit r → r ≡ Some v → limit < n * 10 + v
      → None ≡ some_phys (meant_by limit text)
  unfolding meant_behind
  too_many {r} {v} h told some l =
      let is = is_some digit v r told some in
      sym (ap some_phys (rw (is.0, lt-leb (with_digit n digit) limit (rw is.1 at l)) at (next h)))

  pub stage_on : {r : Option ℕ} {v : ℕ} → i < length text → Told digit r → r ≡ Some v → n * 10 + v ≤ limit
      → Stage limit text (n * 10 + v) (i + 1)
  unfolding meant_behind
  stage_on {r} {v} h told some l =
      let is = is_some digit v r told some in
      let few : with_digit n digit ≤ limit = rw is.1 at l in
      rw is.1 (record { rest = rw add-one (rw (is.0, le-leb (with_digit n digit) limit few) at (next h)); few = few })

  pub all_meant : length text ≤ i → n ≡ meant_by limit text
  unfolding meant_behind
  all_meant h = sym (rw (drop_of_length-le text h) at s.rest)
