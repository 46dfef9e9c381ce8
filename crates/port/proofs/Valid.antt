-- What a valid port has, rule by rule; and how a change of one record changes which phys are free.
use Prim.Native.Nat.{ℕ, zero, suc, ◌+◌, ◌<◌, ◌≤◌}
use mathlib.Core.Bool.{Bool, true, false, ◌||◌}
use mathlib.Core.List.{List, [], ◌∷◌}
use mathlib.Core.Path.{◌≡◌, refl, sym, ap, subst, ◌∙◌}
use native.Mathlib.Nat.{not-suc-le-zero}
use native.Mathlib.Omega.{arith}
use borrow.Author.Tests.{leb-true, le-leb, eqb-true, ne_eqb}
use lib.Dec.{eqb, leb}
use lib.ListN.{length, set, get_or, length-map}
use Rattle.std.proofs.lemmas.List.{get_or-map, map-set}
use Rattle.table.specs.Flags.{flag_of}
use Rattle.table.proofs.Laws.{parts, all_hold}
use Rattle.event.specs.Table.{open_known}
use Rattle.event.specs.declared.Open.{Open}
use Rattle.bay.specs.State as bay
use Rattle.bay.specs.State.{fresh_bay}
use Rattle.bay.specs.declared.Bay.{Bay}
use Rattle.queue.specs.Lent.{most_waiting}
use Rattle.queue.specs.Laws.{AllKnown}
use Rattle.port.specs.Flags.{how_many, lowest}
use Rattle.port.specs.State.{Port, is_free, free_of, free_phys, all_pass, valid_count, valid_queue, none_beside, valid_of}
use Rattle.port.specs.Step.{bay_at, lowest_free}
use Rattle.port.proofs.Flags.{many_set, none_set, lowest_only, lowest_is_least}

-- ---- a valid port

-- one of a list all of which pass
pub passes : {A : Type 0} (test : A → Bool) (l : List A) (i : ℕ) (d : A) → all_pass test l ≡ true → i < length l → test (get_or l i d) ≡ true
passes test [] i d h l = absurd (not-suc-le-zero l)
passes test (a ∷ rest) zero d h l = (parts (test a) (all_pass test rest) h).0
passes test (a ∷ rest) (suc i) d h l = passes test rest i d (parts (test a) (all_pass test rest) h).1 (omega arith)

-- a list all of which pass, one of them replaced by another that does
pub passes_set : {A : Type 0} (test : A → Bool) (l : List A) (i : ℕ) (a : A) → all_pass test l ≡ true → test a ≡ true → all_pass test (set l i a) ≡ true
passes_set test [] i a h t = refl
passes_set test (x ∷ rest) zero a h t = rw (t, (parts (test x) (all_pass test rest) h).1)
passes_set test (x ∷ rest) (suc i) a h t = let q = parts (test x) (all_pass test rest) h in rw (q.0, passes_set test rest i a q.1 t)

-- Opens that all pass are known
pub known_all : (os : List Open) → all_pass open_known os ≡ true → AllKnown os
known_all [] h = tt
known_all (o ∷ os) h = let q = parts (open_known o) (all_pass open_known os) h in (q.0, known_all os q.1)

-- the rules of a valid port, each by itself
pub record Sound (limit : ℕ) (p : Port) : Type 0 where
  pub some : 1 ≤ length p.bays
  pub few : length p.bays ≤ limit
  pub bays : all_pass bay.valid_of p.bays ≡ true
  pub short : length p.queue ≤ most_waiting
  pub known : all_pass open_known p.queue ≡ true
  pub beside : none_beside p ≡ true

pub sound : (limit : ℕ) (p : Port) → valid_of limit p ≡ true → Sound limit p
unfolding valid_of
sound limit p v =
    let q = all_hold (valid_count limit p.bays) (all_pass bay.valid_of p.bays ∷ valid_queue p.queue ∷ none_beside p ∷ []) v in
    let c = parts (leb 1 (length p.bays)) (leb (length p.bays) limit) (q 0) in
    let w = parts (leb (length p.queue) most_waiting) (all_pass open_known p.queue) (q 2) in
    record {
      some = leb-true 1 (length p.bays) c.0;
      few = leb-true (length p.bays) limit c.1;
      bays = q 1;
      short = leb-true (length p.queue) most_waiting w.0;
      known = w.1;
      beside = q 3;
    }

pub sound_valid : (limit : ℕ) (p : Port) → Sound limit p → valid_of limit p ≡ true
unfolding valid_of
sound_valid limit p s = rw (le-leb 1 (length p.bays) s.some, le-leb (length p.bays) limit s.few, s.bays, le-leb (length p.queue) most_waiting s.short, s.known, s.beside)

module _ (limit : ℕ) (p : Port) (v : valid_of limit p ≡ true) where
  -- where an Open waits, no phy is free
  pub none_free : 0 < length p.queue → free_phys p.bays ≡ 0
  none_free h = eqb-true (free_phys p.bays) 0 (subst (λ (b : Bool). b || eqb (free_phys p.bays) 0 ≡ true) (ne_eqb (length p.queue) 0 (λ z. omega arith)) (sound limit p v).beside)

  -- where a phy is free, no Open waits
  pub none_waits : 0 < free_phys p.bays → p.queue ≡ []
  none_waits h = empty p.queue (λ n. omega (arith, none_free n))
    where
      empty : (q : List Open) → (0 < length q → ⊥) → q ≡ []
      empty [] f = refl
      empty (o ∷ os) f = absurd (f (omega arith))

  pub bay_valid : (i : ℕ) → i < length p.bays → bay.valid_of (bay_at p.bays i) ≡ true
  bay_valid i l = passes bay.valid_of p.bays i fresh_bay (sound limit p v).bays l

-- ---- which phys are free

module _ (bays : List Bay) (i : ℕ) (l : i < length bays) where
  flag_at : get_or (free_of bays) i false ≡ is_free (bay_at bays i)
  flag_at = get_or-map is_free bays i fresh_bay false l

  -- how many are free, once one record is changed
  pub free_set : (b : Bay) → free_phys (set bays i b) + flag_of (is_free (bay_at bays i)) ≡ free_phys bays + flag_of (is_free b)
  free_set b =
      ap (λ (bs : List Bool). how_many bs + flag_of (is_free (bay_at bays i))) (map-set is_free bays i b)
      ∙ ap (λ (f : Bool). how_many (set (free_of bays) i (is_free b)) + flag_of f) (sym flag_at)
      ∙ many_set (free_of bays) i (is_free b) (subst (λ (n : ℕ). i < n) (sym (length-map bays is_free)) l)

  -- where none was free, this one alone may be
  module _ (none : free_phys bays ≡ 0) where
    was_not : is_free (bay_at bays i) ≡ false
    was_not = sym flag_at ∙ none_set (free_of bays) i none

    pub then_free : (b : Bay) → free_phys (set bays i b) ≡ flag_of (is_free b)
    then_free b = omega (arith, subst (λ (f : Bool). free_phys (set bays i b) + flag_of f ≡ free_phys bays + flag_of (is_free b)) was_not (free_set b), none)

    pub then_lowest : (b : Bay) → is_free b ≡ true → lowest_free (set bays i b) ≡ i
    then_lowest b t =
        ap lowest (map-set is_free bays i b ∙ ap (set (free_of bays) i) t)
        ∙ lowest_only (free_of bays) i (subst (λ (n : ℕ). i < n) (sym (length-map bays is_free)) l) none

-- where one is free, the lowest is a phy of the port, and free
pub lowest_free_lem : (bays : List Bay) → 0 < free_phys bays → (lowest_free bays < length bays) × (is_free (bay_at bays (lowest_free bays)) ≡ true)
lowest_free_lem bays h =
    let r = lowest_is_least (free_of bays) h in
    let l : lowest_free bays < length bays = subst (λ (n : ℕ). lowest_free bays < n) (length-map bays is_free) r.there in
    (l, sym (flag_at bays (lowest_free bays) l) ∙ r.set)
