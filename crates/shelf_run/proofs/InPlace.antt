-- A run in place is the definition's: a row that fits is the front of its table, and comes back from there; refused, it is put back as it was.
use Prim.Native.Nat.{ℕ, suc, ◌≤◌}
use mathlib.Core.Bool.{Bool, true, false}
use mathlib.Core.List.{List, [], ◌∷◌, map, ◌++◌, map-append, append-nil}
use mathlib.Core.Path.{◌≡◌, refl, sym, ap, ◌∙◌}
use native.Mathlib.Omega.{arith}
use borrow.Author.Tests.{lt-ltb, le-ltb}
use lib.Dec.{leb}
use lib.ListN.{length, take, drop, length-append, length-map, length-drop, drop_of_length-le, take-append-drop}
use lib.Seq.{sets, length-take-le, take_all, take_at, take-length, drop-length}
use Rattle.table.proofs.Laws.{by_test, by_order, parts}
use Rattle.event.specs.declared.ShelfEvent.{ShelfEvent}
use Rattle.bay.specs.State as bay
use Rattle.bay.specs.declared.Bay.{Bay}
use Rattle.bay.proofs.Steps.{phy_valid}
use Rattle.queue.specs.Lent.{lent_as, good_lent}
use Rattle.queue.proofs.Lending.{good_is_lent}
use Rattle.run.proofs.Loop.{as_valid}
use Rattle.port.specs.Names.{most_phys}
use Rattle.port.specs.Flags.{mask_of}
use Rattle.port.specs.State.{Port, is_free, free_of, all_pass, valid_of}
use Rattle.port.specs.Log.{step_on, after}
use Rattle.port.specs.Lent.{port_in}
use Rattle.port.specs.Stages.{begun, scanned, standing, standing_in, standing_of}
use Rattle.port.specs.declared.Scan.{Scan}
use Rattle.port.proofs.Valid.{sound, sound_valid}
use Rattle.port.proofs.Surveyed.{sound_exactly, stands_so}
use Rattle.port_laws.proofs.EachPhy.{after_count}
use Rattle.shelf_run.specs.Rows.{fitting, loaded, stored}
use Rattle.shelf_run.specs.Running.{taking, bytes_of, unset, started, sound_lent, taken, ran}
use Rattle.shelf_run.specs.Stages.{empty, all_unset, Went, going, gone_of, queue_after_run, buffer_after_run}
use Rattle.shelf_run.specs.Promises.{Runs}
use Rattle.shelf_run.specs.declared.Gone.{Gone}
use Rattle.shelf_run.proofs.Fronts.{fits}
use Rattle.shelf_run.proofs.Defined.{goes}

-- ---- rows and tables

-- a front put back into what it came from
pub put_back : (row bays : List Bay) → stored row (loaded row bays) ≡ row
unfolding stored loaded
put_back row bays =
    let n : ℕ = fitting (length row) in
    let l : length (take n row) ≡ n = length-take-le n row (fits (length row)).0 in
    ap (λ (x : List Bay). x ++ drop n row) (take_at (take n row) (drop n bays) n l) ∙ take-append-drop n row

module _ (row : List Bay) (few : length row ≤ most_phys) where
  all_fit : fitting (length row) ≡ length row
  unfolding fitting
  all_fit = by_order (length row) most_phys (λ l. rw (lt-ltb (length row) most_phys l)) (λ l. rw (le-ltb (length row) most_phys l) (omega arith))

  abbrev others : List Bay
  others = drop (length row) empty.bays

  is_loaded : loaded row empty.bays ≡ row ++ others
  unfolding loaded
  is_loaded = rw all_fit (ap (λ (x : List Bay). x ++ others) (take-length row))

  -- every base unset, that of the row and of what stands behind it
  is_unset : all_unset (loaded row empty.bays) ≡ map unset row ++ map unset others
  is_unset =
      let all : List Bay = row ++ others in
      let l : length all ≤ most_phys = omega (arith, length-append row others, length-drop (length row) empty.bays) in
      ap all_unset is_loaded
      ∙ ap (λ (x : List Bay). x ++ drop most_phys all) (take_all most_phys (map unset all) (omega (arith, length-map all unset, l)))
      ∙ ap (λ (x : List Bay). map unset all ++ x) (drop_of_length-le all l) ∙ append-nil (map unset all) ∙ map-append unset row others

  -- a row of the same length comes back from the front of its table
  comes_back : (bays rest : List Bay) → length bays ≡ length row → stored row (bays ++ rest) ≡ bays
  unfolding stored
  comes_back bays rest l =
      rw all_fit ((λ i. take_at bays rest (length row) l i ++ drop-length row i) ∙ append-nil bays)

-- ---- a port with its bases unset

free_still : (bays : List Bay) → free_of (map unset bays) ≡ free_of bays
unfolding is_free
free_still [] = refl
free_still (b ∷ bays) = ap (λ (x : List Bool). is_free b ∷ x) (free_still bays)

valid_still : (bays : List Bay) → all_pass bay.valid_of bays ≡ true → all_pass bay.valid_of (map unset bays) ≡ true
valid_still [] h = refl
valid_still (b ∷ bays) h =
    let q = parts (bay.valid_of b) (all_pass bay.valid_of bays) h in
    rw (as_valid b.phy refl (phy_valid b q.0), valid_still bays q.1)

pub started_valid : (p : Port) → valid_of most_phys p ≡ true → valid_of most_phys (started p) ≡ true
started_valid p v =
    let s = sound most_phys p v in
    sound_valid most_phys (started p)
    (record {
      some = omega (arith, s.some, length-map p.bays unset);
      few = omega (arith, s.few, length-map p.bays unset);
      bays = valid_still p.bays s.bays;
      short = s.short;
      known = s.known;
      beside = rw (free_still p.bays) s.beside;
    })

stands_still : (p : Port) → standing_of p ≡ standing_of (started p)
stands_still p = λ i. standing (sym (length-map p.bays unset) i) (mask_of (sym (free_still p.bays) i)) (length p.queue)

-- ---- the whole run

-- one byte for each event
pub counted : (p : Port) (es : List ShelfEvent) → length (bytes_of p es) ≡ length es
counted p [] = refl
counted p (e ∷ es) = ap suc (counted (step_on most_phys p e).next es)

module _ (row : List Bay) (ns s : List ℕ) (budget : ℕ) (before : List ℕ) where
  abbrev scan : Scan
  scan = scanned begun row

  abbrev table : List Bay
  table = loaded row empty.bays

  abbrev g : Gone
  g = gone_of scan table ns s budget before

  abbrev p : Port
  p = port_in row ns

  abbrev Made : Type 0
  Made = Runs row ns s budget before g.ran (stored row g.table.bays) (queue_after_run scan table ns s budget before) (buffer_after_run scan table ns s budget before)

  bad_state_lem : sound_lent row ns ≡ false → Made
  bad_state_lem f = record { says = rw (sound_exactly row ns, f) refl; row_left = rw (sound_exactly row ns, f) (put_back row empty.bays); queue_left = rw (sound_exactly row ns, f) refl; buffer_left = rw (sound_exactly row ns, f) refl }

  no_room_lem : sound_lent row ns ≡ true → leb budget (length before) ≡ false → Made
  no_room_lem t r = record { says = rw (sound_exactly row ns, t, r) refl; row_left = rw (sound_exactly row ns, t, r) (put_back row empty.bays); queue_left = rw (sound_exactly row ns, t, r) refl; buffer_left = rw (sound_exactly row ns, t, r) refl }

  module _ (good : good_lent ns ≡ true) (v : valid_of most_phys p ≡ true) where
    few : length row ≤ most_phys
    few = (sound most_phys p v).few

    went : going budget s 0 (standing_in scan ns) (all_unset table) ns
        ≡ record {
          bays = (after most_phys (started p) (taken s budget)).bays ++ map unset (others row few);
          queue = lent_as (after most_phys (started p) (taken s budget)).queue;
          bytes = bytes_of (started p) (taken s budget);
          halt = (taking budget s 0).halt;
        }
    went =
        (λ i. going budget s 0 ((stands_so row ns v ∙ stands_still p) i) (is_unset row few i) (good_is_lent ns good i))
        ∙ goes budget s 0 (started p) (map unset (others row few)) (started_valid p v)

    runs : leb budget (length before) ≡ true → Made
    runs r =
        let t : sound_lent row ns ≡ true = rw (good, v) refl in
        let n : length (after most_phys (started p) (taken s budget)).bays ≡ length row = after_count most_phys (taken s budget) (started p) ∙ length-map row unset in
        record {
          says = rw (sound_exactly row ns, t, r) (ap (λ (w : Went). ran (length w.bytes) w.halt) went ∙ ap (λ (k : ℕ). ran k (taking budget s 0).halt) (counted (started p) (taken s budget)));
          row_left = rw (sound_exactly row ns, t, r) (ap (λ (w : Went). stored row w.bays) went ∙ comes_back row few (after most_phys (started p) (taken s budget)).bays (map unset (others row few)) n);
          queue_left = rw (sound_exactly row ns, t, r) (ap (λ (w : Went). w.queue) went);
          buffer_left = rw (sound_exactly row ns, t, r) (ap (λ (w : Went). sets before 0 w.bytes) went);
        }

  pub in_place : Made
  in_place =
      by_test (sound_lent row ns)
      (λ t. let q = parts (good_lent ns) (valid_of most_phys p) t in by_test (leb budget (length before)) (runs q.0 q.1) (no_room_lem t))
      bad_state_lem
