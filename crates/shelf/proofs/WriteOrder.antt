-- The event is stored first and the phy number before it: that is one store of the bytes of both. Room for the number and then for the event behind it is room for both.
use Prim.Native.Nat.{ℕ, suc, ◌+◌, ◌≤◌, ◌<◌}
use mathlib.Core.Bool.{true, false}
use mathlib.Core.List.{List, [], ◌∷◌, ◌++◌}
use mathlib.Core.Path.{◌≡◌, refl, sym, ap, ◌∙◌}
use native.Mathlib.Omega.{arith}
use borrow.Author.Tests.{le-leb, lt-leb, leb-false}
use lib.ListN.{length, set, length-append}
use lib.Seq.{sets, set_comm, length-sets}
use Rattle.std.specs.Prelude.{Ok, Err}
use Rattle.table.specs.declared.Refusal.{Refusal}
use Rattle.table.specs.declared.Refusal.TheVariants.{NoRoom}
use Rattle.table.proofs.Laws.{by_test}
use Rattle.number.specs.Writing.{number_bytes}
use Rattle.number.specs.Writing as number
use Rattle.number.specs.Promises.{WritesNumber}
use Rattle.number.proofs.RoundTrip as number-laws
use Rattle.event.specs.Table.{known_in_trace}
use Rattle.event.specs.declared.ShelfEvent.{ShelfEvent}
use Rattle.trace.specs.Writing.{wrote, event_bytes, fits}
use Rattle.trace.specs.Promises.{WritesEvent}
use Rattle.trace.proofs.Room.{refused_not_wrote}
use Rattle.trace.proofs.RoundTrip.{Fits, fitted}
use Rattle.shelf.specs.Writing.{shelf_bytes, shelf_fits}
use Rattle.shelf.specs.Promises.{WritesShelf}

-- ---- two stores

-- a store before a run may come first
set_first : (buffer : List ℕ) (i at x : ℕ) (ys : List ℕ) → i < at → set (sets buffer at ys) i x ≡ sets (set buffer i x) at ys
set_first buffer i at x [] h = refl
set_first buffer i at x (y ∷ ys) h =
    set_first (set buffer at y) i (suc at) x ys (omega arith)
    ∙ ap (λ (l : List ℕ). sets l (suc at) ys) (set_comm buffer at i y x (λ e. omega arith))

-- and so may a run that ends where the other begins: both are one
sets_before : (buffer xs ys : List ℕ) (at behind : ℕ) → behind ≡ at + length xs → sets (sets buffer behind ys) at xs ≡ sets buffer at (xs ++ ys)
sets_before buffer [] ys at behind e = ap (λ (n : ℕ). sets buffer n ys) (omega arith)
sets_before buffer (x ∷ xs) ys at behind e =
    ap (λ (l : List ℕ). sets l (suc at) xs) (set_first buffer at behind x ys (omega arith))
    ∙ sets_before (set buffer at x) xs ys (suc at) behind (omega arith)

-- ---- the contract, where the event is known: without room and with room

pub long : (e : ShelfEvent) → length (shelf_bytes e) ≡ length (number_bytes e.number) + length (event_bytes e.event)
unfolding shelf_bytes
long e = simp length-append (omega arith)

module _ (e : ShelfEvent) (before : List ℕ) (place : ℕ) where
  pub no_room_lem : known_in_trace e.event ≡ true → length before < place + length (shelf_bytes e) → WritesShelf e before place (Err NoRoom) before
  no_room_lem k h =
      let f : shelf_fits e before place ≡ false = lt-leb (place + length (shelf_bytes e)) (length before) h in
      record { says = rw (k, f) refl; leaves = rw (k, f) refl }

  -- the number takes `ahead` bytes, behind which the event was written
  module _ {ahead : ℕ} (l : ahead ≡ length (number_bytes e.number)) {middle : List ℕ} where
    pub event_refused : (refusal : Refusal) → WritesEvent e.event before (place + ahead) (Err refusal) middle → WritesShelf e before place (Err refusal) middle
    event_refused refusal c =
        by_test (known_in_trace e.event)
        (λ k.
        by_test (fits e.event before (place + ahead))
        (λ f. absurd (refused_not_wrote (rw (k, f) at c.says)))
        (λ f.
        let g : shelf_fits e before place ≡ false = lt-leb (place + length (shelf_bytes e)) (length before) (omega (arith, long e, leb-false (place + ahead + length (event_bytes e.event)) (length before) f)) in
        record { says = rw (k, g) (rw (k, f) at c.says); leaves = rw (k, g) (rw (k, f) at c.leaves) }))
        (λ k. record { says = rw k (rw k at c.says); leaves = rw k (rw k at c.leaves) })

    module _ {n : ℕ} (c : WritesEvent e.event before (place + ahead) (Ok n) middle) where
      event_fits : Fits e.event before (place + ahead) n
      event_fits = fitted e.event before (place + ahead) n (sym c.says)

      both_fit : place + ahead + n ≤ length before
      both_fit = omega (arith, event_fits)

      -- so the number has room too
      number_fits : number.fits e.number middle place ≡ true
      number_fits =
          let same : length middle ≡ length before = ap length (c.leaves ∙ event_fits.left) ∙ length-sets before (place + ahead) (event_bytes e.event) in
          le-leb (place + length (number_bytes e.number)) (length middle) (omega (arith, both_fit))

      pub number_written : (refusal : Refusal) {after : List ℕ} → WritesNumber e.number middle place (Err refusal) after → ⊥
      number_written refusal w = number-laws.refused_not_wrote (rw number_fits at w.says)

      number_stored : number.buffer_after e.number middle place ≡ sets middle place (number_bytes e.number)
      number_stored = rw number_fits refl

      pub both_written : {after : List ℕ} → after ≡ number.buffer_after e.number middle place → WritesShelf e before place (Ok (ahead + n)) after
      unfolding shelf_bytes
      both_written d =
          let k = event_fits.known in
          let f : shelf_fits e before place ≡ true = le-leb (place + length (shelf_bytes e)) (length before) (omega (arith, long e, event_fits)) in
          record {
            says = rw (k, f) (ap wrote (omega (arith, long e, event_fits)));
            leaves =
                rw (k, f)
                (d ∙ number_stored ∙ rw (c.leaves, event_fits.left) (sets_before before (number_bytes e.number) (event_bytes e.event) place (place + ahead) (omega arith)));
          }
