-- What a writer says and leaves, by whether what it is handed is known and whether its bytes fit: of an event in a trace and of one on a shelf alike.
use Prim.Native.Nat.{ℕ, ◌+◌, ◌≤◌, ◌<◌}
use mathlib.Core.Bool.{Bool, true, false}
use mathlib.Core.List.{List}
use mathlib.Core.Logic.{◌↔◌}
use mathlib.Core.Path.{◌≡◌, refl, sym}
use native.Mathlib.Omega.{arith}
use borrow.Author.Tests.{lt-leb, leb-true, leb-false}
use lib.Dec.{leb}
use lib.ListN.{length}
use lib.Seq.{sets}
use Rattle.table.specs.Choice.{pick}
use Rattle.table.specs.Refusals.{bad_event, no_room}
use Rattle.table.proofs.Laws.{apart, by_test}
use Rattle.trace.specs.Writing.{ToldWritten, wrote, refused, length_given}

refused_is : {m n : ℕ} → refused m ≡ refused n → m ≡ n
refused_is e = cc

wrote_is : {m n : ℕ} → wrote m ≡ wrote n → m ≡ n
wrote_is e = cc

pub refused_not_wrote : {m n : ℕ} → refused m ≡ wrote n → ⊥
refused_not_wrote e = apart cc

module _ (known : Bool) (bytes buffer : List ℕ) (place : ℕ) where
  abbrev fits : Bool
  fits = leb (place + length bytes) (length buffer)

  abbrev said : ToldWritten
  said = pick known (pick fits (wrote (length bytes)) (refused no_room)) (refused bad_event)

  abbrev after : List ℕ
  after = pick known (pick fits (sets buffer place bytes) buffer) buffer

  by_room : {A : Type 0} → (known ≡ false → A) → (known ≡ true → fits ≡ false → A) → (known ≡ true → fits ≡ true → A) → A
  by_room a b c = by_test known (λ k. by_test fits (c k) (b k)) a

  pub bad_event_exactly : said ≡ refused bad_event ↔ (known ≡ false)
  bad_event_exactly = (
    λ h. by_room (λ k. k)
        (λ k f. absurd (let z = refused_is (rw (k, f) at h) in omega arith))
        (λ k f. absurd (refused_not_wrote (sym (rw (k, f) at h)))),
    λ k. rw k refl,
  )

  pub no_room_exactly : said ≡ refused no_room ↔ ((known ≡ true) × (length buffer < place + length bytes))
  no_room_exactly = (
    λ h. by_room
        (λ k. absurd (let z = refused_is (rw k at h) in omega arith))
        (λ k f. (k, leb-false (place + length bytes) (length buffer) f))
        (λ k f. absurd (refused_not_wrote (sym (rw (k, f) at h)))),
    λ r. rw (r.0, lt-leb (place + length bytes) (length buffer) r.1) refl,
  )

  pub refused_keeps : (n : ℕ) → said ≡ refused n → (length_given said ≡ 0) × (after ≡ buffer)
  refused_keeps n h =
      by_room
      (λ k. rw k (refl, refl))
      (λ k f. rw (k, f) (refl, refl))
      (λ k f. absurd (refused_not_wrote (sym (rw (k, f) at h))))

-- a length is told only of what is known and fits
pub record Fitted (b : Bool) (bytes buffer : List ℕ) (place n : ℕ) : Type 0 where
  pub known : b ≡ true
  pub room : place + length bytes ≤ length buffer
  pub long : n ≡ length bytes
  pub left : after b bytes buffer place ≡ sets buffer place bytes

pub fitted : (b : Bool) (bytes buffer : List ℕ) (place n : ℕ) → said b bytes buffer place ≡ wrote n → Fitted b bytes buffer place n
fitted b bytes buffer place n h =
    by_room b bytes buffer place
    (λ k. absurd (refused_not_wrote (rw k at h)))
    (λ k f. absurd (refused_not_wrote (rw (k, f) at h)))
    (λ k f. record { known = k; room = leb-true (place + length bytes) (length buffer) f; long = sym (wrote_is (rw (k, f) at h)); left = rw (k, f) refl })
