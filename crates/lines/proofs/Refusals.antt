-- A line is refused by one test, whether it fits, and where none comes nothing is.
use Prim.Native.Nat.{ℕ, ◌+◌}
use mathlib.Core.Bool.{Bool}
use mathlib.Core.Path.{◌≡◌, refl}
use borrow.Author.Tests.{leb-false, lt-leb}
use lib.ListN.{length}
use Rattle.table.proofs.Laws.{apart, by_test}
use Rattle.lines.specs.Listing.{line_of, no_line}
use Rattle.lines.specs.Promises.{wrote, finished, refused, fits}
use Rattle.lines.specs.Laws.{NoRoomExactly, NoRoomKeeps}
use Rattle.lines.specs.declared.Progress.{Progress}
use Rattle.lines.proofs.Whole.{no_line_lem}

-- neither a line written nor the end of a listing is a refusal
not_wrote : {next : Progress} {n k : ℕ} → wrote next n ≡ refused k → ⊥
not_wrote e = apart cc

not_finished : {whole : Bool} {k : ℕ} → finished whole ≡ refused k → ⊥
not_finished e = apart cc

pub no_room_exactly : {S : Type 0} → NoRoomExactly S
no_room_exactly (line_of bytes next b) buffer at = (
  λ h. (λ whole. no_line_lem, by_test (fits bytes buffer at) (λ f. absurd (not_wrote (rw f at h))) (λ f. leb-false (at + length bytes) (length buffer) f)),
  λ t. rw (lt-leb (at + length bytes) (length buffer) t.1) refl,
)
no_room_exactly (no_line whole) buffer at = (λ h. absurd (not_finished h), λ t. absurd (t.0 whole refl))

pub no_room_keeps : {S : Type 0} → NoRoomKeeps S
no_room_keeps (line_of bytes next b) old buffer at h =
    by_test (fits bytes buffer at) (λ f. absurd (not_wrote (rw f at h))) (λ f. (rw f refl, rw f refl))
no_room_keeps (no_line whole) old buffer at h = (refl, refl)
