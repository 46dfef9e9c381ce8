-- A listing ends: an event read moves the place on within the trace, and every other line is the last.
use Prim.Native.Nat.{ℕ, suc, ◌+◌, ◌-◌, ◌≤◌, ◌<◌}
use mathlib.Core.Bool.{Bool}
use mathlib.Core.List.{List}
use mathlib.Core.Path.{◌≡◌, refl, sym, ap, subst, ◌∙◌}
use native.Mathlib.Omega.{arith}
use borrow.Author.Tests.{leb-true, leb-false}
use lib.ListN.{length}
use Rattle.table.specs.Refusals.{no_room}
use Rattle.table.proofs.Laws.{apart, by_test}
use Rattle.lines.specs.Lines.{most_line}
use Rattle.lines.specs.Listing.{Found, found, nothing, fault, Listable, Next, line_of, no_line, after_reading, line_at}
use Rattle.lines.specs.Promises.{wrote, finished, refused, fits, bytes_of, write_next, state_after}
use Rattle.lines.specs.Laws.{ReadsOn, lines_left, LinesFall, WrittenAdvances, FinishedComes, Kept, RoomEnough}
use Rattle.lines.specs.declared.Progress.{Progress}
use Rattle.lines.specs.declared.Progress.TheVariants.{Header, Events, TooLong, Done}

-- a line that is said to be written comes next, and fits
record Written {S : Type 0} (x : Next S) (old : S) (before : List ℕ) (at : ℕ) (next : Progress) (n : ℕ) : Type 0 where
  bytes : List ℕ
  comes : x ≡ line_of bytes next (state_after x old before at)
  room : at + n ≤ length before

written_line : {S : Type 0} (x : Next S) (old : S) (before : List ℕ) (at : ℕ) (next : Progress) (n : ℕ)
    → write_next x before at ≡ wrote next n → Written x old before at next n
written_line (line_of bytes progress b) old before at next n e =
    by_test (fits bytes before at)
    (λ t.
    let w : wrote progress (length bytes) ≡ wrote next n = rw t at e in
    let long : length bytes ≡ n = cc in
    let same : progress ≡ next = cc in
    record { bytes = bytes; comes = rw (same, t) refl; room = omega (arith, leb-true (at + length bytes) (length before) t) })
    (λ f. let w : refused no_room ≡ wrote next n = rw f at e in apart cc)
written_line (no_line whole) old before at next n e = apart cc

finished_line : {S : Type 0} (x : Next S) (before : List ℕ) (at : ℕ) (whole : Bool) → write_next x before at ≡ finished whole → x ≡ no_line whole
finished_line (line_of bytes progress b) before at whole e =
    by_test (fits bytes before at)
    (λ t. let w : wrote progress (length bytes) ≡ finished whole = rw t at e in apart cc)
    (λ f. let w : refused no_room ≡ finished whole = rw f at e in apart cc)
finished_line (no_line told) before at whole e = let same : told ≡ whole = cc in ap no_line same

refused_line : {S : Type 0} (x : Next S) (old : S) (before : List ℕ) (at : ℕ) → write_next x before at ≡ refused no_room → length (bytes_of x) ≤ most_line
    → Kept old (state_after x old before at) before at
refused_line (line_of bytes progress b) old before at e short =
    by_test (fits bytes before at)
    (λ t. let w : wrote progress (length bytes) ≡ refused no_room = rw t at e in apart cc)
    (λ f. record { state = rw f refl; full = omega (arith, leb-false (at + length bytes) (length before) f) })
refused_line (no_line whole) old before at e short = apart cc

module _ {S E : Type 0} (m : Listable S E) where
  pub finished_comes : FinishedComes m
  finished_comes s progress b before at c r after whole w e = finished_line (line_at m s progress b) before at whole (sym w.says ∙ e)

  pub room_enough : RoomEnough m
  room_enough s progress b before at c r after w e =
      subst (λ (x : S). Kept b x before at) (sym w.state) (refused_line (line_at m s progress b) b before at (sym w.says ∙ e) w.short)

module _ {S E : Type 0} (m : Listable S E) (on : ReadsOn m) where
  -- the progress after a line is the one that the line gives
  after_line : (s : List ℕ) (k : ℕ) {bytes others : List ℕ} {next progress : Progress} {b c : S} → line_of bytes next b ≡ line_of others progress c → lines_left s next < k → lines_left s progress < k
  after_line s k {next = next} {progress = progress} e h =
      let same : next ≡ progress = cc in
      subst (λ (p : Progress). lines_left s p < k) same h

  fall : (s : List ℕ) (place count : ℕ) (b : S) (t : Found E) → m.reads s place ≡ t → {bytes : List ℕ} {next : Progress} {c : S}
      → after_reading m place count b t ≡ line_of bytes next c → lines_left s next < suc (length s - place)
  fall s place count b (found e after) h l =
      after_line s _ l (omega (arith, on.forward s place e after h, on.within s place e after h))
  fall s place count b nothing h l = after_line s _ l (omega arith)
  fall s place count b (fault n at) h l = after_line s _ l (omega arith)

  pub lines_fall : LinesFall m
  unfolding line_at
  lines_fall s Header b bytes next c e = after_line s _ e (omega arith)
  lines_fall s (Events place count) b bytes next c e = fall s place count b (m.reads s place) refl e
  lines_fall s TooLong b bytes next c e = after_line s _ e (omega arith)
  lines_fall s (Done whole) b bytes next c e = apart cc

  pub written_advances : WrittenAdvances m
  written_advances s progress b before at c r after next n w e =
      let l : Written (line_at m s progress b) b before at next n = written_line (line_at m s progress b) b before at next n (sym w.says ∙ e) in
      let comes : line_at m s progress b ≡ line_of l.bytes next c = l.comes ∙ ap (line_of l.bytes next) (sym w.state) in
      record { bytes = l.bytes; comes = comes; fewer = lines_fall s progress b l.bytes next c comes; within = l.room }
