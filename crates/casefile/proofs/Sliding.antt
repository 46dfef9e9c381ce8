-- Sliding the window goes by two tests, and in each case what was ahead stands where the answer says.
use Prim.Native.Nat.{ℕ, ◌+◌, ◌-◌, ◌≤◌, ◌<◌, min}
use mathlib.Core.Bool.{true, false, ◌||◌}
use mathlib.Core.List.{List}
use mathlib.Core.Path.{◌≡◌, refl, sym, ap, ◌∙◌}
use native.Mathlib.Omega.{arith}
use borrow.Author.Tests.{lt-ltb, le-ltb, ltb-true, eqb-true, eqb-false, eq-eqb, ne_eqb}
use borrow.Rule.Slice.PartMut.{mid_of, put_mid, same_len_mid, mid_len, take_put}
use lib.Dec.{eqb}
use lib.ListN.{length, take, drop, length-drop, drop_of_length-le}
use lib.Seq.{slice, length-slice, take-take, take_all, take-length, length-take-le}
use Rattle.std.proofs.Common.{zero-add}
use Rattle.std.specs.List.{copy_within}
use Rattle.std.proofs.lemmas.List.{drop-take}
use Rattle.std.proofs.lemmas.List.Edits.{take-paste}
use Rattle.table.specs.Choice.{pick}
use Rattle.table.specs.Results.{DeterminesLent, Leaves}
use Rattle.table.proofs.Laws.{by_test, by_order}
use Rattle.table.proofs.Results.{by_equation_lent}
use Rattle.casefile.specs.Window.{Place, end_ahead, count_ahead, none_ahead, enough_ahead, ahead_after, is_over}
use Rattle.casefile.specs.Promises.{ReadsOn, Slides, GoesOn}
use Rattle.casefile.specs.Laws.{AheadKept}
use Rattle.casefile.specs.declared.Ahead.{Ahead}
use Rattle.casefile.specs.declared.Turn.{Turn}

-- a count is the same after nothing was added
added : (kept more : ℕ) → eqb more 0 ≡ eqb (kept + more) kept
added kept more =
    by_test (eqb more 0) (λ t. rw t (sym (eq-eqb (kept + more) kept (omega (arith, eqb-true more 0 t)))))
    (λ f. rw f (sym (ne_eqb (kept + more) kept (λ e. eqb-false more 0 f (omega arith)))))

-- a part that was copied to the front stands there
moved : (window : List ℕ) (from to : ℕ) → from ≤ to → to ≤ length window → take (to - from) (copy_within window from to 0) ≡ slice from to window
moved window from to h k =
    let all : from + (to - from) ≡ to = omega arith in
    let long : to - from ≤ length (drop from window) = omega (arith, length-drop from window) in
    let front : take (0 + (to - from)) (copy_within window from to 0) ≡ take (to - from) (drop from window) = take-paste window 0 (drop from window) (to - from) (omega arith) long in
    ap (λ (n : ℕ). take n (copy_within window from to 0)) (sym (zero-add (to - from))) ∙ front
    ∙ sym (drop-take from (to - from) window) ∙ ap (λ (n : ℕ). drop from (take n window)) all

-- the window after a read behind what it kept
abbrev filled : (kept : ℕ) (window new : List ℕ) → List ℕ
filled kept window new = put_mid kept (length window - kept) window new

-- ---- each case meets the contract

module _ (before : List ℕ) (ahead : Ahead) where
  pub none_ahead_lem :
      end_ahead before ahead < ahead.from → Slides before ahead (record { from = 0; to = 0; ended = ahead.ended }) before
  none_ahead_lem h =
      record {
        ordered = omega arith;
        within = omega arith;
        does = rw (lt-ltb _ _ h) (record { says = refl; leaves = refl });
      }

  module _ (h : ahead.from ≤ end_ahead before ahead) where
    pub enough_ahead_lem :
        enough_ahead before ahead ≡ true
        → Slides before ahead (record { from = ahead.from; to = end_ahead before ahead; ended = ahead.ended }) before
    enough_ahead_lem e =
        record { ordered = h; within = omega arith; does = rw (le-ltb _ _ h, e) (record { says = refl; leaves = refl }) }

    -- what is read comes behind what was moved to the front
    pub more_ahead :
        {more : ℕ} {window : List ℕ} (new : List ℕ)
        → enough_ahead before ahead ≡ false → window ≡ copy_within before ahead.from (end_ahead before ahead) 0 → length window ≡ length before
        → length new ≡ length (mid_of (count_ahead before ahead) (length window - count_ahead before ahead) window) → more ≤ length new
        → Slides before ahead (record { from = 0; to = count_ahead before ahead + more; ended = eqb more 0 }) (filled (count_ahead before ahead) window new)
    more_ahead {more} {window} new e m long l k =
        let kept = count_ahead before ahead in
        let room : kept ≤ length window = omega (arith, long) in
        let same : length (filled kept window new) ≡ length window = same_len_mid kept (length window - kept) window new l in
        record {
          ordered = omega arith;
          within = omega (arith, same, mid_len kept (length window) window (omega arith));
          does =
              rw (le-ltb _ _ h, e)
              (record {
                front = take_put kept (length window - kept) window new room ∙ ap (take kept) m ∙ moved before ahead.from (end_ahead before ahead) h (omega arith);
                same = same ∙ long;
                start = refl;
                more = omega arith;
                ended = added kept more;
              });
        }

-- ---- what the contract gives

-- nothing of a part lies behind the window
slice_cut : (window : List ℕ) (from to : ℕ) → slice from to window ≡ slice from (min to (length window)) window
slice_cut window from to =
    by_order to (length window)
    (λ h. let same : min to (length window) ≡ to = omega arith in rw same)
    (λ h. let all : min to (length window) ≡ length window = omega arith in rw (all, take_all to window h, take-length))

pub ahead_kept : AheadKept
ahead_kept before ahead r after s =
    let from = ahead.from in
    let to = end_ahead before ahead in
    let part : slice from ahead.to before ≡ slice from to before = slice_cut before from ahead.to in
    by_test (none_ahead before ahead)
    (λ t.
    let h : to < from = ltb-true to from t in
    let short : length (take to before) ≤ from = rw (length-take-le to before (omega arith)) (omega arith) in
    rw (part, drop_of_length-le (take to before) short))
    (λ f.
    by_test (enough_ahead before ahead)
    (λ t. let d : Leaves r _ after before = rw (f, t) at s.does in rw (d.says, d.leaves, part, take-length))
    (λ g.
    let d : ReadsOn before ahead r after = rw (f, g) at s.does in
    rw (part, length-slice from to before (omega arith), d.start) (take-take (to - from) r.to after d.more ∙ d.front)))

-- nothing is read where nothing or enough is ahead, and then the result and the window are the definition's
slide_determined :
    (before : List ℕ) (ahead : Ahead) → none_ahead before ahead || enough_ahead before ahead ≡ true → DeterminesLent (Slides before ahead)
slide_determined before ahead h r q after later a b =
    by_test (none_ahead before ahead) (λ t. by_equation_lent _ _ r q after later (rw t at a.does) (rw t at b.does))
    (λ f.
    let t : enough_ahead before ahead ≡ true = rw f at h in
    by_equation_lent _ _ r q after later (rw (f, t) at a.does) (rw (f, t) at b.does))

pub case_determined :
    (before : List ℕ) (turn : Turn) (at : Place) → none_ahead before (ahead_after turn at) || enough_ahead before (ahead_after turn at) ≡ true
    → DeterminesLent (GoesOn before turn at)
case_determined before turn at h r q after later a b =
    let same : (r.ahead ≡ q.ahead) × (after ≡ later) = slide_determined before (ahead_after turn at) h _ _ after later a.slides b.slides in
    let left : r.left ≡ q.left = a.counted ∙ ap (λ (x : Ahead). pick (is_over at x) 0 (turn.left - 1)) same.0 ∙ sym b.counted in
    let n : r.n ≡ q.n = cc in
    (λ i. record { left = left i; ahead = same.0 i; n = n i }, same.1)
