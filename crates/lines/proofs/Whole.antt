-- The lines from the start on are the listing: each line of the one is a line of the other, and the count goes round for no trace that is listed.
use Prim.Native.Nat.{ℕ, zero, suc, ◌≤◌, ◌<◌}
use mathlib.Core.Bool.{Bool}
use mathlib.Core.List.{List, [], ◌++◌, append-nil}
use mathlib.Core.Path.{◌≡◌, refl, sym, ap, ap₂, subst, ◌∙◌}
use native.Mathlib.Omega.{arith}
use borrow.Author.Tests.{leb-true, leb-false}
use lib.Dec.{leb}
use lib.ListN.{length}
use Rattle.table.proofs.Laws.{apart, by_test}
use Rattle.lines.specs.Listing.{most_trace, Found, found, nothing, fault, Listable, ListsFrom, ended, stopped, taken, Lists, listed, too_long, Next, line_of, no_line, start_of, one_more, after_reading, line_at}
use Rattle.lines.specs.Laws.{ReadsOn, lines_left, Lines, over, more, LinesFrom, ListingExists, ListingOnce, LinesAreListing}
use Rattle.lines.specs.declared.Progress.{Progress}
use Rattle.lines.specs.declared.Progress.TheVariants.{Header, Events, TooLong, Done}
use Rattle.lines.proofs.Ends.{lines_fall}

-- where a line comes there is not none
pub no_line_lem : {S : Type 0} {bytes : List ℕ} {next : Progress} {b : S} {whole : Bool} → line_of bytes next b ≡ no_line whole → ⊥
no_line_lem e = apart cc

module _ {S E : Type 0} (m : Listable S E) where
  -- and one comes of every place
  pub something : (place count : ℕ) (b : S) {whole : Bool} (t : Found E) → after_reading m place count b t ≡ no_line whole → ⊥
  something place count b (found v after) e = no_line_lem e
  something place count b nothing e = no_line_lem e
  something place count b (fault n at) e = no_line_lem e

  -- ---- the lines are a function of the progress and the state, and end

  lines_once :
      {s : List ℕ} {progress other : Progress} {b d : S} {whole full : Bool} {bytes others : List ℕ}
      → progress ≡ other → b ≡ d → Lines m s progress b whole bytes → Lines m s other d full others → bytes ≡ others
  lines_once q p (over e) (over h) = refl
  lines_once q p (over e) (more h l) = absurd (no_line_lem (sym h ∙ ap₂ (line_at m _) (sym q) (sym p) ∙ e))
  lines_once q p (more e l) (over h) = absurd (no_line_lem (sym e ∙ ap₂ (line_at m _) q p ∙ h))
  lines_once q p (more {next = next} {c = c} {bytes = first} e l) (more {next = last} {c = f} {bytes = again} h k) =
      let w : line_of first next c ≡ line_of again last f = sym e ∙ ap₂ (line_at m _) q p ∙ h in
      let bytes : first ≡ again = cc in
      let same : next ≡ last = cc in
      let state : c ≡ f = cc in
      ap₂ ◌++◌ bytes (lines_once same state l k)

  -- a line, and then others
  then :
      {s : List ℕ} {progress next : Progress} {b c : S} {bytes others : List ℕ} → line_at m s progress b ≡ line_of bytes next c
      → LinesFrom m s next c others → LinesFrom m s progress b (bytes ++ others)
  then e l = record { whole = l.whole; lines = more e l.lines }

  -- after the last line there is none
  last :
      {s : List ℕ} {bytes : List ℕ} {progress : Progress} {b c : S} {whole : Bool} → line_at m s progress b ≡ line_of bytes (Done whole) c
      → LinesFrom m s progress b bytes
  unfolding line_at
  last {s} {bytes} {progress} {b} {whole = whole} e =
      subst (LinesFrom m s progress b) (append-nil bytes) (then e (record { whole = whole; lines = over refl }))

  -- and the outcome is what it said
  pub after_last :
      {s : List ℕ} {bytes : List ℕ} {progress : Progress} {b : S} {told whole : Bool} → progress ≡ Done told
      → Lines m s progress b whole bytes → (bytes ≡ []) × (whole ≡ told)
  unfolding line_at
  after_last {s} {b = b} {told = told} q (over {whole = whole} e) =
      let w : no_line told ≡ no_line whole = sym (ap (λ (p : Progress). line_at m s p b) q) ∙ e in
      (refl, cc)
  after_last {s} {b = b} q (more e l) = absurd (no_line_lem (sym e ∙ ap (λ (p : Progress). line_at m s p b) q))

  -- lines apart: the first, which is known, and the others
  pub record First (s : List ℕ) (whole : Bool) (bytes line : List ℕ) (next : Progress) (c : S) : Type 0 where
    pub others : List ℕ
    pub split : line ++ others ≡ bytes
    pub rest : Lines m s next c whole others

  pub first_line :
      {s : List ℕ} {progress : Progress} {b c : S} {whole : Bool} {bytes line : List ℕ} {next : Progress}
      → line_at m s progress b ≡ line_of line next c → Lines m s progress b whole bytes → First s whole bytes line next c
  first_line e (over h) = absurd (no_line_lem (sym e ∙ h))
  first_line {s} {c = c} {line = line} {next = next} e (more {next = after} {c = d} {whole = whole} {bytes = bytes} {others = others} h l) =
      let w : line_of line next c ≡ line_of bytes after d = sym e ∙ h in
      let same : line ≡ bytes = cc in
      let to : after ≡ next = cc in
      let state : d ≡ c = cc in
      record {
        others = others;
        split = ap (λ (x : List ℕ). x ++ others) same;
        rest = subst (λ (x : S). Lines m s next x whole others) state (subst (λ (p : Progress). Lines m s p d whole others) to l);
      }

module _ {S E : Type 0} (m : Listable S E) (on : ReadsOn m) where
  record SomeLines (s : List ℕ) (progress : Progress) (b : S) : Type 0 where
    bytes : List ℕ
    lines : LinesFrom m s progress b bytes

  -- a line and what comes after it
  one_line : (s : List ℕ) (progress : Progress) (b : S) (x : Next S) → line_at m s progress b ≡ x
      → ((next : Progress) (c : S) → lines_left s next < lines_left s progress → SomeLines s next c) → SomeLines s progress b
  one_line s progress b (no_line whole) e f = record { bytes = []; lines = record { whole = whole; lines = over e } }
  one_line s progress b (line_of bytes next c) e f =
      let others : SomeLines s next c = f next c (lines_fall m on s progress b bytes next c e) in
      record { bytes = bytes ++ others.bytes; lines = then m e others.lines }

  lines_end : (k : ℕ) (s : List ℕ) (progress : Progress) (b : S) → lines_left s progress ≤ k → SomeLines s progress b
  lines_end zero s progress b h = one_line s progress b (line_at m s progress b) refl (λ next c l. absurd (omega arith))
  lines_end (suc k) s progress b h =
      one_line s progress b (line_at m s progress b) refl (λ next c l. lines_end k s next c (omega arith))

  -- ---- from a listing to its lines, and back, in a trace that is not too long

  module _ (s : List ℕ) (fits : length s ≤ most_trace) where
    -- a place that the listing comes to, after no more events than bytes
    record At (place count : ℕ) : Type 0 where
      inside : place ≤ length s
      few : count ≤ place

    next_at : {place count : ℕ} {e : E} {next : ℕ} → At place count → m.reads s place ≡ found e next → At next (suc count)
    next_at {place} {count} {e} {next} a h =
        record { inside = on.within s place e next h; few = omega (arith, on.forward s place e next h, a.few) }

    counted : {place count : ℕ} → At place count → one_more count ≡ suc count
    counted a = omega (arith, a.inside, a.few)

    to_lines :
        {place count : ℕ} {b : S} {bytes : List ℕ} → At place count → ListsFrom m s place count b bytes
        → LinesFrom m s (Events place count) b bytes
    unfolding line_at
    to_lines {place} {count} {b} a (ended e) = last m (ap (after_reading m place count b) e)
    to_lines {place} {count} {b} a (stopped e) = last m (ap (after_reading m place count b) e)
    to_lines {place} {count} {b} a (taken {next = next} {e = v} {others = others} e l) =
        then m (ap (after_reading m place count b) e)
        (subst (λ (n : ℕ). LinesFrom m s (Events next n) (m.next b v) others) (sym (counted a)) (to_lines (next_at a e) l))

    module _ {place count : ℕ} (b : S) (a : At place count) where
      module _ {bytes others : List ℕ} {next : Progress} {c : S} {whole : Bool} (l : Lines m s next c whole others) where
        -- a last line is the rest of the listing
        is_last :
            {line : List ℕ} {told : Bool} → line_of line (Done told) b ≡ line_of bytes next c → ListsFrom m s place count b line
            → ListsFrom m s place count b (bytes ++ others)
        is_last {line} {told} e f =
            let same : line ≡ bytes = cc in
            let done : Done told ≡ next = cc in
            let none : [] ≡ others = sym (after_last m (sym done) l).0 in
            subst (ListsFrom m s place count b) (same ∙ sym (append-nil bytes) ∙ ap (λ (x : List ℕ). bytes ++ x) none) f

        by_reading :
            (t : Found E) → m.reads s place ≡ t → after_reading m place count b t ≡ line_of bytes next c
            → ((after many : ℕ) → At after many → next ≡ Events after many → ListsFrom m s after many c others) → ListsFrom m s place count b (bytes ++ others)
        by_reading (found v after) h e f =
            let same : m.line place b v ≡ bytes = cc in
            let to : Events after (one_more count) ≡ next = cc in
            let state : c ≡ m.next b v = cc in
            subst (λ (x : List ℕ). ListsFrom m s place count b (x ++ others)) same
            (taken h (subst (λ (x : S). ListsFrom m s after (suc count) x others) state (f after (suc count) (next_at a h) (sym to ∙ ap (Events after) (counted a)))))
        by_reading nothing h e f = is_last e (ended h)
        by_reading (fault n at) h e f = is_last e (stopped h)

    from_lines :
        {place count : ℕ} {b : S} {progress : Progress} {whole : Bool} {bytes : List ℕ}
        → At place count → progress ≡ Events place count → Lines m s progress b whole bytes → ListsFrom m s place count b bytes
    unfolding line_at
    from_lines {place} {count} {b} a q (over e) =
        absurd (something m place count b (m.reads s place) (sym (ap (λ (p : Progress). line_at m s p b) q) ∙ e))
    from_lines {place} {count} {b} a q (more e l) =
        by_reading b a l (m.reads s place) refl (sym (ap (λ (p : Progress). line_at m s p b) q) ∙ e) (λ after many w r. from_lines {place = after} {count = many} w r l)

    first : At 0 0
    first = record { inside = omega arith; few = omega arith }

    from_header : {b : S} {whole : Bool} {bytes : List ℕ} → Lines m s Header b whole bytes → Lists m b s bytes
    unfolding line_at
    from_header {b} l =
        let f = first_line m {c = b} {line = m.header} {next = Events 0 0} refl l in
        subst (Lists m b s) f.split (listed fits (from_lines first refl f.rest))

    to_header : {b : S} {bytes : List ℕ} → Lists m b s bytes → LinesFrom m s Header b bytes
    unfolding line_at
    to_header (listed h l) = then m refl (to_lines first l)
    to_header (too_long h) = absurd (omega arith)

  -- ---- and in one that is

  module _ (s : List ℕ) (long : most_trace < length s) where
    from_too_long : {b : S} {whole : Bool} {bytes : List ℕ} → Lines m s TooLong b whole bytes → Lists m b s bytes
    unfolding line_at
    from_too_long {b} l =
        subst (Lists m b s) (lines_once m refl refl (last m {s = s} {progress = TooLong} {b = b} refl).lines l) (too_long long)

    to_too_long : {b : S} {bytes : List ℕ} → Lists m b s bytes → LinesFrom m s TooLong b bytes
    unfolding line_at
    to_too_long (listed h l) = absurd (omega arith)
    to_too_long (too_long h) = last m refl

  pub lines_are_listing : LinesAreListing m
  lines_are_listing b s bytes =
      by_test (leb (length s) most_trace)
      (λ t. let h = leb-true (length s) most_trace t in (λ l. from_header s h (rw t at l.lines), λ l. rw t (to_header s h l)))
      (λ f.
      let h = leb-false (length s) most_trace f in
      (λ l. from_too_long s h (rw f at l.lines), λ l. rw f (to_too_long s h l)))

  pub listing_exists : ListingExists m
  listing_exists b s =
      let all : SomeLines s (start_of (length s)) b = lines_end (lines_left s (start_of (length s))) s (start_of (length s)) b (omega arith) in
      record { bytes = all.bytes; lists = (lines_are_listing b s all.bytes).0 all.lines }

  pub listing_once : ListingOnce m
  listing_once b s bytes others x y =
      lines_once m refl refl ((lines_are_listing b s bytes).1 x).lines ((lines_are_listing b s others).1 y).lines
