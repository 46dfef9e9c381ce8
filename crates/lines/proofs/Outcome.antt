-- Only the line of the trace's end is told as whole, and it comes where every event before it was read.
use Prim.Native.Nat.{ℕ}
use mathlib.Core.Bool.{Bool, true, false, false≢true}
use mathlib.Core.List.{List, [], ◌∷◌}
use mathlib.Core.Logic.{◌↔◌}
use mathlib.Core.Path.{◌≡◌, refl, sym, ap, subst, ◌∙◌}
use native.Mathlib.Omega.{arith}
use borrow.Author.Tests.{leb-true, leb-false}
use lib.Dec.{leb}
use lib.ListN.{length}
use Rattle.table.proofs.Laws.{apart, by_test}
use Rattle.lines.specs.Listing.{most_trace, Found, found, nothing, fault, Listable, line_of, one_more, after_reading, line_at}
use Rattle.lines.specs.Lines.{too_long_line}
use Rattle.lines.specs.Laws.{Lines, over, more, ReadsAll, WholeExactly}
use Rattle.lines.specs.Laws as laws
use Rattle.lines.specs.declared.Progress.{Progress}
use Rattle.lines.specs.declared.Progress.TheVariants.{Header, Events, TooLong, Done}
use Rattle.lines.proofs.Whole.{something, after_last, first_line}

not_whole : {whole : Bool} → whole ≡ false → whole ≡ true → ⊥
not_whole f t = false≢true (sym f ∙ t)

module _ {S E : Type 0} (m : Listable S E) where
  -- from a place on the trace is read to its end without a fault
  record Read (s : List ℕ) (place : ℕ) : Type 0 where
    events : List E
    reads : ReadsAll m.reads s place events

  -- one event read, and then the others
  after_event : {s : List ℕ} {place next : ℕ} {e : E} → m.reads s place ≡ found e next → Read s next → Read s place
  after_event {e = e} h r = record { events = e ∷ r.events; reads = laws.taken h r.reads }

  -- and back
  others :
      {s : List ℕ} {place next : ℕ} {e : E} {es : List E} → m.reads s place ≡ found e next → ReadsAll m.reads s place es
      → Read s next
  others h (laws.ended k) = let w = sym k ∙ h in apart cc
  others {s} {next = next} h (laws.taken {next = after} {es = es} k r) =
      let w = sym k ∙ h in
      let same : after ≡ next = cc in
      record { events = es; reads = subst (λ (n : ℕ). ReadsAll m.reads s n es) same r }

  -- none comes after a fault
  no_others :
      {s : List ℕ} {place n at : ℕ} {es : List E} → m.reads s place ≡ fault n at → ReadsAll m.reads s place es → ⊥
  no_others h (laws.ended k) = let w = sym k ∙ h in apart cc
  no_others h (laws.taken k r) = let w = sym k ∙ h in apart cc

  -- ---- from a place on

  by_reading :
      {s : List ℕ} {place : ℕ} (count : ℕ) (b : S) {next : Progress} {c : S} {whole : Bool} {bytes others : List ℕ} (t : Found E)
      → m.reads s place ≡ t → after_reading m place count b t ≡ line_of bytes next c → Lines m s next c whole others
      → ((after many : ℕ) → next ≡ Events after many → whole ≡ true ↔ Read s after) → whole ≡ true ↔ Read s place
  by_reading count b {next = next} (found v after) h e l f =
      let to : Events after (one_more count) ≡ next = cc in
      let x = f after (one_more count) (sym to) in
      (λ w. after_event h (x.0 w), λ r. x.1 (others h r.reads))
  by_reading count b {next = next} nothing h e l f =
      let done : Done true ≡ next = cc in
      (λ w. record { events = []; reads = laws.ended h }, λ r. (after_last m (sym done) l).1)
  by_reading count b {next = next} (fault n at) h e l f =
      let done : Done false ≡ next = cc in
      (λ w. absurd (not_whole (after_last m (sym done) l).1 w), λ r. absurd (no_others h r.reads))

  from_place :
      {s : List ℕ} {place count : ℕ} {b : S} {progress : Progress} {whole : Bool} {bytes : List ℕ}
      → progress ≡ Events place count → Lines m s progress b whole bytes → whole ≡ true ↔ Read s place
  unfolding line_at
  from_place {s} {place} {count} {b} q (over e) =
      absurd (something m place count b (m.reads s place) (sym (ap (λ (p : Progress). line_at m s p b) q) ∙ e))
  from_place {s} {place} {count} {b} q (more e l) =
      by_reading count b (m.reads s place) refl (sym (ap (λ (p : Progress). line_at m s p b) q) ∙ e) l (λ after many r. from_place {place = after} r l)

  -- ---- from the start on

  pub whole_exactly : WholeExactly m
  unfolding line_at
  whole_exactly b s bytes whole l =
      by_test (leb (length s) most_trace)
      (λ t.
      let lines : Lines m s Header b whole bytes = rw t at l in
      let x = from_place refl (first_line m {c = b} {line = m.header} {next = Events 0 0} refl lines).rest in (
        λ w.
            let r = x.0 w in
            record { short = leb-true (length s) most_trace t; events = r.events; read = r.reads },
        λ r. x.1 (record { events = r.events; reads = r.read }),
      ))
      (λ f.
      let lines : Lines m s TooLong b whole bytes = rw f at l in
      let told = (after_last m refl (first_line m {c = b} {line = too_long_line} {next = Done false} refl lines).rest).1 in
      (λ w. absurd (not_whole told w), λ r. absurd (omega (arith, r.short, leb-false (length s) most_trace f))))
