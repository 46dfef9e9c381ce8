-- The last line of a listing: each event read is counted once, and the trace ends at its length.
use Prim.Native.Nat.{ℕ, suc, ◌+◌, ◌≤◌}
use mathlib.Core.List.{List, [], ◌++◌, append_assoc}
use mathlib.Core.Path.{◌≡◌, sym, ap, ap₂, subst, ◌∙◌}
use native.Mathlib.Nat.{zero-add}
use native.Mathlib.Omega.{arith}
use lib.ListN.{length}
use Rattle.table.proofs.Laws.{apart}
use Rattle.lines.specs.Lines.{end_line}
use Rattle.lines.specs.Listing.{Listable, ListsFrom, ended, stopped, taken, listed, too_long}
use Rattle.lines.specs.Laws.{ReadsOn, ReadsAll, EndsWith, EndTells}
use Rattle.lines.specs.Laws as laws

-- more bytes in front change nothing
further : {bytes last : List ℕ} (first : List ℕ) → EndsWith bytes last → EndsWith (first ++ bytes) last
further {last = last} first e = record { front = first ++ e.front; whole = ap (λ (b : List ℕ). first ++ b) e.whole ∙ sym (append_assoc first e.front last) }

module _ {S E : Type 0} (m : Listable S E) (on : ReadsOn m) where
  ends : {s : List ℕ} {place count : ℕ} {b : S} {bytes : List ℕ} {es : List E} → place ≤ length s → ReadsAll m.reads s place es → ListsFrom m s place count b bytes
      → EndsWith bytes (end_line (length s) (count + length es))
  ends {s} {place} {count} h (laws.ended e) (ended f) =
      record { front = []; whole = ap₂ end_line (omega (arith, on.at_end s place e)) (omega arith) }
  ends h (laws.ended e) (stopped f) = let w = sym e ∙ f in apart cc
  ends h (laws.ended e) (taken f l) = let w = sym e ∙ f in apart cc
  ends h (laws.taken e r) (ended f) = let w = sym e ∙ f in apart cc
  ends h (laws.taken e r) (stopped f) = let w = sym e ∙ f in apart cc
  ends {s} {place} {count} h (laws.taken {next = next} {e = v} {es = es} e r) (taken {next = after} {b = b} {e = u} {others = others} f l) =
      let w = sym e ∙ f in
      let same : after ≡ next = cc in
      let rest : ListsFrom m s next (suc count) (m.next b u) others = subst (λ (n : ℕ). ListsFrom m s n (suc count) (m.next b u) others) same l in
      further (m.line place b u)
      (subst (λ (n : ℕ). EndsWith others (end_line (length s) n)) (omega arith) (ends {b = m.next b u} (on.within s place v next e) r rest))

  pub end_tells : EndTells m
  end_tells b s bytes es h r (listed k l) = further m.header (rw zero-add at (ends (omega arith) r l))
  end_tells b s bytes es h r (too_long k) = absurd (omega arith)
