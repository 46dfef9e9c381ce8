-- Stores at the place of an Open, and the zeros behind those that wait: they are the definitions' own.
use Prim.Native.Nat.{ℕ, ◌+◌, ◌≤◌}
use mathlib.Core.List.{List, ◌++◌, append_assoc}
use mathlib.Core.Path.{◌≡◌, sym, ap, ◌∙◌}
use native.Mathlib.Omega.{arith}
use borrow.Rule.Slice.PartMut.{put_mid}
use lib.ListN.{length, take, drop, length-append, length-drop}
use lib.Seq.{sets, sets-eq, take_at, drop_at, drop-drop, length-take-le}
use Rattle.queue.specs.Lent.{numbers_each}

-- a run that is stored over one as long
pub stored_over : (first run old rest : List ℕ) (at : ℕ) → length first ≡ at → length old ≡ length run
    → sets (first ++ (old ++ rest)) at run ≡ first ++ run ++ rest
stored_over first run old rest at h k =
    let all : List ℕ = first ++ (old ++ rest) in
    let behind : drop (at + length run) all ≡ rest =
    sym (drop-drop (length run) at all) ∙ ap (drop (length run)) (drop_at first (old ++ rest) at h) ∙ drop_at old rest (length run) k in
    sets-eq run all at (rw (length-append, length-append) (omega arith)) ∙ rw (take_at first (old ++ rest) at h, behind)

-- a run that is written over a part as long is stored there
pub put_run : (ns run : List ℕ) (at n : ℕ) → at + length run ≤ length ns → n ≡ length run → put_mid at n ns run ≡ sets ns at run
put_run ns run at n h e =
    rw (drop-drop n at ns, e) (sym (append_assoc (take at ns) run (drop (at + length run) ns))) ∙ sym (sets-eq run ns at h)

-- so many numbers have moved up by one Open, and behind them stands what stood there
abbrev pub moved_up : List ℕ → (count : ℕ) → List ℕ
moved_up ns count = take count (drop numbers_each ns) ++ drop count ns

-- zeros that are written behind what has moved up: what stands behind them is as it was
pub cleared : (ns zeros : List ℕ) (count n used : ℕ) → used ≤ length ns → count + n ≡ used → n ≡ numbers_each
    → put_mid count n (moved_up ns count) zeros ≡ take count (drop numbers_each ns) ++ zeros ++ drop used ns
cleared ns zeros count n used h e six =
    let kept : List ℕ = take count (drop numbers_each ns) in
    let long : length kept ≡ count = length-take-le count (drop numbers_each ns) (rw length-drop (omega arith)) in
    rw (take_at kept (drop count ns) count long, drop_at kept (drop count ns) count long, drop-drop n count ns, e)
    (sym (append_assoc kept zeros (drop used ns)))
