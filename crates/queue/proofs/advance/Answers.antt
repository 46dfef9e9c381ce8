-- `queue::advance` meets its contract: its test is the definition's, and the zeros are stored behind what has moved up.
use Rattle.std.proofs.Common.{◌≤◌, ℕ, zero-add, rules, ◌*◌, ◌-◌, ◌≡◌, length, replicate, arith}
use borrow.Author.Tests.{tests}
use Rattle.queue.specs.Lent.{advanced}
use Rattle.queue.proofs.Places.{moved_up, cleared}
use Rattle.queue.proofs.advance.Goals as goal

pub returns-then-waiting-queue : goal.returns-then-waiting-queue
unfolding advanced
returns-then-waiting-queue c =
    let a = c.args in
    let count : ℕ = 6 * a.waiting - 6 in
    let some : 1 ≤ a.waiting = search (rules, tests) in
    let few : a.waiting ≤ 32 = search (rules, tests) in
    let long : length a.queue.now ≡ 192 = search (rules, tests) in
    let n : 6 * (a.waiting - 1) ≡ count = omega arith in
    let zeros : c.fill.new.self ≡ replicate 6 0 = search rules in
    let moved : c.copy_within.new.self ≡ moved_up a.queue.now count = simp zero-add at c.copy_within.ensures.after in
    rw (c.if-waiting-queue.true, moved, zeros, n)
    (cleared a.queue.now (replicate 6 0) count _ (6 * a.waiting) (omega arith) (omega arith) (omega arith))
