-- `take_all` ends: each turn leaves fewer, and what is ahead lies in the window.
use Rattle.std.proofs.Common.{◌≤◌, length}
use Rattle.casefile.proofs.cases.take_all.Given as goal

abbrev pub invariant-loop-turn : goal.invariant-loop-turn
invariant-loop-turn g l = l.turn.ahead.to ≤ length l.window

abbrev pub decreases-loop-turn : goal.decreases-loop-turn
decreases-loop-turn g l = l.turn.left
