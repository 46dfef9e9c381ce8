-- Where each event takes a state that has no outcome: to another without one, reporting nothing or Failed, or to one whose outcome it reports.
use Prim.Native.Nat.{ℕ, ◌+◌, ◌-◌, ◌<◌}
use mathlib.Core.Bool.{Bool, true, false, or-true}
use mathlib.Core.Path.{◌≡◌, refl}
use native.Mathlib.Omega.{arith}
use borrow.Author.Tests.{le-leb, leb-false, eqb-false, ne_eqb}
use lib.Dec.{eqb, leb}
use Rattle.table.specs.Choice.{pick, rows}
use Rattle.table.specs.Flags.{flag_of}
use Rattle.table.proofs.Laws.{along, by_test, every}
use Rattle.identify.specs.Names.{receiving, completed, none, failed, frame_dwords}
use Rattle.identify.specs.Step.{fresh, reports, quiet, exchanged, on_soaf, says_identify, counted, on_data_dword, whole, frame_ends, on_eoaf, on_hard_reset, on_own_frame_sent, on_tick, moves}
use Rattle.identify.specs.declared.Identification.{Identification}
use Rattle.identify.specs.declared.Stepped.{Stepped}
use Rattle.identify.proofs.Shapes.{state, Place, at_idle, in_frame, at_spoiled, at_completed, Clock, unsent, runs, Going, awaits, holds, Ended, joined, late, was_reset}

pub data Lands : Stepped → Type 0 where
  stays : {i : Identification} {report : ℕ} → Going i → leb report failed ≡ true → Lands (reports i report)
  finishes : {i : Identification} → Ended i → Lands (reports i i.outcome)

-- ---- each event

pub fresh_going : Going fresh
fresh_going = awaits at_idle unsent

still : {i : Identification} → Going i → Lands (quiet i)
still g = stays g refl

begun : {t : ℕ} {sent : Bool} → Clock t sent → Going (state receiving 0 t none false false sent)
begun k = awaits (in_frame {n = 0} {typed = false} refl refl) k

soaf_lands : {i : Identification} → Going i → Lands (on_soaf i)
unfolding on_soaf
soaf_lands (awaits at_idle k) = still (begun k)
soaf_lands (awaits (in_frame l h) k) = stays (begun k) refl
soaf_lands (awaits at_spoiled k) = still (begun k)
soaf_lands (awaits at_completed k) = still (awaits at_completed k)
soaf_lands holds = still holds

-- one dword more, of either type
one_more : (n : ℕ) (typed : Bool) → n < frame_dwords → Place receiving (n + 1) typed
one_more n typed h = in_frame {n = n + 1} {typed = typed} (rw (le-leb 1 (n + 1) (omega arith), or-true)) (le-leb (n + 1) frame_dwords (omega arith))

counted_lands : (n t dword : ℕ) (typed sent : Bool) → Clock t sent → Lands (counted (state receiving n t none typed false sent) dword)
unfolding counted
counted_lands n t dword typed sent k =
    by_test (leb frame_dwords n)
    (λ e. rw e (stays (awaits at_spoiled k) refl))
    (λ e. rw (e, ← along flag_of (eqb n 0) (says_identify dword) typed)
    (still (awaits (one_more n (pick (eqb n 0) (says_identify dword) typed) (leb-false frame_dwords n e)) k)))

dword_lands : {i : Identification} (dword : ℕ) → Going i → Lands (on_data_dword i dword)
unfolding on_data_dword
dword_lands dword (awaits at_idle k) = still (awaits at_idle k)
dword_lands dword (awaits (in_frame {typed = typed} l h) k) = counted_lands _ _ dword typed _ k
dword_lands dword (awaits at_spoiled k) = still (awaits at_spoiled k)
dword_lands dword (awaits at_completed k) = still (awaits at_completed k)
dword_lands dword holds = still holds

got_lands : {t : ℕ} {sent : Bool} → Clock t sent → Lands (exchanged (state completed 0 t none false true sent))
unfolding exchanged
got_lands unsent = still holds
got_lands (runs a b) = finishes joined

frame_lands : (n t crc : ℕ) (typed sent : Bool) → Clock t sent → Lands (frame_ends (state receiving n t none typed false sent) crc)
unfolding frame_ends
frame_lands n t crc typed sent k =
    by_test (whole (state receiving n t none typed false sent) crc)
    (λ e. rw e (got_lands k))
    (λ e. rw e (stays (awaits at_completed k) refl))

eoaf_lands : {i : Identification} (crc : ℕ) → Going i → Lands (on_eoaf i crc)
unfolding on_eoaf
eoaf_lands crc (awaits at_idle k) = still (awaits at_idle k)
eoaf_lands crc (awaits (in_frame {typed = typed} l h) k) = frame_lands _ _ crc typed _ k
eoaf_lands crc (awaits at_spoiled k) = still (awaits at_completed k)
eoaf_lands crc (awaits at_completed k) = still (awaits at_completed k)
eoaf_lands crc holds = still holds

reset_lands : {i : Identification} → Going i → Lands (on_hard_reset i)
unfolding on_hard_reset
reset_lands (awaits at_idle k) = finishes (was_reset at_idle refl k)
reset_lands (awaits (in_frame {typed = typed} l h) k) = still (awaits (in_frame {typed = typed} l h) k)
reset_lands (awaits at_spoiled k) = still (awaits at_spoiled k)
reset_lands (awaits at_completed k) = finishes (was_reset at_completed refl k)
reset_lands holds = still holds

sent_lands : {i : Identification} → Going i → Lands (on_own_frame_sent i)
unfolding on_own_frame_sent exchanged
sent_lands (awaits p unsent) = still (awaits p (runs (omega arith) (omega arith)))
sent_lands (awaits p (runs a b)) = still (awaits p (runs a b))
sent_lands holds = finishes joined

tick_lands : {i : Identification} → Going i → Lands (on_tick i)
unfolding on_tick
tick_lands (awaits p unsent) = still (awaits p unsent)
tick_lands (awaits {t = t} p (runs a b)) =
    rw (ne_eqb t 0 (λ e. omega arith))
    (by_test (eqb (t - 1) 0)
    (λ e. rw e (finishes (late p)))
    (λ e. rw e (still (awaits p (runs (omega (arith, eqb-false (t - 1) 0 e)) (omega arith))))))
tick_lands holds = still holds

-- ---- the table of events

pub table_lands : {i : Identification} (event argument : ℕ) → Going i → Lands (rows event (moves i argument) (quiet i))
table_lands {i} event argument g =
    every Lands event (moves i argument)
    (soaf_lands g, (dword_lands argument g, (eoaf_lands argument g, (reset_lands g, (still g, (sent_lands g, (tick_lands g, (still fresh_going, tt))))))))
    (still g)
