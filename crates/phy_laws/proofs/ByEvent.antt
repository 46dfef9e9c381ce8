-- The one-step law for each event: a line for each of the twelve shapes, in the order P1, P2, P3, P4.
use Prim.Native.Nat.{ℕ, ◌-◌, ◌≤◌}
use mathlib.Core.Bool.{true, false, ◌&&◌, ◌||◌, false≢true}
use mathlib.Core.Path.{◌≡◌, refl}
use native.Mathlib.Omega.{arith}
use borrow.Author.Tests.{leb-true}
use lib.Dec.{eqb, leb}
use Rattle.table.specs.Flags.{off, on, is_flag, is_on}
use Rattle.table.proofs.Laws.{by_test, by_pick, each, parts}
use Rattle.event.specs.Names.{STP, SMP, tx_open, tick, phy_disabled, most_address, most_reject}
use Rattle.event.specs.Table.{argument_range, arguments_known, code_known, known_of, open_of, open_known}
use Rattle.event.specs.declared.Event.{Event}
use Rattle.event.proofs.Ranges.{in_ranges}
use Rattle.phy.specs.Names.{full_timer, answer_open_timeout, answer_break_received, answer_port_layer_request}
use Rattle.phy.specs.Shapes.{with_wait, with_timer, with_waited}
use Rattle.phy.specs.State.{is_no_open, valid_request, valid_of}
use Rattle.phy.specs.Moves.{to_idle, open_by_link, on_tx_open, on_cancel_open, on_close_connection, on_smp_transmit_break, on_accept, on_open_received, on_open_accept, reject_answer, on_open_reject, on_aip, on_break, on_close, on_reset}
use Rattle.phy.specs.Ticks.{longer, waited_of, aged, tick_requesting, tick_closing, tick_breaking, opened_by, accepted, tick_selected, on_tick_aged, on_tick}
use Rattle.phy.specs.Step.{move_of}
use Rattle.phy.specs.declared.Settings.{Settings}
use Rattle.phy.specs.declared.Phy.{Phy}
use Rattle.phy_laws.specs.Waiting.{waits, is_answer}
use Rattle.phy_laws.proofs.Counting.{heard, left}
use Rattle.phy_laws.proofs.Tests.{either, at_number, in_range_lem, in_use_lem}
use Rattle.phy_laws.proofs.Shapes.{Fields, phy_of, Facts, by_shape}
use Rattle.phy_laws.proofs.OneStep.{sets_flag, Stepping, valid_of_lem, settings_valid, still, open_known_lem, protocol_known, longer_known, no_part, longer_counts, timed, at_least_one, timed_down}
use Rattle.phy_laws.proofs.InUse.{asked, runs, inbounds, linked, no_request, no_part_kept}
use Rattle.phy_laws.proofs.Reached.{idle_valid, requesting_valid, waiting_valid, breaking_valid, broken_valid, giving_up_valid, selected_valid, selected_waiting_valid, connected_valid, closing_valid, cutting_valid, cut_valid, counted_valid}

-- an event of a code
abbrev pub event : (code a b c d g h : ℕ) → Event
event code a b c d g h = record { code = code; first = a; second = b; third = c; fourth = d; fifth = g; sixth = h }

-- ---- what a known event says of its arguments

source_known : (a b c d g h : ℕ) → known_of (event 7 a b c d g h) ≡ true → (leb a most_address ≡ true) × (leb b STP ≡ true)
unfolding known_of argument_range
source_known a b c d g h k =
    let q = in_ranges 7 a b c d g h k in
    ((parts (leb 0 a) (leb a most_address) (q 0)).1, (parts (leb 0 b) (leb b STP) (q 1)).1)

reason_known : (a b c d g h : ℕ) → known_of (event 9 a b c d g h) ≡ true → a ≤ most_reject
unfolding known_of argument_range
reason_known a b c d g h k = leb-true a most_reject (parts (leb 0 a) (leb a most_reject) (in_ranges 9 a b c d g h k 0)).1

-- ---- 1, Tx Open: in P1 it is taken, in any other port state refused
on_tx_open_lem : (a b c d g h : ℕ) → known_of (event 1 a b c d g h) ≡ true → (p : Phy) → valid_of p ≡ true → Stepping p (event 1 a b c d g h) (on_tx_open p (event 1 a b c d g h))
unfolding on_tx_open open_by_link left
on_tx_open_lem a b c d g h k =
    let e = event 1 a b c d g h in
    let o : open_known (open_of e) ≡ true = open_known_lem e k refl in
    let n = no_part 2 h in
    let q = still e 3 refl refl (omega arith) in
    by_shape (λ p. Stepping p e (on_tx_open p e))
    (λ f v. record { valid = requesting_valid f.settings v.settings full_timer (open_of e) 0 refl o n; tally = record { silent = refl; none = refl; opens = refl; request = refl; part = refl; soon = omega arith }; flag = refl; reports = refl })
    (λ f v. record { valid = selected_waiting_valid f.settings v.settings (open_of e) 0 f.inboundSource f.inboundProtocol o n (inbounds v).0 (inbounds v).1; tally = record { silent = refl; none = refl; opens = refl; request = refl; part = refl; soon = omega arith }; flag = refl; reports = refl })
    (λ f v. record { valid = waiting_valid f.settings v.settings (open_of e) 0 o n; tally = record { silent = refl; none = refl; opens = refl; request = refl; part = refl; soon = omega arith }; flag = refl; reports = refl })
    (q 1 2 refl) (q 2 2 refl) (q 6 2 refl) (q 3 3 refl) (q 4 3 refl) (q 5 3 refl) (q 6 3 refl) (q 5 4 refl) (q 6 4 refl)

-- ---- 2, Cancel Open: in L1 the request is given up, and waits for the link to be idle
on_cancel_open_lem : (a b c d g h : ℕ) (p : Phy) → valid_of p ≡ true → Stepping p (event 2 a b c d g h) (on_cancel_open p)
unfolding on_cancel_open heard left
on_cancel_open_lem a b c d g h =
    let e = event 2 a b c d g h in
    let q = still e 0 refl refl (omega arith) in
    let n = still e 4 refl refl (omega arith) in
    by_shape (λ p. Stepping p e (on_cancel_open p))
    (n 0 1 refl) (n 2 1 refl) (n 6 1 refl)
    (λ f v. record { valid = giving_up_valid f.settings v.settings f.request answer_port_layer_request (asked refl v) refl; tally = record { silent = refl; none = refl; opens = refl; request = refl; part = λ q. absurd (omega arith); falls = omega arith }; flag = refl; reports = refl })
    (q 2 2 refl) (q 6 2 refl) (n 3 3 refl) (n 4 3 refl) (n 5 3 refl) (n 6 3 refl) (n 5 4 refl) (n 6 4 refl)

-- ---- 3, Close Connection
on_close_connection_lem : (a b c d g h : ℕ) (p : Phy) → valid_of p ≡ true → Stepping p (event 3 a b c d g h) (on_close_connection p)
unfolding on_close_connection
on_close_connection_lem a b c d g h =
    let e = event 3 a b c d g h in
    let n = still e 5 refl refl (omega arith) in
    by_shape (λ p. Stepping p e (on_close_connection p))
    (n 0 1 refl) (n 2 1 refl) (n 6 1 refl) (n 1 2 refl) (n 2 2 refl) (n 6 2 refl)
    (λ f v. by_pick (Stepping (phy_of 3 3 f) e) (is_on f.farClosed)
    (λ t. record { valid = idle_valid f.settings v.settings; tally = record { silent = refl; none = refl; opens = refl }; flag = refl; reports = refl })
    (λ t. record { valid = closing_valid f.settings v.settings f.connectionProtocol (linked v); tally = record { silent = refl; none = refl; opens = refl }; flag = refl; reports = refl }))
    (n 4 3 refl) (n 5 3 refl) (n 6 3 refl) (n 5 4 refl) (n 6 4 refl)

-- ---- 4, SMP Transmit Break
on_smp_transmit_break_lem : (a b c d g h : ℕ) (p : Phy) → valid_of p ≡ true → Stepping p (event 4 a b c d g h) (on_smp_transmit_break p)
unfolding on_smp_transmit_break
on_smp_transmit_break_lem a b c d g h =
    let e = event 4 a b c d g h in
    let n = still e 5 refl refl (omega arith) in
    by_shape (λ p. Stepping p e (on_smp_transmit_break p))
    (n 0 1 refl) (n 2 1 refl) (n 6 1 refl) (n 1 2 refl) (n 2 2 refl) (n 6 2 refl)
    (λ f v. by_pick (Stepping (phy_of 3 3 f) e) (eqb f.connectionProtocol SMP)
    (λ t. record { valid = cutting_valid f.settings v.settings f.connectionProtocol (linked v); tally = record { silent = refl; none = refl; opens = refl }; flag = refl; reports = refl })
    (λ t. still e 6 refl refl (omega arith) 3 3 refl f v))
    (n 4 3 refl) (n 5 3 refl) (n 6 3 refl) (n 5 4 refl) (n 6 4 refl)

-- ---- 7, OPEN received: in L0 and L1
on_open_received_lem : (a b c d g h : ℕ) → known_of (event 7 a b c d g h) ≡ true → (p : Phy) → valid_of p ≡ true → Stepping p (event 7 a b c d g h) (on_open_received p (event 7 a b c d g h))
unfolding on_open_received heard left
on_open_received_lem a b c d g h k =
    let e = event 7 a b c d g h in
    let w = source_known a b c d g h k in
    let q = still e 0 refl refl (omega arith) in
    by_shape (λ p. Stepping p e (on_open_received p e))
    (λ f v. record { valid = rw (no_request v, no_part_kept v) (selected_valid f.settings v.settings a b w.0 w.1); tally = record { silent = refl; none = refl; opens = refl }; flag = refl; reports = refl })
    (q 2 1 refl) (q 6 1 refl)
    (λ f v. record { valid = selected_waiting_valid f.settings v.settings f.request f.part a b (asked refl v) v.part w.0 w.1; tally = record { silent = refl; none = refl; opens = refl; request = refl; part = λ _. (refl, refl); falls = omega arith }; flag = refl; reports = refl })
    (q 2 2 refl) (q 6 2 refl) (q 3 3 refl) (q 4 3 refl) (q 5 3 refl) (q 6 3 refl) (q 5 4 refl) (q 6 4 refl)

-- ---- 8, OPEN_ACCEPT: in L1 the request is answered
on_open_accept_lem : (a b c d g h : ℕ) (p : Phy) → valid_of p ≡ true → Stepping p (event 8 a b c d g h) (on_open_accept p)
unfolding on_open_accept heard
on_open_accept_lem a b c d g h =
    let e = event 8 a b c d g h in
    let q = still e 0 refl refl (omega arith) in
    by_shape (λ p. Stepping p e (on_open_accept p))
    (q 0 1 refl) (q 2 1 refl) (q 6 1 refl)
    (λ f v. record { valid = connected_valid f.settings v.settings f.request.protocol off refl (protocol_known f.request (asked refl v)); tally = record { code = refl; carries = refl; opens = refl }; flag = refl; reports = refl })
    (q 2 2 refl) (q 6 2 refl) (q 3 3 refl) (q 4 3 refl) (q 5 3 refl) (q 6 3 refl) (q 5 4 refl) (q 6 4 refl)

-- ---- 5 and 6, Accept Opens and Reject Opens: the flag alone changes
on_accept_lem : (code a b c d g h : ℕ) (flag : ℕ) → is_flag flag ≡ true → eqb code tick ≡ false → eqb code tx_open ≡ false → sets_flag code ≡ true → (p : Phy) → valid_of p ≡ true → Stepping p (event code a b c d g h) (on_accept p flag)
unfolding on_accept heard left valid_of
on_accept_lem code a b c d g h flag good other opens sets p v =
    record {
      valid = settings_valid p (record { accept = flag }) good v;
      tally =
          by_test (waits p.port)
          (λ t. rw t (record { silent = refl; none = refl; opens = rw opens; request = rw other; part = λ q. (q, rw other); falls = rw other (omega arith) }))
          (λ f. rw f (record { silent = refl; none = refl; opens = rw opens }));
      flag = rw sets tt;
      reports = refl;
    }

-- ---- the kept reason is one of the answers
timeout_or_request : (reason : ℕ) → eqb reason answer_open_timeout || eqb reason answer_port_layer_request ≡ true → is_answer reason ≡ true
timeout_or_request reason e =
    either (eqb reason answer_open_timeout) (eqb reason answer_port_layer_request) e
    (λ t. at_number (λ n. is_answer n ≡ true) reason answer_open_timeout t refl)
    (λ t. at_number (λ n. is_answer n ≡ true) reason answer_port_layer_request t refl)

reason5 : {f : Fields} → Facts 5 4 f → is_answer f.reason ≡ true
reason5 {f} v =
    timeout_or_request f.reason (in_range_lem (eqb f.reason answer_open_timeout || eqb f.reason answer_port_layer_request) (eqb f.reason 0) v.reason)

reason6 : {f : Fields} → Facts 6 4 f → is_answer f.reason ≡ true
reason6 {f} v =
    either (eqb f.reason answer_break_received) false (in_range_lem (eqb f.reason answer_break_received || false) (eqb f.reason 0) v.reason)
    (λ t. at_number (λ n. is_answer n ≡ true) f.reason answer_break_received t refl)
    (λ t. absurd (false≢true t))

-- ---- 9, OPEN_REJECT: in L1 the request is answered by the reason, in L5 the link is idle
rejects : (reason : ℕ) → reason ≤ most_reject → is_answer (reject_answer reason) ≡ true
unfolding reject_answer
rejects reason h = each (λ n. is_answer (reject_answer n) ≡ true) 8 ((((((((tt, refl), refl), refl), refl), refl), refl), refl), refl) reason (omega arith)

on_open_reject_lem : (a b c d g h : ℕ) → known_of (event 9 a b c d g h) ≡ true → (p : Phy) → valid_of p ≡ true → Stepping p (event 9 a b c d g h) (on_open_reject p (event 9 a b c d g h))
unfolding on_open_reject to_idle heard
on_open_reject_lem a b c d g h k =
    let e = event 9 a b c d g h in
    let q = still e 0 refl refl (omega arith) in
    by_shape (λ p. Stepping p e (on_open_reject p e))
    (q 0 1 refl) (q 2 1 refl) (q 6 1 refl)
    (λ f v. record { valid = idle_valid f.settings v.settings; tally = record { code = rejects a (reason_known a b c d g h k); carries = refl; opens = refl }; flag = refl; reports = refl })
    (q 2 2 refl) (q 6 2 refl) (q 3 3 refl) (q 4 3 refl)
    (λ f v. record { valid = idle_valid f.settings v.settings; tally = record { silent = refl; none = refl; opens = refl }; flag = refl; reports = refl })
    (q 6 3 refl)
    (λ f v. record { valid = idle_valid f.settings v.settings; tally = record { code = reason5 v; carries = refl; opens = refl }; flag = refl; reports = refl })
    (q 6 4 refl)

-- ---- 10, AIP: in L1 the timer starts anew
on_aip_lem : (a b c d g h : ℕ) (p : Phy) → valid_of p ≡ true → Stepping p (event 10 a b c d g h) (on_aip p)
unfolding on_aip heard left
on_aip_lem a b c d g h =
    let e = event 10 a b c d g h in
    let q = still e 0 refl refl (omega arith) in
    by_shape (λ p. Stepping p e (on_aip p))
    (q 0 1 refl) (q 2 1 refl) (q 6 1 refl)
    (λ f v. record { valid = counted_valid 1 2 f full_timer refl refl v; tally = record { silent = refl; none = refl; opens = refl; request = refl; part = λ _. (refl, refl); falls = omega (arith, at_least_one f.timer (runs refl v)) }; flag = refl; reports = refl })
    (q 2 2 refl) (q 6 2 refl) (q 3 3 refl) (q 4 3 refl) (q 5 3 refl) (q 6 3 refl) (q 5 4 refl) (q 6 4 refl)

-- ---- 11, BREAK
on_break_lem : (a b c d g h : ℕ) (p : Phy) → valid_of p ≡ true → Stepping p (event 11 a b c d g h) (on_break p)
unfolding on_break to_idle heard left
on_break_lem a b c d g h =
    let e = event 11 a b c d g h in
    let q = still e 0 refl refl (omega arith) in
    by_shape (λ p. Stepping p e (on_break p))
    (q 0 1 refl)
    (λ f v. record { valid = rw (no_request v, no_part_kept v) (breaking_valid f.settings v.settings); tally = record { silent = refl; none = refl; opens = refl }; flag = refl; reports = refl })
    (q 6 1 refl)
    (λ f v. record { valid = broken_valid f.settings v.settings f.request (asked refl v); tally = record { silent = refl; none = refl; opens = refl; request = refl; part = λ q. absurd (omega arith); falls = omega arith }; flag = refl; reports = refl })
    (λ f v. record { valid = waiting_valid f.settings v.settings f.request f.part (asked refl v) v.part; tally = record { silent = refl; none = refl; opens = refl; request = refl; part = λ _. (refl, refl); falls = omega arith }; flag = refl; reports = refl })
    (q 6 2 refl)
    (λ f v. record { valid = cut_valid f.settings v.settings f.connectionProtocol (linked v); tally = record { silent = refl; none = refl; opens = refl }; flag = refl; reports = refl })
    (λ f v. record { valid = cut_valid f.settings v.settings f.connectionProtocol (linked v); tally = record { silent = refl; none = refl; opens = refl }; flag = refl; reports = refl })
    (λ f v. record { valid = idle_valid f.settings v.settings; tally = record { silent = refl; none = refl; opens = refl }; flag = refl; reports = refl })
    (q 6 3 refl)
    (λ f v. record { valid = idle_valid f.settings v.settings; tally = record { code = reason5 v; carries = refl; opens = refl }; flag = refl; reports = refl })
    (q 6 4 refl)

-- ---- 12, CLOSE
on_close_lem : (a b c d g h : ℕ) (p : Phy) → valid_of p ≡ true → Stepping p (event 12 a b c d g h) (on_close p)
unfolding on_close
on_close_lem a b c d g h =
    let e = event 12 a b c d g h in
    let q = still e 0 refl refl (omega arith) in
    by_shape (λ p. Stepping p e (on_close p))
    (q 0 1 refl) (q 2 1 refl) (q 6 1 refl) (q 1 2 refl) (q 2 2 refl) (q 6 2 refl)
    (λ f v. record { valid = connected_valid f.settings v.settings f.connectionProtocol on refl (linked v); tally = record { silent = refl; none = refl; opens = refl }; flag = refl; reports = refl })
    (λ f v. record { valid = idle_valid f.settings v.settings; tally = record { silent = refl; none = refl; opens = refl }; flag = refl; reports = refl })
    (q 5 3 refl) (q 6 3 refl) (q 5 4 refl) (q 6 4 refl)

-- ---- 14 and 15, HARD_RESET and Phy Disabled
on_reset_lem : (code a b c d g h : ℕ) → eqb code tick ≡ false → eqb code tx_open ≡ false → sets_flag code ≡ true → (p : Phy) → valid_of p ≡ true → Stepping p (event code a b c d g h) (on_reset p)
unfolding on_reset heard
on_reset_lem code a b c d g h other opens sets =
    let e = event code a b c d g h in
    let s : Settings = record { accept = off } in
    let P : Phy → Type 0 = λ p. Stepping p e (on_reset p) in
    let one : (link : ℕ) (f : Fields) → Facts link 1 f → P (phy_of link 1 f) = λ link f v. record { valid = idle_valid s refl; tally = record { silent = refl; none = refl; opens = rw opens }; flag = rw sets tt; reports = refl } in
    let two : (link : ℕ) (f : Fields) → Facts link 2 f → P (phy_of link 2 f) = λ link f v. record { valid = idle_valid s refl; tally = record { code = refl; carries = rw other; opens = rw opens }; flag = rw sets tt; reports = refl } in
    let three : (link : ℕ) (f : Fields) → Facts link 3 f → P (phy_of link 3 f) = λ link f v. record { valid = idle_valid s refl; tally = record { silent = refl; none = refl; opens = rw opens }; flag = rw sets tt; reports = refl } in
    let four : (link : ℕ) (f : Fields) → Facts link 4 f → P (phy_of link 4 f) = λ link f v. record { valid = idle_valid s refl; tally = record { code = refl; carries = rw other; opens = rw opens }; flag = rw sets tt; reports = refl } in
    by_shape P (one 0) (one 2) (one 6) (two 1) (two 2) (two 6) (three 3) (three 4) (three 5) (three 6) (four 5) (four 6)

-- ---- 13, tick

-- the far end's OPEN is taken: who opened tells the answer
opener : (source destination : ℕ) → is_answer (opened_by source destination) ≡ true
unfolding opened_by
opener source destination = by_pick (λ n. is_answer n ≡ true) (eqb source destination) (λ t. refl) (λ f. refl)

-- a timer that falls by one still runs
falling : (t : ℕ) → timed t ≡ true → leb t 1 ≡ false → timed (t - 1) || (false && eqb (t - 1) 0) ≡ true
falling t h f = rw (timed_down t h f)

-- the same phy in L1 with its request grown and its timer one less
waited_valid : (f : Fields) (t : ℕ) → timed t ≡ true → Facts 1 2 f → valid_of (with_timer (with_waited (phy_of 1 2 f) (longer (waited_of (phy_of 1 2 f)))) t) ≡ true
unfolding valid_request
waited_valid f t ht v =
    let w = longer (waited_of (phy_of 1 2 f)) in
    let o = with_wait f.request w.wait in
    valid_of_lem 1 2
    (record { timer = t; request = o; part = w.part; reason = f.reason; inboundSource = f.inboundSource; inboundProtocol = f.inboundProtocol; connectionProtocol = f.connectionProtocol; farClosed = f.farClosed; settings = f.settings })
    refl (record { timer = in_use_lem (timed t) (eqb t 0) ht; request = in_use_lem (open_known o) (is_no_open o) (longer_known f.request f.part (asked refl v)); part = longer_counts (waited_of (phy_of 1 2 f)) v.part; reason = v.reason; inboundProtocol = v.inboundProtocol; connectionProtocol = v.connectionProtocol; farClosed = v.farClosed; settings = v.settings })

-- in L1 the request has waited longer, and the timer runs on or is over
tick_requesting_lem : (a b c d g h : ℕ) (f : Fields) → Facts 1 2 f → Stepping (phy_of 1 2 f) (event 13 a b c d g h) (on_tick (phy_of 1 2 f))
unfolding on_tick on_tick_aged aged tick_requesting heard left
tick_requesting_lem a b c d g h f v =
    let t = runs refl v in
    by_pick (Stepping (phy_of 1 2 f) (event 13 a b c d g h)) (leb f.timer 1)
    (λ o. record { valid = giving_up_valid f.settings v.settings (with_wait f.request (longer (waited_of (phy_of 1 2 f))).wait) answer_open_timeout (longer_known f.request f.part (asked refl v)) refl; tally = record { silent = refl; none = refl; opens = refl; request = refl; part = λ q. absurd (omega arith); falls = omega (arith, at_least_one f.timer t) }; flag = refl; reports = refl })
    (λ u. record { valid = waited_valid f (f.timer - 1) (timed_down f.timer t u) v; tally = record { silent = refl; none = refl; opens = refl; request = refl; part = λ _. (refl, refl); falls = omega (arith, at_least_one f.timer t) }; flag = refl; reports = refl })

on_tick_lem : (a b c d g h : ℕ) (p : Phy) → valid_of p ≡ true → Stepping p (event 13 a b c d g h) (on_tick p)
unfolding on_tick on_tick_aged aged tick_closing tick_breaking tick_selected accepted to_idle heard left
on_tick_lem a b c d g h =
    let e = event 13 a b c d g h in
    let P : Phy → Type 0 = λ p. Stepping p e (on_tick p) in
    by_shape P
    (λ f v. record { valid = valid_of_lem 0 1 f refl v; tally = record { silent = refl; none = refl; opens = refl }; flag = refl; reports = refl })
    (λ f v. by_pick (Stepping (phy_of 2 1 f) e) (is_on f.settings.accept)
    (λ _. record { valid = connected_valid f.settings v.settings f.inboundProtocol off refl (inbounds v).1; tally = record { silent = refl; none = refl; opens = refl }; flag = refl; reports = refl })
    (λ _. record { valid = idle_valid f.settings v.settings; tally = record { silent = refl; none = refl; opens = refl }; flag = refl; reports = refl }))
    (λ f v. record { valid = idle_valid f.settings v.settings; tally = record { silent = refl; none = refl; opens = refl }; flag = refl; reports = refl })
    (λ f v. tick_requesting_lem a b c d g h f v)
    (λ f v. by_pick (Stepping (phy_of 2 2 f) e) (is_on f.settings.accept)
    (λ _. record { valid = connected_valid f.settings v.settings f.inboundProtocol off refl (inbounds v).1; tally = record { code = opener f.inboundSource f.request.destination; carries = refl; opens = refl }; flag = refl; reports = refl })
    (λ _. record { valid = idle_valid f.settings v.settings; tally = record { code = refl; carries = refl; opens = refl }; flag = refl; reports = refl }))
    (λ f v. record { valid = idle_valid f.settings v.settings; tally = record { code = refl; carries = refl; opens = refl }; flag = refl; reports = refl })
    (λ f v. record { valid = valid_of_lem 3 3 f refl v; tally = record { silent = refl; none = refl; opens = refl }; flag = refl; reports = refl })
    (λ f v. by_pick (Stepping (phy_of 4 3 f) e) (leb f.timer 1)
    (λ _. record { valid = cutting_valid f.settings v.settings f.connectionProtocol (linked v); tally = record { silent = refl; none = refl; opens = refl }; flag = refl; reports = refl })
    (λ u. record { valid = counted_valid 4 3 f (f.timer - 1) refl (falling f.timer (runs refl v) u) v; tally = record { silent = refl; none = refl; opens = refl }; flag = refl; reports = refl }))
    (λ f v. by_pick (Stepping (phy_of 5 3 f) e) (leb f.timer 1)
    (λ _. record { valid = idle_valid f.settings v.settings; tally = record { silent = refl; none = refl; opens = refl }; flag = refl; reports = refl })
    (λ u. record { valid = counted_valid 5 3 f (f.timer - 1) refl (falling f.timer (runs refl v) u) v; tally = record { silent = refl; none = refl; opens = refl }; flag = refl; reports = refl }))
    (λ f v. record { valid = idle_valid f.settings v.settings; tally = record { silent = refl; none = refl; opens = refl }; flag = refl; reports = refl })
    (λ f v. by_pick (Stepping (phy_of 5 4 f) e) (leb f.timer 1)
    (λ _. record { valid = idle_valid f.settings v.settings; tally = record { code = reason5 v; carries = refl; opens = refl }; flag = refl; reports = refl })
    (λ u. record { valid = counted_valid 5 4 f (f.timer - 1) refl (falling f.timer (runs refl v) u) v; tally = record { silent = refl; none = refl; opens = refl; request = refl; part = λ q. absurd (omega arith); falls = omega (arith, at_least_one f.timer (runs refl v)) }; flag = refl; reports = refl }))
    (λ f v. record { valid = idle_valid f.settings v.settings; tally = record { code = reason6 v; carries = refl; opens = refl }; flag = refl; reports = refl })

-- ---- any known event

pub by_code :
    (R : ℕ → Type 0) → R 1 → R 2 → R 3 → R 4 → R 5 → R 6 → R 7 → R 8 → R 9 → R 10 → R 11 → R 12 → R 13 → R 14 → R 15
    → (code : ℕ) → code_known code ≡ true → R code
by_code R a b c d e f g h i j k l m n o code v =
    let q = parts (leb tx_open code) (leb code phy_disabled) v in
    each (λ n. 1 ≤ n → R n) 16
    ((((((((((((((((tt, λ l. absurd (omega arith)), λ _. a), λ _. b), λ _. c), λ _. d), λ _. e), λ _. f), λ _. g), λ _. h), λ _. i), λ _. j), λ _. k), λ _. l), λ _. m), λ _. n), λ _. o)
    code (omega (arith, leb-true code phy_disabled q.1)) (leb-true tx_open code q.0)

pub code_known_lem : (e : Event) → known_of e ≡ true → code_known e.code ≡ true
unfolding known_of
code_known_lem e k = (parts (code_known e.code) (arguments_known e.code e.first e.second e.third e.fourth e.fifth e.sixth) k).0

-- the one-step law: a valid phy and a known event
pub one_step : (p : Phy) (e : Event) → valid_of p ≡ true → known_of e ≡ true → Stepping p e (move_of p e)
unfolding move_of
one_step p e v =
    let a = e.first in
    let b = e.second in
    let c = e.third in
    let d = e.fourth in
    let g = e.fifth in
    let h = e.sixth in
    λ k. by_code (λ code. known_of (event code a b c d g h) ≡ true → Stepping p (event code a b c d g h) (move_of p (event code a b c d g h)))
    (λ k. on_tx_open_lem a b c d g h k p v)
    (λ k. on_cancel_open_lem a b c d g h p v)
    (λ k. on_close_connection_lem a b c d g h p v)
    (λ k. on_smp_transmit_break_lem a b c d g h p v)
    (λ k. on_accept_lem 5 a b c d g h on refl refl refl refl p v)
    (λ k. on_accept_lem 6 a b c d g h off refl refl refl refl p v)
    (λ k. on_open_received_lem a b c d g h k p v)
    (λ k. on_open_accept_lem a b c d g h p v)
    (λ k. on_open_reject_lem a b c d g h k p v)
    (λ k. on_aip_lem a b c d g h p v)
    (λ k. on_break_lem a b c d g h p v)
    (λ k. on_close_lem a b c d g h p v)
    (λ k. on_tick_lem a b c d g h p v)
    (λ k. on_reset_lem 14 a b c d g h refl refl refl p v)
    (λ k. on_reset_lem 15 a b c d g h refl refl refl p v)
    e.code (code_known_lem e k) k
