-- The request's own examples, each by the law that says exactly when its refusal is given.
use Prim.Native.Nat.{ℕ, ◌≤◌}
use mathlib.Core.Bool.{true}
use mathlib.Core.Logic.{inl, inr}
use mathlib.Core.Path.{◌≡◌, refl}
use native.Mathlib.Omega.{arith}
use lib.ListN.{length}
use Rattle.event.specs.Names.{cancel_open}
use Rattle.event.specs.Table.{argument_range, arguments_known, known_of, known_in_trace}
use Rattle.event.specs.declared.Event.{Event}
use Rattle.event.proofs.InTrace.{phys}
use Rattle.ledger.specs.Demand.{plain}
use Rattle.port.specs.Names.{the_port}
use Rattle.port.specs.State.{Port, valid_of}
use Rattle.port_laws.specs.Laws.{refusal_of, AtPort, Examples}
use Rattle.port_laws.proofs.Refusals.{bad_event_exactly, no_such_phy_exactly, queue_full_exactly, not_refused_exactly}

cancel_known : known_in_trace (plain cancel_open) ≡ true
unfolding known_in_trace arguments_known argument_range
cancel_known = refl

module _ (limit : ℕ) (p : Port) (v : valid_of limit p ≡ true) where
  -- no phy has the number
  none : (number : ℕ) → (number ≡ the_port → ⊥) → length p.bays ≤ number → refusal_of limit p number (plain cancel_open) ≡ 12
  none number n l = (no_such_phy_exactly limit p number (plain cancel_open)).1 (record { valid = v; known = cancel_known }, n, l)

  -- an event to the port that is no Tx Open
  only_opens : (e : Event) → (e.code ≡ 1 → ⊥) → refusal_of limit p 127 e ≡ 2
  only_opens e n = (bad_event_exactly limit p 127 e).1 (v, inr (refl, n))

  at_port : (e : Event) → known_of e ≡ true → e.code ≡ 1 → AtPort limit p 127 e
  at_port e k c = record { judged = record { valid = v; known = phys e k }; ports = refl; opens = c }

pub examples : Examples
examples limit p v few =
    record {
      unknown_to_200 = λ e k. (bad_event_exactly limit p 200 e).1 (v, inl k);
      cancel_to_200 = none limit p v 200 (λ z. omega arith) (omega arith);
      cancel_to_126 = none limit p v 126 (λ z. omega arith) (omega arith);
      cancel_to_the_last = none limit p v _ (λ z. omega arith) (omega arith);
      cancel_to_127 = only_opens limit p v (plain cancel_open) (λ z. omega arith);
      stamp_to_127 = λ counter. only_opens limit p v _ (λ z. omega arith);
      full_at_32 = λ e k c q. (queue_full_exactly limit p 127 e).1 (at_port limit p v e k c, q);
      room_at_31 = λ e k c q. (not_refused_exactly limit p 127 e).1 (inl (at_port limit p v e k c, omega (arith, q)));
    }
