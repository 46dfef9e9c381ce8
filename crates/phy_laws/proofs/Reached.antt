-- The shapes that moves lead to are valid: each field in use is in its range, and the others are zero.
use Prim.Native.Nat.{ℕ}
use mathlib.Core.Bool.{true, ◌||◌}
use mathlib.Core.Path.{◌≡◌}
use lib.Dec.{eqb, leb}
use Rattle.table.specs.Flags.{off, is_flag}
use Rattle.event.specs.Names.{STP, most_address}
use Rattle.event.specs.Table.{open_known}
use Rattle.event.specs.declared.Open.{Open}
use Rattle.phy.specs.Names.{full_timer, answer_open_timeout, answer_break_received, answer_port_layer_request}
use Rattle.phy.specs.Shapes.{no_open, idle, requesting, given_up, selected, connected, with_timer}
use Rattle.phy.specs.State.{valid_pair, valid_timer, valid_request, valid_part, valid_inbound, valid_settings, valid_of}
use Rattle.phy.specs.declared.Settings.{Settings}
use Rattle.phy_laws.proofs.Shapes.{Fields, phy_of, Facts}
use Rattle.phy_laws.proofs.OneStep.{valid_of_lem, timed}

-- whatever its settings, if they are valid
module _ (s : Settings) (set : valid_settings s ≡ true) where
  pub idle_valid : valid_of (idle s) ≡ true
  unfolding valid_of valid_request valid_inbound
  idle_valid = rw set

  pub requesting_valid : (t : ℕ) (o : Open) (part : ℕ) → timed t ≡ true → open_known o ≡ true → valid_part 2 o.wait part ≡ true → valid_of (requesting s 1 2 t o part) ≡ true
  unfolding valid_of valid_request valid_inbound
  requesting_valid t o part ht ho hp = rw (ht, ho, hp, set)

  pub waiting_valid : (o : Open) (part : ℕ) → open_known o ≡ true → valid_part 2 o.wait part ≡ true → valid_of (requesting s 6 2 0 o part) ≡ true
  unfolding valid_of valid_request valid_inbound
  waiting_valid o part ho hp = rw (ho, hp, set)

  pub breaking_valid : valid_of (requesting s 6 1 0 no_open 0) ≡ true
  unfolding valid_of valid_request valid_inbound
  breaking_valid = rw set

  pub broken_valid : (o : Open) → open_known o ≡ true → valid_of (given_up s 6 0 o answer_break_received) ≡ true
  unfolding valid_of valid_request valid_inbound
  broken_valid o ho = rw (ho, set)

  pub giving_up_valid : (o : Open) (reason : ℕ) → open_known o ≡ true → eqb reason answer_open_timeout || eqb reason answer_port_layer_request ≡ true → valid_of (given_up s 5 full_timer o reason) ≡ true
  unfolding valid_of valid_request valid_inbound
  giving_up_valid o reason ho hr = rw (ho, hr, set)

  pub selected_valid : (source protocol : ℕ) → leb source most_address ≡ true → leb protocol STP ≡ true → valid_of (selected s 1 no_open 0 source protocol) ≡ true
  unfolding valid_of valid_request valid_inbound
  selected_valid source protocol hs hi = rw (hs, hi, set)

  pub selected_waiting_valid : (o : Open) (part source protocol : ℕ) → open_known o ≡ true → valid_part 2 o.wait part ≡ true → leb source most_address ≡ true → leb protocol STP ≡ true → valid_of (selected s 2 o part source protocol) ≡ true
  unfolding valid_of valid_request valid_inbound
  selected_waiting_valid o part source protocol ho hp hs hi = rw (ho, hp, hs, hi, set)

  pub connected_valid : (c farClosed : ℕ) → is_flag farClosed ≡ true → leb c STP ≡ true → valid_of (connected s 3 0 c farClosed) ≡ true
  unfolding valid_of valid_request valid_inbound
  connected_valid c farClosed hf hc = rw (hf, hc, set)

  pub closing_valid : (c : ℕ) → leb c STP ≡ true → valid_of (connected s 4 full_timer c off) ≡ true
  unfolding valid_of valid_request valid_inbound
  closing_valid c hc = rw (hc, set)

  pub cutting_valid : (c : ℕ) → leb c STP ≡ true → valid_of (connected s 5 full_timer c off) ≡ true
  unfolding valid_of valid_request valid_inbound
  cutting_valid c hc = rw (hc, set)

  pub cut_valid : (c : ℕ) → leb c STP ≡ true → valid_of (connected s 6 0 c off) ≡ true
  unfolding valid_of valid_request valid_inbound
  cut_valid c hc = rw (hc, set)

-- the same phy with another timer that its link allows
pub counted_valid : (link port : ℕ) (f : Fields) (t : ℕ) → valid_pair link port ≡ true → valid_timer link t ≡ true → Facts link port f → valid_of (with_timer (phy_of link port f) t) ≡ true
counted_valid link port f t v ht h =
    valid_of_lem link port
    (record { timer = t; request = f.request; part = f.part; reason = f.reason; inboundSource = f.inboundSource; inboundProtocol = f.inboundProtocol; connectionProtocol = f.connectionProtocol; farClosed = f.farClosed; settings = f.settings })
    v (record { timer = ht; request = h.request; part = h.part; reason = h.reason; inboundProtocol = h.inboundProtocol; connectionProtocol = h.connectionProtocol; farClosed = h.farClosed; settings = h.settings })
