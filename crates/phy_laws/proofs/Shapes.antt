-- Every valid phy has one of twelve shapes, told by its link state; and a phy of a shape is valid.
use Prim.Native.Nat.{ℕ}
use mathlib.Core.Bool.{true}
use mathlib.Core.List.{[], ◌∷◌}
use mathlib.Core.Path.{◌≡◌}
use lib.Dec.{eqb}
use Rattle.table.proofs.Laws.{parts, all_hold}
use Rattle.event.specs.declared.Open.{Open}
use Rattle.phy.specs.State.{valid_pair, valid_timer, valid_request, valid_part, valid_reason, valid_inbound, valid_connection, valid_far_closed, valid_settings, valid_of}
use Rattle.phy.specs.declared.Settings.{Settings}
use Rattle.phy.specs.declared.Phy.{Phy}
use Rattle.phy_laws.proofs.Tests.{either, at_number}

-- ---- the twelve pairs of link and port

pub by_pair :
    (Q : ℕ → ℕ → Type 0) (link port : ℕ) → valid_pair link port ≡ true
    → Q 0 1 → Q 2 1 → Q 6 1 → Q 1 2 → Q 2 2 → Q 6 2 → Q 3 3 → Q 4 3 → Q 5 3 → Q 6 3 → Q 5 4 → Q 6 4
    → Q link port
by_pair Q link port v a b c d e f g h i j k l =
    let at : (m n : ℕ) → eqb link m ≡ true → eqb port n ≡ true → Q m n → Q link port =
    λ m n x y q. at_number (λ s. Q s port) link m x (at_number (λ s. Q m s) port n y q) in
    either _ _ v
    (λ w. either _ _ w
    (λ w. either _ _ w
    (λ w. let q = parts _ _ w in either _ _ q.1 (λ x. either _ _ x (λ x. at 0 1 x q.0 a) (λ x. at 2 1 x q.0 b)) (λ x. at 6 1 x q.0 c))
    (λ w. let q = parts _ _ w in either _ _ q.1 (λ x. either _ _ x (λ x. at 1 2 x q.0 d) (λ x. at 2 2 x q.0 e)) (λ x. at 6 2 x q.0 f)))
    (λ w. let q = parts _ _ w in either _ _ q.1 (λ x. either _ _ x (λ x. either _ _ x (λ x. at 3 3 x q.0 g) (λ x. at 4 3 x q.0 h)) (λ x. at 5 3 x q.0 i)) (λ x. at 6 3 x q.0 j)))
    (λ w. let q = parts _ _ w in either _ _ q.1 (λ x. at 5 4 x q.0 k) (λ x. at 6 4 x q.0 l))

-- ---- a phy by its pair and its other fields, and what validity says of them

pub record Fields : Type 0 where
  pub timer : ℕ
  pub request : Open
  pub part : ℕ
  pub reason : ℕ
  pub inboundSource : ℕ
  pub inboundProtocol : ℕ
  pub connectionProtocol : ℕ
  pub farClosed : ℕ
  pub settings : Settings

abbrev pub phy_of : (link port : ℕ) → Fields → Phy
phy_of link port f =
    record { link = link; port = port; timer = f.timer; request = f.request; part = f.part; reason = f.reason; inboundSource = f.inboundSource; inboundProtocol = f.inboundProtocol; connectionProtocol = f.connectionProtocol; farClosed = f.farClosed; settings = f.settings }

pub record Facts (link port : ℕ) (f : Fields) : Type 0 where
  pub timer : valid_timer link f.timer ≡ true
  pub request : valid_request port f.request ≡ true
  pub part : valid_part port f.request.wait f.part ≡ true
  pub reason : valid_reason link port f.reason ≡ true
  pub inboundProtocol : valid_inbound link f.inboundSource f.inboundProtocol ≡ true
  pub connectionProtocol : valid_connection port f.connectionProtocol ≡ true
  pub farClosed : valid_far_closed link f.farClosed ≡ true
  pub settings : valid_settings f.settings ≡ true

abbrev pub fields_of : Phy → Fields
fields_of p =
    record { timer = p.timer; request = p.request; part = p.part; reason = p.reason; inboundSource = p.inboundSource; inboundProtocol = p.inboundProtocol; connectionProtocol = p.connectionProtocol; farClosed = p.farClosed; settings = p.settings }

-- the nine tests of a valid phy
pub facts : (p : Phy) → valid_of p ≡ true → (valid_pair p.link p.port ≡ true) × Facts p.link p.port (fields_of p)
unfolding valid_of
facts p v =
    let t = all_hold _ (_ ∷ _ ∷ _ ∷ _ ∷ _ ∷ _ ∷ _ ∷ _ ∷ []) v in
    (t 0, record { timer = t 1; request = t 2; part = t 3; reason = t 4; inboundProtocol = t 5; connectionProtocol = t 6; farClosed = t 7; settings = t 8 })

-- what holds of each of the twelve shapes holds of every valid phy
pub by_shape :
    (Q : Phy → Type 0)
    → ((f : Fields) → Facts 0 1 f → Q (phy_of 0 1 f)) → ((f : Fields) → Facts 2 1 f → Q (phy_of 2 1 f)) → ((f : Fields) → Facts 6 1 f → Q (phy_of 6 1 f))
    → ((f : Fields) → Facts 1 2 f → Q (phy_of 1 2 f)) → ((f : Fields) → Facts 2 2 f → Q (phy_of 2 2 f)) → ((f : Fields) → Facts 6 2 f → Q (phy_of 6 2 f))
    → ((f : Fields) → Facts 3 3 f → Q (phy_of 3 3 f)) → ((f : Fields) → Facts 4 3 f → Q (phy_of 4 3 f)) → ((f : Fields) → Facts 5 3 f → Q (phy_of 5 3 f)) → ((f : Fields) → Facts 6 3 f → Q (phy_of 6 3 f))
    → ((f : Fields) → Facts 5 4 f → Q (phy_of 5 4 f)) → ((f : Fields) → Facts 6 4 f → Q (phy_of 6 4 f))
    → (p : Phy) → valid_of p ≡ true → Q p
by_shape Q a b c d e f g h i j k l p v =
    let rest = fields_of p in
    let t = facts p v in
    by_pair (λ m n. Facts m n rest → Q (phy_of m n rest)) p.link p.port t.0
    (a rest) (b rest) (c rest) (d rest) (e rest) (f rest) (g rest) (h rest) (i rest) (j rest) (k rest) (l rest)
    t.1
