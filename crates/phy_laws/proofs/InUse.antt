-- What validity says of each field in use, and of the request where none is.
use Prim.Native.Nat.{ℕ}
use mathlib.Core.Bool.{true, ◌&&◌, ◌||◌}
use mathlib.Core.List.{[], ◌∷◌}
use mathlib.Core.Logic.{inl, inr}
use mathlib.Core.Path.{◌≡◌}
use borrow.Author.Tests.{eqb-true, leb-true, ltb-true}
use lib.Dec.{eqb, leb, ltb}
use Rattle.table.proofs.Laws.{by_test, parts, all_hold}
use Rattle.event.specs.Names.{STP, most_wait, most_address}
use Rattle.event.specs.Table.{open_known, same_open}
use Rattle.event.specs.declared.Open.{Open}
use Rattle.phy.specs.Names.{L1, L4, L5, P2, bend, most_part}
use Rattle.phy.specs.Shapes.{no_open}
use Rattle.phy.specs.State.{is_no_open, valid_request, valid_inbound}
use Rattle.phy_laws.specs.Waiting.{waits}
use Rattle.phy_laws.specs.Laws.{PartInUse}
use Rattle.phy_laws.proofs.Tests.{in_range_lem}
use Rattle.phy_laws.proofs.Shapes.{Fields, Facts, facts}
use Rattle.phy_laws.proofs.OneStep.{timed}

-- two Opens that test the same are the same
pub same_open_lem : (a b : Open) → same_open a b ≡ true → a ≡ b
same_open_lem a b h =
    let h = all_hold (eqb a.destination b.destination) (eqb a.protocol b.protocol ∷ eqb a.rate b.rate ∷ eqb a.tag b.tag ∷ eqb a.blockedCount b.blockedCount ∷ eqb a.wait b.wait ∷ []) h in
    λ i. record {
      destination = eqb-true a.destination b.destination (h 0) i;
      protocol = eqb-true a.protocol b.protocol (h 1) i;
      rate = eqb-true a.rate b.rate (h 2) i;
      tag = eqb-true a.tag b.tag (h 3) i;
      blockedCount = eqb-true a.blockedCount b.blockedCount (h 4) i;
      wait = eqb-true a.wait b.wait (h 5) i;
    }

-- the request in P2 and P4
pub asked : {link port : ℕ} {f : Fields} → waits port ≡ true → Facts link port f → open_known f.request ≡ true
unfolding valid_request
asked {f = f} w h = in_range_lem (open_known f.request) (is_no_open f.request) (rw w at h.request)

-- the timer in L1, L4 and L5
pub runs : {link port : ℕ} {f : Fields} → eqb link L1 || eqb link L4 || eqb link L5 ≡ true → Facts link port f → timed f.timer ≡ true
runs {f = f} w h = in_range_lem (timed f.timer) (eqb f.timer 0) (rw w at h.timer)

-- the source and the protocol of an OPEN in L2
pub inbounds : {port : ℕ} {f : Fields} → Facts 2 port f → (leb f.inboundSource most_address ≡ true) × (leb f.inboundProtocol STP ≡ true)
unfolding valid_inbound
inbounds {f = f} h =
    parts (leb f.inboundSource most_address) (leb f.inboundProtocol STP) (in_range_lem (leb f.inboundSource most_address && leb f.inboundProtocol STP) (eqb f.inboundSource 0 && eqb f.inboundProtocol 0) h.inboundProtocol)

-- the connection in P3
pub linked : {link : ℕ} {f : Fields} → Facts link 3 f → leb f.connectionProtocol STP ≡ true
linked {f = f} h = in_range_lem (leb f.connectionProtocol STP) (eqb f.connectionProtocol 0) h.connectionProtocol

-- in P1 no request is kept, and no part of a millisecond
pub no_request : {link : ℕ} {f : Fields} → Facts link 1 f → f.request ≡ no_open
unfolding valid_request
no_request {f = f} v = same_open_lem f.request no_open v.request

pub no_part_kept : {link : ℕ} {f : Fields} → Facts link 1 f → f.part ≡ 0
no_part_kept {f = f} v = eqb-true f.part 0 v.part

-- the part, in any state: by the test that says where it is in use
pub part_in_use : PartInUse
part_in_use p v =
    let h = (facts p v).1.part in
    let w = p.request.wait in
    by_test (eqb p.port P2 && leb bend w && ltb w most_wait)
    (λ t. let q = all_hold (eqb p.port P2) (leb bend w ∷ ltb w most_wait ∷ []) t in
    inr (eqb-true p.port P2 (q 0), leb-true bend w (q 1), ltb-true w most_wait (q 2), leb-true p.part most_part (in_range_lem (leb p.part most_part) (eqb p.part 0) (rw t at h))))
    (λ f. inl (eqb-true p.part 0 (rw f at h)))
