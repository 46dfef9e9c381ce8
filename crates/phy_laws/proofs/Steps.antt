-- Any step goes one of three ways: the phy is refused, the event is refused, or the one-step law holds.
use Prim.Native.Nat.{◌≤◌}
use mathlib.Core.Bool.{true, false, ◌&&◌}
use mathlib.Core.List.{[], ◌∷◌}
use mathlib.Core.Path.{◌≡◌, refl}
use native.Mathlib.Omega.{arith}
use borrow.Author.Tests.{leb-true}
use lib.Dec.{leb}
use Rattle.table.specs.Refusals.{bad_state, bad_event}
use Rattle.table.proofs.Laws.{by_pick, all_hold}
use Rattle.event.specs.Table.{known_of}
use Rattle.event.specs.declared.Event.{Event}
use Rattle.phy.specs.State.{valid_of, valid_request, valid_inbound}
use Rattle.phy.specs.Shapes.{refused}
use Rattle.phy.specs.Step.{move_of, step_of}
use Rattle.phy.specs.declared.Phy.{Phy}
use Rattle.phy.specs.declared.Stepped.{Stepped}
use Rattle.phy_laws.specs.Laws.{FreshValid, StaysValid, FlagKept, ReportsAreListed}
use Rattle.phy_laws.proofs.OneStep.{Stepping}
use Rattle.phy_laws.proofs.ByEvent.{one_step}

pub by_way :
    (P : Stepped → Type 0) (p : Phy) (e : Event)
    → (valid_of p ≡ false → P (refused p bad_state))
    → (valid_of p ≡ true → known_of e ≡ false → P (refused p bad_event))
    → (valid_of p ≡ true → known_of e ≡ true → Stepping p e (move_of p e) → P (move_of p e))
    → P (step_of p e)
unfolding step_of
by_way P p e a b c =
    by_pick P (valid_of p)
    (λ v. by_pick P (known_of e) (λ k. c v k (one_step p e v k)) (λ k. b v k))
    (λ v. a v)

pub fresh_valid : FreshValid
unfolding valid_of valid_request valid_inbound
fresh_valid = refl

pub stays_valid : StaysValid
stays_valid p e v = by_way (λ r. valid_of r.next ≡ true) p e (λ f. v) (λ _ _. v) (λ _ _ s. s.valid)

pub flag_kept : FlagKept
flag_kept p e f = by_way (λ r. r.next.settings ≡ p.settings) p e (λ _. refl) (λ _ _. refl) (λ _ _ s. rw f at s.flag)

listed : (r : Stepped) → leb r.notice 7 && leb r.sent 5 && leb r.refusal 6 ≡ true → (r.notice ≤ 7) × (r.sent ≤ 5) × (r.refusal ≤ 6)
listed r h =
    let h = all_hold (leb r.notice 7) (leb r.sent 5 ∷ leb r.refusal 6 ∷ []) h in
    (leb-true r.notice 7 (h 0), leb-true r.sent 5 (h 1), leb-true r.refusal 6 (h 2))

pub reports_are_listed : ReportsAreListed
reports_are_listed p e =
    let l = by_way (λ r. (r.notice ≤ 7) × (r.sent ≤ 5) × (r.refusal ≤ 6)) p e (λ _. omega arith) (λ _ _. omega arith) (λ _ _ s. listed (move_of p e) s.reports) in
    record { notice = l.0; sent = l.1; refusal = l.2 }
