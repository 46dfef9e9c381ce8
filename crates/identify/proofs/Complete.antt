-- Complete belongs to one shape, the only one with both got and sent; a step reports it where it leads there from a state without an outcome.
use Prim.Native.Nat.{ℕ}
use mathlib.Core.Bool.{true, false, false≢true}
use mathlib.Core.Logic.{◌↔◌}
use mathlib.Core.Path.{◌≡◌, refl}
use native.Mathlib.Omega.{arith}
use borrow.Author.Tests.{leb-true, eqb-false}
use Rattle.table.specs.Flags.{on}
use Rattle.table.proofs.Laws.{apart}
use Rattle.identify.specs.Names.{none, failed, complete, time_out, reset_received}
use Rattle.identify.specs.State.{both}
use Rattle.identify.specs.Laws.{CompleteExactly, CompleteReported}
use Rattle.identify.specs.declared.Identification.{Identification}
use Rattle.identify.specs.declared.Stepped.{Stepped}
use Rattle.identify.proofs.Basics.{clash, neither, together}
use Rattle.identify.proofs.Shapes.{Going, awaits, holds, joined, late, was_reset, Shape, going, ended, shape}
use Rattle.identify.proofs.Moves.{stays, finishes}
use Rattle.identify.proofs.OneStep.{Stepping, bad_state_lem, bad_event_lem, lands, stands, anew, stepping}

exactly : {i : Identification} → Shape i → i.outcome ≡ complete ↔ (i.got ≡ on) × (i.sent ≡ on)
exactly (going (awaits p k)) = neither (eqb-false none complete refl) (λ h. apart h.0)
exactly (going holds) = neither (eqb-false none complete refl) (λ h. apart h.1)
exactly (ended joined) = together refl (refl, refl)
exactly (ended (late p)) = neither (eqb-false time_out complete refl) (λ h. apart h.0)
exactly (ended (was_reset p e k)) = neither (eqb-false reset_received complete refl) (λ h. apart h.0)

pub complete_exactly : CompleteExactly
complete_exactly i v = exactly (shape i v)

-- ---- the report

not_both : {i : Identification} → Going i → both i ≡ false
not_both (awaits p k) = refl
not_both holds = refl

reported : {i : Identification} {event argument : ℕ} {s : Stepped} → Stepping i event argument s
    → s.report ≡ complete ↔ (both i ≡ false) × (both s.next ≡ true)
reported (bad_state_lem v) = neither (eqb-false none complete refl) (λ h. clash h.1 h.0)
reported (bad_event_lem v k) = neither (eqb-false none complete refl) (λ h. clash h.1 h.0)
reported (lands v k g (stays {report = n} j r)) =
    neither (λ e. omega (arith, leb-true n failed r)) (λ h. clash h.1 (not_both j))
reported (lands v k g (finishes joined)) = together refl (not_both g, refl)
reported (lands v k g (finishes (late p))) = neither (eqb-false time_out complete refl) (λ h. false≢true h.1)
reported (lands v k g (finishes (was_reset p e l))) = neither (eqb-false reset_received complete refl) (λ h. false≢true h.1)
reported (stands v k d f) = neither (eqb-false none complete refl) (λ h. clash h.1 h.0)
reported (anew v k d t) = neither (eqb-false none complete refl) (λ h. false≢true h.1)

pub complete_reported : CompleteReported
complete_reported i event argument v = reported (stepping i event argument)
