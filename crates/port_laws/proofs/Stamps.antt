-- A time stamp to a phy: its bay takes it, and an Open that is handed out after it keeps the base.
use Prim.Native.Nat.{ℕ}
use mathlib.Core.Bool.{true, false, false≢true}
use mathlib.Core.Path.{◌≡◌, sym, ap, subst, ◌∙◌}
use borrow.Author.Tests.{ne_eqb}
use lib.Seq.{get_or-set_same}
use Rattle.table.specs.Flags.{on}
use Rattle.event.specs.declared.Event.{Event}
use Rattle.bay.specs.State.{fresh_bay}
use Rattle.bay.specs.Step.{is_stamp, step_of}
use Rattle.bay.specs.declared.Bay.{Bay}
use Rattle.bay.specs.declared.Stepped.{Stepped as BayStepped}
use Rattle.bay_laws.proofs.Steps as bays
use Rattle.port.specs.Names.{the_port}
use Rattle.port.specs.State.{Port}
use Rattle.port.specs.Step.{PortStepped, open_event, bay_at, is_ports}
use Rattle.port.proofs.Valid.{bay_valid}
use Rattle.port.proofs.Ways.{Way, is_refused, joins, at_once, takes, frees, opened, ways, is_some}
use Rattle.port_laws.specs.Laws.{StampsMoveOne}
use Rattle.port_laws.proofs.Steps.{only_its_phy, oldest_known}
use Rattle.port_laws.proofs.Refusals.{own}

-- a bay whose base is that of a stamp
record Based (e : Event) (b : Bay) : Type 0 where
  base : b.base ≡ e.first
  set : b.baseSet ≡ on

based : {limit : ℕ} {p : Port} {number : ℕ} {e : Event} {r : PortStepped} → Way limit p number e r → is_ports number ≡ false → is_stamp e ≡ true
    → r.reports.refusal ≡ 0 → Based e (bay_at r.next.bays number)
based (is_refused {n} h) f t z = absurd (is_some h z)
based (joins w _) f t z = absurd (false≢true (sym f ∙ w.ports))
based (at_once w _ _) f t z = absurd (false≢true (sym f ∙ w.ports))
based {limit} {p} {number} {e} (takes w _) f t z =
    let b = bay_at p.bays number in
    let s = bays.stamps_are_base b e (bay_valid limit p w.judged.valid number w.there) t in
    subst (Based e) (sym (get_or-set_same p.bays number (step_of b e).next fresh_bay w.there)) (record { base = s.base; set = s.set })
based {limit} {p} {number} {e} (frees o os w q f) _ t z =
    let b = bay_at p.bays number in
    let v = bay_valid limit p w.judged.valid number w.there in
    let s = bays.stamps_are_base b e v t in
    let n = (step_of b e).next in
    let then = opened n o (bays.stays_valid b e v) f (oldest_known limit p o os w.judged.valid q) in
    subst (Based e) (sym (get_or-set_same p.bays number (step_of n (open_event o)).next fresh_bay w.there))
    (record { base = ap (λ (r : BayStepped). r.next.base) then ∙ s.base; set = ap (λ (r : BayStepped). r.next.baseSet) then ∙ s.set })

pub stamps_move_one : StampsMoveOne
stamps_move_one limit p number e a t =
    let b = bay_at p.bays number in
    let taken : (step_of b e).refusal ≡ 0 = ap (λ (r : BayStepped). r.refusal) (bays.a_gap b e (bay_valid limit p a.judged.valid number a.there) t) in
    let s = based (ways limit p number e) (ne_eqb number the_port a.phys) t (own limit p number e a ∙ taken) in
    record { base = s.base; set = s.set; others = only_its_phy limit p number e a.phys }
