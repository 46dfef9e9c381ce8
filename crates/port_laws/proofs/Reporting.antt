-- What an event to the port itself reports: by the ways of a step, nothing but a refusal.
use Prim.Native.Nat.{ℕ}
use mathlib.Core.Bool.{true, false≢true}
use mathlib.Core.Path.{◌≡◌, refl, sym, ◌∙◌}
use Rattle.event.specs.declared.Event.{Event}
use Rattle.port.specs.Names.{the_port}
use Rattle.port.specs.State.{Port}
use Rattle.port.specs.Step.{PortStepped, is_ports}
use Rattle.port.proofs.Ways.{Way, is_refused, joins, at_once, takes, frees, ways}
use Rattle.port_laws.specs.Laws.{Nothing, PortReportsNothing}

by_way : {limit : ℕ} {p : Port} {number : ℕ} {e : Event} {r : PortStepped} → Way limit p number e r → is_ports number ≡ true → Nothing r.reports
by_way (is_refused _) t = record { answered = refl; answer = refl; notice = refl; second_notice = refl; sent = refl }
by_way (joins _ _) t = record { answered = refl; answer = refl; notice = refl; second_notice = refl; sent = refl }
by_way (at_once _ _ _) t = record { answered = refl; answer = refl; notice = refl; second_notice = refl; sent = refl }
by_way (takes w _) t = absurd (false≢true (sym w.phys ∙ t))
by_way (frees _ _ w _ _) t = absurd (false≢true (sym w.phys ∙ t))

pub port_reports_nothing : PortReportsNothing
port_reports_nothing limit p e = by_way (ways limit p the_port e) refl
