-- In order: step by step, what waits and then what is accepted is what is handed out and then what waits afterwards.
use Prim.Native.Nat.{ℕ}
use mathlib.Core.Bool.{and-false}
use mathlib.Core.List.{List, [], ◌∷◌, ◌++◌, append-nil, append_assoc}
use mathlib.Core.Path.{◌≡◌, sym, ap, ◌∙◌}
use borrow.Author.Tests.{eq-eqb, ne_eqb}
use Rattle.table.specs.Choice.{pick}
use Rattle.table.proofs.Laws.{by_test}
use Rattle.event.specs.Names.{tx_open}
use Rattle.event.specs.Table.{open_of}
use Rattle.event.specs.declared.Event.{Event}
use Rattle.event.specs.declared.Open.{Open}
use Rattle.event.specs.declared.ShelfEvent.{ShelfEvent}
use Rattle.bay_laws.specs.Spelled.{open_if}
use Rattle.port.specs.State.{Port, fresh_port}
use Rattle.port.specs.Step.{PortStepped, is_ports}
use Rattle.port.specs.Log.{step_on, log, after}
use Rattle.port.proofs.Ways.{Way, is_refused, joins, at_once, takes, frees, ways, is_some}
use Rattle.port_laws.specs.InOrder.{accepted_by_port, requests_of, handed_out, InOrder}

-- nothing is accepted where an event is refused
pub none_opened : (e : Event) (n : ℕ) → (n ≡ 0 → ⊥) → open_if e n ≡ []
none_opened e n h = simp (ne_eqb n 0 h, and-false)

-- a Tx Open that is not refused is accepted
is_opened : (e : Event) → e.code ≡ tx_open → open_if e 0 ≡ open_of e ∷ []
is_opened e c = rw (eq-eqb e.code tx_open c)

-- what is accepted in a step of the port
abbrev pub taken : (number : ℕ) → Event → PortStepped → List Open
taken number e r = pick (is_ports number) (open_if e r.reports.refusal) []

pub one : {limit : ℕ} {p : Port} {number : ℕ} {e : Event} {r : PortStepped} → Way limit p number e r
    → p.queue ++ taken number e r ≡ requests_of r.hand_outs ++ r.next.queue
one {p = p} {number = number} {e = e} (is_refused {n} h) =
    by_test (is_ports number) (λ t. rw (t, none_opened e n (is_some h), append-nil)) (λ f. rw (f, append-nil))
one {e = e} (joins w _) = rw (w.ports, is_opened e w.opens)
one {e = e} (at_once w q _) = rw (w.ports, q, is_opened e w.opens)
one (takes w _) = rw (w.phys, append-nil)
one (frees o os w q _) = rw (w.phys, append-nil) q

-- from any port
all : (limit : ℕ) (es : List ShelfEvent) (p : Port) → p.queue ++ accepted_by_port (log limit p es) ≡ handed_out (log limit p es) ++ (after limit p es).queue
all limit [] p = append-nil p.queue
all limit (e ∷ es) p =
    let r = step_on limit p e in
    let given = taken e.number e.event r in
    let behind : List Open = accepted_by_port (log limit r.next es) in
    sym (append_assoc p.queue given behind)
    ∙ ap (λ (l : List Open). l ++ behind) (one (ways limit p e.number e.event))
    ∙ append_assoc (requests_of r.hand_outs) r.next.queue behind
    ∙ ap (λ (l : List Open). requests_of r.hand_outs ++ l) (all limit es r.next)
    ∙ sym (append_assoc (requests_of r.hand_outs) (handed_out (log limit r.next es)) (after limit r.next es).queue)

pub in_order : InOrder
in_order limit n es = all limit es (fresh_port n)
