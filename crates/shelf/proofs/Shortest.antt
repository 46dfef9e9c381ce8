-- No bytes that are read to an event are fewer than those written for it: a number's are not, so those of its phy's number, code and arguments together are not, nor those of a whole trace.
use Prim.Native.Nat.{ℕ, ◌+◌, ◌≤◌, ◌<◌}
use mathlib.Core.List.{List, [], ◌∷◌}
use mathlib.Core.Path.{◌≡◌, refl}
use native.Mathlib.Omega.{arith}
use lib.ListN.{length, take, get_or, length-append}
use Rattle.number.specs.Reading.{value, read_number}
use Rattle.number.specs.Writing.{number_bytes}
use Rattle.number.specs.Laws.{value_of, Sevens, Bytes}
use Rattle.number.proofs.Refusals.{read_is_value}
use Rattle.number.proofs.Shortest as number
use Rattle.event.specs.Table.{event_of, arguments_of, argument_count}
use Rattle.event.specs.declared.Event.{Event}
use Rattle.event.specs.declared.Range.{Range}
use Rattle.event.specs.declared.ShelfEvent.{ShelfEvent}
use Rattle.trace.specs.Reading.{event, read_event}
use Rattle.trace.specs.Writing.{bytes_of, event_bytes}
use Rattle.trace.specs.Laws.{ArgumentsStand, none, one}
use Rattle.trace.proofs.Known.{at_most_six}
use Rattle.trace.proofs.Accepted.{event_exactly}
use Rattle.shelf.specs.Writing.{shelf_trace_bytes, shelf_bytes}
use Rattle.shelf.specs.Laws.{ShelfReadsAll, ended, taken, Fewest, FewestAll}
use Rattle.shelf.proofs.Accepted.{read_moves_on}
use Rattle.shelf.proofs.Why.{because}
use Rattle.shelf.proofs.WriteOrder.{long}

-- ---- a number

groups_fewest : (gs : List ℕ) (v : ℕ) → 0 < length gs → Sevens gs → v ≡ value_of gs → length (number_bytes v) ≤ length gs
groups_fewest [] v h w e = absurd (omega arith)
groups_fewest (g ∷ gs) v h w e = rw e (number.fewest g gs w)

number_fewest : (s : List ℕ) → Bytes s → (place v next : ℕ) → read_number s place ≡ value v next → place + length (number_bytes v) ≤ next
number_fewest s b place v next e =
    let y = read_is_value s place v next b e in
    omega (arith, y.far, groups_fewest y.gs v y.stands.some y.stands.sevens y.says)

-- ---- an event as in a trace of one phy

record AtLeast (place : ℕ) (ranges : List Range) (vs : List ℕ) (next : ℕ) : Type 0 where
  many : length vs ≡ length ranges
  bytes : place + length (bytes_of vs) ≤ next

arguments_fewest : {s : List ℕ} → Bytes s → {ranges : List Range} {place : ℕ} {vs : List ℕ} {next : ℕ} → ArgumentsStand s ranges place vs next → AtLeast place ranges vs next
unfolding bytes_of
arguments_fewest b none = record { many = refl; bytes = omega arith }
arguments_fewest {s} b (one {place = place} {v} {after} {vs} e w a) =
    let rest = arguments_fewest b a in
    record {
      many = omega (arith, rest.many);
      bytes = omega (arith, number_fewest s b place v after e, rest.bytes, length-append (number_bytes v) (bytes_of vs));
    }

-- the arguments of which an event was made are those that it has
six_taken : (vs : List ℕ) → length vs ≤ 6 → take (length vs) (get_or vs 0 0 ∷ get_or vs 1 0 ∷ get_or vs 2 0 ∷ get_or vs 3 0 ∷ get_or vs 4 0 ∷ get_or vs 5 0 ∷ []) ≡ vs
six_taken [] h = refl
six_taken (a ∷ []) h = refl
six_taken (a ∷ b ∷ []) h = refl
six_taken (a ∷ b ∷ c ∷ []) h = refl
six_taken (a ∷ b ∷ c ∷ d ∷ []) h = refl
six_taken (a ∷ b ∷ c ∷ d ∷ e ∷ []) h = refl
six_taken (a ∷ b ∷ c ∷ d ∷ e ∷ f ∷ []) h = refl
six_taken (a ∷ b ∷ c ∷ d ∷ e ∷ f ∷ g ∷ vs) h = absurd (omega arith)

made_long : (e : Event) (code : ℕ) (vs : List ℕ) → e ≡ event_of code vs → length vs ≡ length (arguments_of code) → length (event_bytes e) ≡ length (number_bytes code) + length (bytes_of vs)
unfolding event_bytes bytes_of argument_count
made_long e code vs i l = rw (i, ← l, six_taken vs (omega (arith, at_most_six code))) (length-append (number_bytes code) (bytes_of vs))

event_fewest : (s : List ℕ) → Bytes s → (place : ℕ) (e : Event) (next : ℕ) → read_event s place ≡ event e next → place + length (event_bytes e) ≤ next
event_fewest s b place e next h =
    let r = (event_exactly s place e next).0 h in
    let a = arguments_fewest b r.rest in
    omega (arith, made_long e r.code r.vs r.made a.many, number_fewest s b place r.code r.after r.reads, a.bytes)

-- ---- an event on a shelf, and a trace

pub fewest : Fewest
fewest s place e next b h =
    let r = because s place h in
    omega (arith, long e, number_fewest s b place e.number r.behind r.reads, event_fewest s b r.behind e.event next r.event)

fewest_from : {s : List ℕ} → Bytes s → {place : ℕ} {es : List ShelfEvent} → place ≤ length s → ShelfReadsAll s place es → place + length (shelf_trace_bytes es) ≤ length s
unfolding shelf_trace_bytes
fewest_from b h (ended e) = omega arith
fewest_from {s} b h (taken {place} {e} {next} {es} t r) =
    omega (arith, length-append (shelf_bytes e) (shelf_trace_bytes es), fewest s place e next b t, fewest_from b (read_moves_on s place e next t).within r)

pub fewest_all : FewestAll
fewest_all s es b r = omega (arith, fewest_from b (omega arith) r)
