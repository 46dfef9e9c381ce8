-- A trace written by calls: each call stores the bytes of one event behind those before it, so all of them are one store of the trace's bytes.
use Prim.Native.Nat.{ℕ, ◌+◌, ◌≤◌}
use mathlib.Core.List.{List, [], ◌∷◌}
use mathlib.Core.Path.{◌≡◌, refl, sym, ap, ◌∙◌}
use native.Mathlib.Omega.{arith}
use lib.ListN.{length, take, drop, length-append}
use lib.Seq.{sets, length-sets, drop_at, length-take-le}
use Rattle.table.proofs.Stores.{sets_on, stored_to}
use Rattle.event.specs.declared.Event.{Event}
use Rattle.trace.specs.Writing.{event_bytes, trace_bytes}
use Rattle.trace.specs.Promises.{WritesEvent}
use Rattle.trace.specs.Laws.{AllKnown, WritesAll, done, put, Writable, AllWritten, WritableExactly}
use Rattle.std.specs.Prelude.{Ok}
use Rattle.trace.proofs.WriteLoop.{with_room}
use Rattle.trace.proofs.RoundTrip.{fitted, earlier_kept, later_kept, trace_back_from}

-- ---- what calls store

record Stored (before : List ℕ) (place : ℕ) (es : List Event) (after : List ℕ) (last : ℕ) : Type 0 where
  pub known : AllKnown es
  pub bytes : after ≡ sets before place (trace_bytes es)
  pub far : last ≡ place + length (trace_bytes es)
  pub room : last ≤ length before

module _ (e : Event) (before middle : List ℕ) (place n : ℕ) (c : WritesEvent e before place (Ok n) middle) where
  stored_one : middle ≡ sets before place (event_bytes e)
  stored_one = c.leaves ∙ (fitted e before place n (sym c.says)).left

  same_length : length middle ≡ length before
  same_length = ap length stored_one ∙ length-sets before place (event_bytes e)

  still_room : place + n ≤ length middle
  still_room = omega (arith, same_length, fitted e before place n (sym c.says))

  stored_more : {es : List Event} {after : List ℕ} {last : ℕ} → Stored middle (place + n) es after last → Stored before place (e ∷ es) after last
  unfolding trace_bytes
  stored_more {es} s =
      let w = fitted e before place n (sym c.says) in
      record {
        known = (w.known, s.known);
        bytes = s.bytes ∙ rw (stored_one, w.long) (sym (sets_on before (event_bytes e) (trace_bytes es) place));
        far = omega (arith, length-append (event_bytes e) (trace_bytes es));
        room = omega (arith, same_length);
      }

stored : {before : List ℕ} {place : ℕ} {es : List Event} {after : List ℕ} {last : ℕ} → place ≤ length before → WritesAll before place es after last → Stored before place es after last
unfolding trace_bytes
stored h done = record { known = tt; bytes = refl; far = omega arith; room = h }
stored h (put {e} {before = before} {middle} {place = place} {n} c cs) =
    stored_more e before middle place n c (stored (still_room e before middle place n c) cs)

-- ---- what they leave

pub all_written : AllWritten
all_written es before place after last h c =
    let s = stored h c in
    let room : place + length (trace_bytes es) ≤ length before = omega arith in
    rw (s.bytes, s.far) (record {
      bytes = refl;
      far = refl;
      room = room;
      earlier = earlier_kept before (trace_bytes es) place room;
      later = later_kept before (trace_bytes es) place room;
      back = trace_back_from es s.known _ place (ap (drop place) (stored_to before (trace_bytes es) place room) ∙ drop_at (take place before) (trace_bytes es) place (length-take-le place before h));
    })

-- ---- that there are such calls

writable : (es : List Event) (before : List ℕ) (place : ℕ) → AllKnown es → place + length (trace_bytes es) ≤ length before → Writable before place es
unfolding trace_bytes
writable [] before place k h = record { after = before; last = place; calls = done }
writable (e ∷ es) before place k h =
    let room : place + (length (event_bytes e) + length (trace_bytes es)) ≤ length before = simp length-append at h in
    let more = writable es (sets before place (event_bytes e)) (place + length (event_bytes e)) k.1 (omega (arith, length-sets before place (event_bytes e))) in
    record { after = more.after; last = more.last; calls = put {before = before} {place = place} (with_room e before place k.0 (omega arith) refl refl) more.calls }

pub writable_exactly : WritableExactly
writable_exactly es before place h = (
  λ w. let s = stored h w.calls in (s.known, omega arith),
  λ k. writable es before place k.0 k.1,
)
