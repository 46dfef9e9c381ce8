-- Calls of a reader: each says what stands at its place and moves it to the place reached. So an event takes it to the next one, and where there is none it stands still and the same is said again.
use Prim.Native.Nat.{ℕ, ◌≤◌}
use mathlib.Core.List.{List, [], ◌∷◌, map}
use mathlib.Core.Path.{◌≡◌, refl, sym, ap, ap₂, subst, ◌∙◌}
use native.Mathlib.Omega.{arith}
use lib.ListN.{length, take, drop, replicate, drop_of_length-le}
use lib.Seq.{take_all}
use denote.Ref.{Bor}
use Rattle.table.proofs.Laws.{apart}
use Rattle.event.specs.Table.{event_of}
use Rattle.event.specs.declared.Event.{Event}
use Rattle.trace.specs.Reading.{ReadOf, Told, event, end, refused, read_event, event_given, place_reached, tells}
use Rattle.trace.specs.Promises.{ReadsEvent, TakesNext}
use Rattle.trace.specs.Laws.{Passes, here, on, ReadsAll, ended, taken, Calls, uncalled, called, GivesEvents, nothing, given, FaultStays, StaysPut, FirstEvents, CalledBack}
use Rattle.std.specs.Prelude.{Some, Ok}
use Rattle.trace.specs.declared.Reader.{Reader}
use Rattle.trace.proofs.Determined.{read_once, determined}
use Rattle.trace.proofs.Refusals.{fault_at_first}
use Rattle.trace.proofs.Written.{all_written}

-- ---- no event

-- what is said is no event: the trace's end or a fault
abbrev NoEvent : Told → Type 0
NoEvent t = (e : Event) (next : ℕ) → t ≡ event e next → ⊥

not_refused : {e : Event} {next n at : ℕ} → event e next ≡ refused n at → ⊥
not_refused h = apart cc

no_move : (t : Told) → NoEvent t → (place : ℕ) → place_reached place t ≡ place
no_move (event e next) n place = absurd (n e next refl)
no_move end n place = refl
no_move (refused k at) n place = refl

zero_given : (t : Told) → NoEvent t → event_given t ≡ event_of 0 []
zero_given (event e next) n = absurd (n e next refl)
zero_given end n = refl
zero_given (refused k at) n = refl

-- the reader stands still
still : {before : Reader} (r : ReadOf Event) {after : Reader} → TakesNext before r after → NoEvent (tells r) → after ≡ before
still {before} r t n = t.leaves ∙ ap (λ (place : ℕ). record { trace = before.trace; place = place }) (ap (place_reached before.place) (sym t.says) ∙ no_move (tells r) n before.place)

pub fault_stays : FaultStays
fault_stays before r after n at t e =
    let none : NoEvent (tells r) = λ f next h. not_refused (sym h ∙ e) in
    record {
      first = (fault_at_first before.trace.now before.place n at (sym t.says ∙ e)).first;
      zeros = zero_given (tells r) none;
      stays = still r t none;
    }

again : {before after : Reader} (r : ReadOf Event) (rs : List (ReadOf Event)) → ReadsEvent before.trace.now before.place r → NoEvent (tells r) → Calls before rs after
    → (rs ≡ replicate (length rs) r) × (after ≡ before)
again r [] e n uncalled = (refl, refl)
again {before} {after} r (q ∷ rs) e n (called t c) =
    let same : q ≡ r = determined.event_at before.trace.now before.place q r t.says e in
    let more = again r rs e n (subst (λ (m : Reader). Calls m rs after) (still q t (rw same n)) c) in
    (ap₂ (λ (x : ReadOf Event) (l : List (ReadOf Event)). x ∷ l) same more.0, more.1)

pub stays_put : StaysPut
stays_put before after r rs (called t c) n =
    let a = again r rs t.says n (subst (λ (m : Reader). Calls m rs after) (still r t n) c) in
    record { same = a.0; zeros = zero_given (tells r) n; stays = a.1 }

-- ---- events

events_of : {s : List ℕ} {place : ℕ} {rs : List (ReadOf Event)} {es : List Event} {last : ℕ} → GivesEvents s place rs es last → map (λ r. event_given (tells r)) rs ≡ es
events_of nothing = refl
events_of (given {e} h g) = ap (λ (l : List Event). e ∷ l) (events_of g)

first_from :
    (rs : List (ReadOf Event)) {start after : Reader} {es : List Event} {last : ℕ}
    → Passes start.trace.now start.place es last → Calls start rs after → length rs ≤ length es
    → GivesEvents start.trace.now start.place rs (take (length rs) es) after.place
    × Passes start.trace.now after.place (drop (length rs) es) last
first_from [] p uncalled h = (nothing, p)
first_from (r ∷ rs) here (called t c) h = absurd (omega arith)
first_from (r ∷ rs) {start} {after} (on {e = e} {next} a p) (called t c) h =
    let there : ◌≡◌ {A = Reader} _ (record { trace = start.trace; place = next }) = rw a at t.leaves in
    let more = first_from rs p (subst (λ (m : Reader). Calls m rs after) there c) (omega arith) in
    rw (read_once r (Ok (Some (record { value = e; next = next }))) (t.says ∙ a)) (given a more.0, more.1)

pub first_events : FirstEvents
first_events trace start after es last rs new p c h =
    let g = first_from rs p (subst (λ (m : Reader). Calls m rs after) new c) h in
    record { answers = g.0; events = events_of g.0; others = g.1 }

-- ---- events that were written: reading them all passes them by, to the trace's end

record Passed (s : List ℕ) (place : ℕ) (es : List Event) : Type 0 where
  pub last : ℕ
  pub passes : Passes s place es last
  pub over : read_event s last ≡ end

passed : {s : List ℕ} {place : ℕ} {es : List Event} → ReadsAll s place es → Passed s place es
passed (ended {place = place} e) = record { last = place; passes = here; over = e }
passed (taken e r) = let p = passed r in record { last = p.last; passes = on e p.passes; over = p.over }

no_more : {s : List ℕ} {place last : ℕ} → Passes s place [] last → place ≡ last
no_more here = refl

trace_kept : {start after : Reader} {rs : List (ReadOf Event)} → Calls start rs after → after.trace ≡ start.trace
trace_kept uncalled = refl
trace_kept (called t c) = trace_kept c ∙ ap (λ (m : Reader). m.trace) t.leaves

pub called_back : CalledBack
called_back es before after last w trace start middle there rs r same new c long t =
    let back : ReadsAll trace.now 0 es = rw same (all_written es before 0 after last (omega arith) w).back in
    let p = passed back in
    let g = first_events trace start middle es p.last rs new p.passes c (omega arith) in
    let at_last : middle.place ≡ p.last = no_more (subst (λ (l : List Event). Passes trace.now middle.place l p.last) (drop_of_length-le es {i = length rs} (omega arith)) g.others) in
    let held : middle.trace ≡ trace = trace_kept c ∙ ap (λ (m : Reader). m.trace) new in
    (g.events ∙ take_all (length rs) es (omega arith), t.says ∙ ap₂ (λ (l : Bor (List ℕ)) (n : ℕ). read_event l.now n) held at_last ∙ p.over)
