-- Calls of a reader: each says what stands at its place and moves it to the place reached. So an event takes it to the next one, and where there is none it stands still and the same is said again.
use Prim.Native.Nat.{ℕ, ◌≤◌}
use mathlib.Core.List.{List, [], ◌∷◌}
use mathlib.Core.Path.{◌≡◌, refl, sym, ap, ap₂, subst, ◌∙◌}
use native.Mathlib.Omega.{arith}
use lib.ListN.{length, replicate}
use Rattle.table.proofs.Laws.{apart}
use Rattle.event.specs.declared.ShelfEvent.{ShelfEvent}
use Rattle.trace.specs.declared.Reader.{Reader}
use Rattle.trace.specs.Reading.{ReadOf}
use Rattle.shelf.specs.Reading.{ToldShelf, shelf_event, shelf_end, shelf_refused, zero_shelf, shelf_given, shelf_reached, tells_shelf}
use Rattle.shelf.specs.Promises.{ReadsShelf, TakesShelf}
use Rattle.shelf.specs.Laws.{ShelfPasses, here, on, ShelfCalls, uncalled, called, FaultStays, StaysPut, FirstGiven, FirstEvents}
use Rattle.shelf.proofs.Determined.{determined}
use Rattle.shelf.proofs.Refusals.{fault_at_first}

-- ---- no event

-- what is said is no event: the trace's end or a fault
abbrev NoEvent : ToldShelf → Type 0
NoEvent t = (e : ShelfEvent) (next : ℕ) → t ≡ shelf_event e next → ⊥

not_refused : {e : ShelfEvent} {next n at : ℕ} → shelf_event e next ≡ shelf_refused n at → ⊥
not_refused h = apart cc

no_move : (t : ToldShelf) → NoEvent t → (place : ℕ) → shelf_reached place t ≡ place
no_move (shelf_event e next) n place = absurd (n e next refl)
no_move shelf_end n place = refl
no_move (shelf_refused k at) n place = refl

zero_given : (t : ToldShelf) → NoEvent t → shelf_given t ≡ zero_shelf
zero_given (shelf_event e next) n = absurd (n e next refl)
zero_given shelf_end n = refl
zero_given (shelf_refused k at) n = refl

-- the reader stands still
still : {before : Reader} (r : ReadOf ShelfEvent) {after : Reader} → TakesShelf before r after → NoEvent (tells_shelf r) → after ≡ before
still {before} r t n = t.leaves ∙ ap (λ (place : ℕ). record { trace = before.trace; place = place }) (ap (shelf_reached before.place) (sym t.says) ∙ no_move (tells_shelf r) n before.place)

pub fault_stays : FaultStays
fault_stays before r after n at t e =
    let none : NoEvent (tells_shelf r) = λ f next h. not_refused (sym h ∙ e) in
    record {
      first = (fault_at_first before.trace.now before.place n at (sym t.says ∙ e)).first;
      zeros = zero_given (tells_shelf r) none;
      stays = still r t none;
    }

again : {before after : Reader} (r : ReadOf ShelfEvent) (rs : List (ReadOf ShelfEvent)) → ReadsShelf before.trace.now before.place r → NoEvent (tells_shelf r) → ShelfCalls before rs after
    → (rs ≡ replicate (length rs) r) × (after ≡ before)
again r [] e n uncalled = (refl, refl)
again {before} {after} r (q ∷ rs) e n (called t c) =
    let same : q ≡ r = determined.event_at before.trace.now before.place q r t.says e in
    let more = again r rs e n (subst (λ (m : Reader). ShelfCalls m rs after) (still q t (rw same n)) c) in
    (ap₂ (λ (x : ReadOf ShelfEvent) (l : List (ReadOf ShelfEvent)). x ∷ l) same more.0, more.1)

pub stays_put : StaysPut
stays_put before after r rs (called t c) n =
    let a = again r rs t.says n (subst (λ (m : Reader). ShelfCalls m rs after) (still r t n) c) in
    record { same = a.0; zeros = zero_given (tells_shelf r) n; stays = a.1 }

-- ---- events

first_from :
    (rs : List (ReadOf ShelfEvent)) {start after : Reader} {es : List ShelfEvent} {last : ℕ}
    → ShelfPasses start.trace.now start.place es last → ShelfCalls start rs after → length rs ≤ length es
    → FirstGiven start.trace.now start.place es last rs after
first_from [] p uncalled h = record { events = refl; passed = here; others = p }
first_from (r ∷ rs) here (called t c) h = absurd (omega arith)
first_from (r ∷ rs) {start} {after} (on {e = e} {next} {es} a p) (called t c) h =
    let there : ◌≡◌ {A = Reader} _ (record { trace = start.trace; place = next }) = rw a at t.leaves in
    let more = first_from rs p (subst (λ (m : Reader). ShelfCalls m rs after) there c) (omega arith) in
    record {
      events = ap₂ (λ (x : ShelfEvent) (l : List ShelfEvent). x ∷ l) (ap shelf_given (t.says ∙ a)) more.events;
      passed = on a more.passed;
      others = more.others;
    }

pub first_events : FirstEvents
first_events trace start after es last rs new p c h = first_from rs p (subst (λ (m : Reader). ShelfCalls m rs after) new c) h
