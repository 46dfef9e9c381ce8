-- For every k a sequence that waits until its last due tick: each AIP comes when the timer has one tick left.
use Prim.Native.Nat.{ℕ, zero, suc, ◌+◌, ◌-◌, ◌*◌, ◌≤◌, ◌<◌}
use mathlib.Core.Bool.{true, false}
use mathlib.Core.List.{List, [], ◌∷◌, ◌++◌, append_assoc, append-nil}
use mathlib.Core.Path.{◌≡◌, refl, sym, ap, subst, ◌∙◌}
use native.Mathlib.Nat.{zero-add, add-zero, zero-mul, suc-mul}
use native.Mathlib.Omega.{arith}
use borrow.Author.Tests.{lt-leb, le-leb}
use lib.ListN.{replicate, replicate-append-replicate}
use Rattle.table.specs.Choice.{pick}
use Rattle.table.specs.Flags.{off}
use Rattle.event.specs.Names.{tick, aip_received}
use Rattle.event.specs.Table.{open_of, open_known, known_of, arguments_known, argument_range}
use Rattle.event.specs.declared.Event.{Event}
use Rattle.event.specs.declared.Open.{Open}
use Rattle.phy.specs.Names.{P2, answer_open_timeout, full_timer}
use Rattle.phy.specs.Shapes.{◌and◌, fresh_phy, with_wait, requesting, given_up, quiet, reports}
use Rattle.phy.specs.State.{valid_of, valid_request, valid_part, valid_inbound}
use Rattle.phy.specs.Moves.{on_aip, to_idle, on_tx_open, open_by_link}
use Rattle.phy.specs.Ticks.{longer, aged, tick_requesting, tick_breaking, on_tick_aged, on_tick}
use Rattle.phy.specs.Step.{move_of, step_of}
use Rattle.phy.specs.declared.Waited.{Waited}
use Rattle.phy.specs.declared.Settings.{Settings}
use Rattle.phy.specs.declared.Phy.{Phy}
use Rattle.phy.specs.declared.Stepped.{Stepped}
use Rattle.phy_laws.specs.Waiting.{waits}
use Rattle.phy_laws.proofs.OneStep.{timed, longer_known, longer_counts}
use Rattle.ledger.specs.Log.{entry, log, after, answered, many, ticked, heard_aip}
use Rattle.ledger.specs.Demand.{plain, open_to_five, rounds, long_wait, WaitsLong, Tight}

-- ---- a passage from a phy to a phy over events: its ticks and AIPs, and no answer

record Passage (p q : Phy) (es : List Event) (t a : ℕ) : Type 0 where
  leads : after step_of p es ≡ q
  ticks : many ticked (log step_of p es) ≡ t
  aips : many heard_aip (log step_of p es) ≡ a
  silent : many answered (log step_of p es) ≡ 0

-- one event more in front, which answers nothing
in_front : {p q : Phy} {es : List Event} {t a : ℕ} (r : Phy) (e : Event) (s u : ℕ)
    → (step_of r e).next ≡ p → t + pick (ticked (entry step_of r e)) 1 0 ≡ s → a + pick (heard_aip (entry step_of r e)) 1 0 ≡ u → answered (entry step_of r e) ≡ false
    → Passage p q es t a → Passage r q (e ∷ es) s u
in_front {p} {q} {es} {t} {a} r e s u n x y z g =
    let g' : Passage (step_of r e).next q es t a = subst (λ (k : Phy). Passage k q es t a) (sym n) g in
    record {
      leads = g'.leads;
      ticks = omega (arith, x, g'.ticks);
      aips = omega (arith, y, g'.aips);
      silent = rw z (omega (arith, g'.silent));
    }

-- a tick that answers nothing
ticks_on : {p q : Phy} {es : List Event} {t a : ℕ} (r : Phy) (s sent : ℕ) → t + 1 ≡ s → step_of r (plain tick) ≡ reports p 0 sent → Passage p q es t a → Passage r q (plain tick ∷ es) s a
ticks_on {a = a} r s sent n e g = in_front r (plain tick) s a (ap (λ (x : Stepped). x.next) e) (rw e n) (add-zero a) (rw e) g

-- ---- a request that waits, with its part of a millisecond

abbrev Asked : Type 0
Asked = Open × ℕ

abbrev waited_by : Asked → Waited
waited_by a = a.0.wait and a.1

-- a tick later
abbrev grows : Asked → Asked
grows a = (with_wait a.0 (longer (waited_by a)).wait, (longer (waited_by a)).part)

abbrev Known : Asked → Type 0
Known a = (open_known a.0 ≡ true) × (valid_part P2 a.0.wait a.1 ≡ true)

grows_known : (a : Asked) → Known a → Known (grows a)
grows_known a k = (longer_known a.0 a.1 k.0, longer_counts (waited_by a) k.1)

-- ---- n ticks at once, for any kind of phy that a tick takes one off

module _ (S : ℕ → Asked → Phy) (g : Asked → Asked) (keeps : (o : Asked) → Known o → Known (g o)) (law : (t : ℕ) (o : Asked) → 1 < t → t ≤ 1000 → Known o → step_of (S t o) (plain tick) ≡ quiet (S (t - 1) (g o))) where
  ages : ℕ → Asked → Asked
  ages zero o = o
  ages (suc n) o = ages n (g o)

  ages_keeps : (n : ℕ) (o : Asked) → Known o → Known (ages n o)
  unfolding ages
  ages_keeps zero o k = k
  ages_keeps (suc n) o k = ages_keeps n (g o) (keeps o k)

  down : (n m : ℕ) (o : Asked) → n + suc m ≤ 1000 → Known o → (q : Phy) (es : List Event) (t a : ℕ) → Passage (S (suc m) (ages n o)) q es t a → Passage (S (n + suc m) o) q (replicate n (plain tick) ++ es) (n + t) a
  unfolding ages
  down zero m o h k q es t a p = rw (zero-add (suc m), zero-add t) p
  down (suc n) m o h k q es t a p =
      let r : suc n + suc m - 1 ≡ n + suc m = omega arith in
      ticks_on (S (suc n + suc m) o) (suc n + t) 0 (omega arith)
      (law (suc n + suc m) o (omega arith) h k ∙ ap (λ (j : ℕ). quiet (S j (g o))) r)
      (down n m (g o) (omega arith) (keeps o k) q es t a p)

-- ---- the two kinds: a request in L1, and one given up in L5

abbrev none : Settings
none = record { accept = off }

abbrev asking : ℕ → Asked → Phy
asking t o = requesting none 1 2 t o.0 o.1

abbrev failing : ℕ → Asked → Phy
failing t o = given_up none 5 t o.0 answer_open_timeout

running : (t : ℕ) → 1 ≤ t → t ≤ 1000 → timed t ≡ true
running t a b = rw (le-leb 1 t a, le-leb t full_timer b)

asking_valid : (t : ℕ) (o : Asked) → timed t ≡ true → Known o → valid_of (asking t o) ≡ true
unfolding valid_of valid_request valid_inbound
asking_valid t o a b = rw (a, b.0, b.1)

failing_valid : (t : ℕ) (o : Asked) → timed t ≡ true → Known o → valid_of (failing t o) ≡ true
unfolding valid_of valid_request valid_inbound
failing_valid t o a b = rw (a, b.0)

asking_ticks : (t : ℕ) (o : Asked) → 1 < t → t ≤ 1000 → Known o → step_of (asking t o) (plain tick) ≡ quiet (asking (t - 1) (grows o))
unfolding step_of move_of on_tick on_tick_aged aged tick_requesting known_of arguments_known argument_range
asking_ticks t o a b k = rw (asking_valid t o (running t (omega arith) b) k, lt-leb t 1 a)

failing_ticks : (t : ℕ) (o : Asked) → 1 < t → t ≤ 1000 → Known o → step_of (failing t o) (plain tick) ≡ quiet (failing (t - 1) o)
unfolding step_of move_of on_tick on_tick_aged aged tick_breaking known_of arguments_known argument_range
failing_ticks t o a b k = rw (failing_valid t o (running t (omega arith) b) k, lt-leb t 1 a)

-- the last tick of L1, and an AIP just before it
gives_up : (o : Asked) → Known o → step_of (asking 1 o) (plain tick) ≡ reports (failing 1000 (grows o)) 0 5
unfolding step_of move_of on_tick on_tick_aged aged tick_requesting known_of arguments_known argument_range
gives_up o k = rw (asking_valid 1 o refl k)

anew : (o : Asked) → Known o → step_of (asking 1 o) (plain aip_received) ≡ quiet (asking 1000 o)
unfolding step_of move_of on_aip known_of arguments_known argument_range
anew o k = rw (asking_valid 1 o refl k)

-- the last tick of L5
answers_last : (o : Asked) → Known o → answered (entry step_of (failing 1 o) (plain tick)) ≡ true
unfolding step_of move_of on_tick on_tick_aged aged tick_breaking to_idle known_of arguments_known argument_range
answers_last o k = rw (failing_valid 1 o refl k)

-- the Open to destination 5, accepted by a fresh phy
abbrev five : Asked
five = (open_of open_to_five, 0)

five_known : Known five
unfolding open_known arguments_known argument_range
five_known = (refl, refl)

opens_five : step_of fresh_phy open_to_five ≡ reports (asking 1000 five) 0 1
unfolding step_of valid_of valid_request valid_inbound move_of on_tx_open open_by_link known_of arguments_known argument_range
opens_five = refl

opens : (q : Phy) (es : List Event) (t a : ℕ) → Passage (asking 1000 five) q es t a → Passage fresh_phy q (open_to_five ∷ es) t a
opens q es t a p = in_front fresh_phy open_to_five t a (ap (λ (x : Stepped). x.next) opens_five) (add-zero t) (add-zero a) (rw opens_five) p

-- ---- rounds, and the last ticks, for n with n + 1 ≡ 1000

module _ (n : ℕ) (full : n + 1 ≡ 1000) where
  after_n : Asked → Asked
  after_n o = ages asking grows grows_known asking_ticks n o

  after_n_known : (o : Asked) → Known o → Known (after_n o)
  unfolding after_n
  after_n_known o k = ages_keeps asking grows grows_known asking_ticks n o k

  -- n ticks in L1, to the timer's last
  n_asking : (o : Asked) → Known o → (q : Phy) (es : List Event) (t a : ℕ) → Passage (asking 1 (after_n o)) q es t a → Passage (asking 1000 o) q (replicate n (plain tick) ++ es) (n + t) a
  unfolding after_n
  n_asking o k q es t a p =
      subst (λ (j : ℕ). Passage (asking j o) q (replicate n (plain tick) ++ es) (n + t) a) full
      (down asking grows grows_known asking_ticks n 0 o (omega arith) k q es t a p)

  after_rounds : ℕ → Asked → Asked
  after_rounds zero o = o
  after_rounds (suc k) o = after_rounds k (after_n o)

  after_rounds_known : (k : ℕ) (o : Asked) → Known o → Known (after_rounds k o)
  unfolding after_rounds
  after_rounds_known zero o h = h
  after_rounds_known (suc k) o h = after_rounds_known k (after_n o) (after_n_known o h)

  in_rounds : (k : ℕ) (o : Asked) → Known o → (q : Phy) (es : List Event) (t a : ℕ) → Passage (asking 1000 (after_rounds k o)) q es t a → Passage (asking 1000 o) q (rounds n k ++ es) (k * n + t) (k + a)
  unfolding after_rounds
  in_rounds zero o h q es t a p = rw (zero-mul n, zero-add t, zero-add a) p
  in_rounds (suc k) o h q es t a p =
      let i = in_rounds k (after_n o) (after_n_known o h) q es t a p in
      let e = anew (after_n o) (after_n_known o h) in
      let j = in_front (asking 1 (after_n o)) (plain aip_received) (k * n + t) (suc k + a) (ap (λ (x : Stepped). x.next) e) (add-zero (k * n + t)) (rw e (omega arith)) (rw e) i in
      rw (append_assoc (replicate n (plain tick)) (plain aip_received ∷ rounds n k) es)
      (subst (λ (s : ℕ). Passage (asking 1000 o) q (replicate n (plain tick) ++ (plain aip_received ∷ (rounds n k ++ es))) s (suc k + a)) (simp suc-mul (omega arith))
      (n_asking o h q (plain aip_received ∷ (rounds n k ++ es)) (k * n + t) (suc k + a) j))

  -- the request in L5 after its last ticks
  after_last : Asked → Asked
  after_last o = ages failing (λ x. x) (λ _ k. k) failing_ticks n (grows (after_n o))

  after_last_known : (o : Asked) → Known o → Known (after_last o)
  unfolding after_last
  after_last_known o k = ages_keeps failing (λ x. x) (λ _ h. h) failing_ticks n (grows (after_n o)) (grows_known (after_n o) (after_n_known o k))

  -- n ticks, the one that gives the request up, and n more
  last_ticks : (o : Asked) → Known o → Passage (asking 1000 o) (failing 1 (after_last o)) (replicate n (plain tick) ++ (plain tick ∷ replicate n (plain tick))) (n + (n + 1)) 0
  unfolding after_last
  last_ticks o k =
      let u = grows (after_n o) in
      let h = grows_known (after_n o) (after_n_known o k) in
      let here : Passage (failing 1 (after_last o)) (failing 1 (after_last o)) [] 0 0 = record { leads = refl; ticks = refl; aips = refl; silent = refl } in
      let d = down failing (λ x. x) (λ _ j. j) failing_ticks n 0 u (omega arith) h (failing 1 (after_last o)) [] 0 0 here in
      let f : Passage (failing 1000 u) (failing 1 (after_last o)) (replicate n (plain tick)) n 0 =
      subst (λ (j : ℕ). Passage (failing j u) (failing 1 (after_last o)) (replicate n (plain tick)) n 0) full
      (rw (append-nil (replicate n (plain tick)), add-zero n) at d) in
      n_asking o k (failing 1 (after_last o)) (plain tick ∷ replicate n (plain tick)) (n + 1) 0
      (ticks_on (asking 1 (after_n o)) (n + 1) 5 refl (gives_up (after_n o) (after_n_known o k)) f)

  -- one list of ticks
  ticks_split : (m : ℕ) → m ≡ n + (1 + n) → replicate n (plain tick) ++ (plain tick ∷ replicate n (plain tick)) ≡ replicate m (plain tick)
  ticks_split m e =
      ap (λ (es : List Event). replicate n (plain tick) ++ es) (replicate-append-replicate 1 n (plain tick))
      ∙ replicate-append-replicate n (1 + n) (plain tick) ∙ ap (λ (j : ℕ). replicate j (plain tick)) (sym e)

  waits_long : (m k : ℕ) → m ≡ n + (1 + n) → WaitsLong (long_wait n m k) k
  waits_long m k e =
      let o = after_rounds k five in
      let h = after_rounds_known k five five_known in
      let l : Passage (asking 1000 o) (failing 1 (after_last o)) (replicate m (plain tick)) (n + (n + 1)) 0 =
      subst (λ (es : List Event). Passage (asking 1000 o) (failing 1 (after_last o)) es (n + (n + 1)) 0) (ticks_split m e) (last_ticks o h) in
      let p = opens (failing 1 (after_last o)) (rounds n k ++ replicate m (plain tick)) (k * n + (n + (n + 1))) (k + 0) (in_rounds k five five_known (failing 1 (after_last o)) (replicate m (plain tick)) (n + (n + 1)) 0 l) in
      let k999 : k * n ≡ k * 999 = ap (λ (j : ℕ). k * j) (omega arith) in
      record {
        waits_still = ap (λ (q : Phy). waits q.port) p.leads;
        none_answered = p.silent;
        aips = p.aips ∙ add-zero k;
        ticks = omega (arith, p.ticks);
        then_answered = subst (λ (q : Phy). answered (entry step_of q (plain tick)) ≡ true) (sym p.leads) (answers_last (after_last o) (after_last_known o h));
      }

pub tight : Tight
tight k = waits_long 999 refl 1999 k refl
