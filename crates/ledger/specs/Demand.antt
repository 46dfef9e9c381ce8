-- Demand 3, over every list of events from a fresh phy, refused events and unknown codes among them.
use Rattle.std.specs.Prelude.{ℕ, zero, suc, ◌+◌, ◌≤◌, ◌<◌, true, false, List, [], ◌∷◌, ◌++◌, ◌≡◌, replicate}
use Rattle.table.specs.Choice.{pick}
use Rattle.event.specs.Names.{tx_open, aip_received, tick, SSP, slow_rate}
use Rattle.event.specs.Table.{event_of, open_of}
use Rattle.event.specs.declared.Event.{Event}
use Rattle.event.specs.declared.Open.{Open}
use Rattle.phy.specs.Shapes.{fresh_phy}
use Rattle.phy.specs.Step.{step_of}
use Rattle.phy.specs.declared.Phy.{Phy}
use Rattle.phy_laws.specs.Waiting.{waits, is_answer}
use Rattle.ledger.specs.Log.{Entry, entry, log, after, accepted, answered, many, ticked, ticked_in_p2, heard_aip}
use Rattle.ledger.specs.Ledger.{due, Waiting, Ledger, free, waiting, broken, grown, books}

-- our own phy, from fresh
abbrev pub log_of : List Event → List Entry
log_of es = log step_of fresh_phy es

abbrev pub phy_after : List Event → Phy
phy_after es = after step_of fresh_phy es

abbrev pub books_of : List Event → Ledger
books_of es = books free (log_of es)

-- 1 where a request waits
abbrev pub one_if_waiting : Phy → ℕ
one_if_waiting p = pick (waits p.port) 1 0

-- the customer's sentence, for a list of events
pub record Lawful (es : List Event) : Type 0 where
  -- no accepted Open is answered twice, each answer carries its own Open's arguments, nothing else is answered
  pub books_hold : books_of es ≡ broken → ⊥
  -- the books wait exactly while the port does, and for the Open that it holds
  pub held :
      waits (phy_after es).port ≡ true → (w : Waiting) × (books_of es ≡ waiting w) × ((phy_after es).request ≡ grown w)
  pub at_rest : waits (phy_after es).port ≡ false → books_of es ≡ free
  -- accepted Opens equal answers plus the one, if any, still waiting
  pub balance : many accepted (log_of es) ≡ many answered (log_of es) + one_if_waiting (phy_after es)
  -- while one waits, fewer ticks have come than are due
  pub bound : (w : Waiting) → books_of es ≡ waiting w → w.ticks < due w.aips

abbrev pub Demand3 : Type 0
Demand3 = (es : List Event) → Lawful es

-- in fs comes the first answer to o: no Open is accepted before it, and it has o's arguments with the wait grown
pub record AnsweredWithin (p : Phy) (o : Open) (fs : List Event) : Type 0 where
  pub before : List Event
  pub last : Event
  pub rest : List Event
  pub whole : fs ≡ before ++ (last ∷ rest)
  pub none_answered : many answered (log step_of p before) ≡ 0
  pub none_accepted : many accepted (log step_of p before) ≡ 0
  pub code : is_answer (step_of (after step_of p before) last).answer ≡ true
  pub carries :
      (step_of (after step_of p before) last).answered
      ≡ grown
      (record {
        open_as_accepted = o;
        ticks_in_P2 =
            many ticked_in_p2 (log step_of p before)
            + pick (ticked_in_p2 (entry step_of (after step_of p before) last)) 1 0;
        ticks = 0;
        aips = 0;
      })

-- once as many ticks have come since an acceptance as are due for the AIPs heard since, the answer has been given
abbrev pub AnsweredBy : Type 0
AnsweredBy =
    (es : List Event) (e : Event) (fs : List Event) → accepted (entry step_of (phy_after es) e) ≡ true
    → due (many heard_aip (log step_of (step_of (phy_after es) e).next fs))
    ≤ many ticked (log step_of (step_of (phy_after es) e).next fs)
    → AnsweredWithin (step_of (phy_after es) e).next (open_of e) fs

-- ---- for every k some sequence needs that many ticks

-- an event with no argument
abbrev pub plain : (code : ℕ) → Event
plain code = event_of code []

-- a Tx Open to a destination, its wait 0
abbrev pub open_to : ℕ → Event
open_to destination = event_of tx_open (destination ∷ SSP ∷ slow_rate ∷ [])

-- an Open to destination 5
abbrev pub open_to_five : Event
open_to_five = open_to 5

-- an AIP k times, each after n ticks
abbrev pub rounds : (n k : ℕ) → List Event
rounds n zero = []
rounds n (suc k) = replicate n (plain tick) ++ (plain aip_received ∷ rounds n k)

-- an Open, k rounds of n ticks and an AIP, and m ticks
abbrev pub long_wait : (n m k : ℕ) → List Event
long_wait n m k = open_to_five ∷ (rounds n k ++ replicate m (plain tick))

-- it still waits after one tick less than is due, and the next tick answers it
pub record WaitsLong (es : List Event) (k : ℕ) : Type 0 where
  pub waits_still : waits (phy_after es).port ≡ true
  pub none_answered : many answered (log_of es) ≡ 0
  pub aips : many heard_aip (log_of es) ≡ k
  pub ticks : many ticked (log_of es) + 1 ≡ due k
  pub then_answered : answered (entry step_of (phy_after es) (plain tick)) ≡ true

abbrev pub Tight : Type 0
Tight = (k : ℕ) → WaitsLong (long_wait 999 1999 k) k
