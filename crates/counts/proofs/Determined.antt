-- Each contract gives what its result tells, and what it leaves, as one value of a definition, and a result is known by what it tells.
use Prim.Native.Nat.{ℕ}
use mathlib.Core.Path.{◌≡◌, refl, ap}
use lib.Dec.{eqb}
use Rattle.std.specs.Prelude.{Result, Ok, Err}
use Rattle.table.specs.Choice.{pick}
use Rattle.table.specs.Refusals.{number_of}
use Rattle.table.specs.Results.{TellsOnce}
use Rattle.table.specs.declared.Refusal.{Refusal}
use Rattle.table.specs.declared.Refusal.TheVariants.{BadState, BadEvent, Busy, NothingPending, NotConnected, WrongProtocol, Cut, Overlong, TooLarge, NoRoom, QueueFull, NoSuchPhy}
use Rattle.table.proofs.Results.{leads_back, refusal_of, refusal_back, by_telling, by_equation, with_lent}
use Rattle.counts.specs.Counters.{Count, refusal_told, tells}
use Rattle.counts.specs.Laws.{Determined}

-- the result with a value or with the refusal of a number, where 0 is none
back : {A : Type 0} → A → ℕ → Result A Refusal
back a n = pick (eqb n 0) (Ok a) (Err (refusal_of n))

-- a refusal's number leads back to it
refused_back : {A : Type 0} (a : A) (refusal : Refusal) → back a (number_of refusal) ≡ Err refusal
unfolding back
refused_back a BadState = ap Err (refusal_back BadState)
refused_back a BadEvent = ap Err (refusal_back BadEvent)
refused_back a Busy = ap Err (refusal_back Busy)
refused_back a NothingPending = ap Err (refusal_back NothingPending)
refused_back a NotConnected = ap Err (refusal_back NotConnected)
refused_back a WrongProtocol = ap Err (refusal_back WrongProtocol)
refused_back a Cut = ap Err (refusal_back Cut)
refused_back a Overlong = ap Err (refusal_back Overlong)
refused_back a TooLarge = ap Err (refusal_back TooLarge)
refused_back a NoRoom = ap Err (refusal_back NoRoom)
refused_back a QueueFull = ap Err (refusal_back QueueFull)
refused_back a NoSuchPhy = ap Err (refusal_back NoSuchPhy)

told_back : (r : Result (Unit {0}) Refusal) → back tt (refusal_told r) ≡ r
unfolding back
told_back (Ok u) = refl
told_back (Err refusal) = refused_back tt refusal

asked_back : (r : Result ℕ Refusal) → back (tells r).count (tells r).refusal ≡ r
unfolding back
asked_back (Ok count) = refl
asked_back (Err refusal) = refused_back 0 refusal

refusal_once : TellsOnce refusal_told
refusal_once = leads_back (back tt) told_back

asked_once : TellsOnce tells
asked_once = leads_back (λ (c : Count). back c.count c.refusal) asked_back

pub determined : Determined
determined =
    record {
      refusal = λ bay answer. by_telling refusal_once _;
      cleared = by_equation _;
      raised = λ t bay answer. by_equation _;
      asked = λ t bay answer. by_telling asked_once _;
      clear = λ before. with_lent refusal_once _ _;
      raise = λ before bay answer. with_lent refusal_once _ _;
      ask = λ ns bay answer. by_telling asked_once _;
    }
