-- How a request's wait grows by ticks in P2: in one closed form, which n single ticks give.
use Rattle.std.specs.Prelude.{ℕ, zero, suc, ◌+◌, ◌-◌, ◌*◌, ◌/◌, ◌%◌, ◌≤◌, ◌<◌, min, true, [], ◌∷◌, map, ◌≡◌, ltb}
use Rattle.table.specs.Choice.{pick}
use Rattle.event.specs.Names.{most_wait}
use Rattle.phy.specs.Names.{P2, bend}
use Rattle.phy.specs.Shapes.{◌and◌}
use Rattle.phy.specs.State.{valid_part}
use Rattle.phy.specs.Ticks.{longer}
use Rattle.phy.specs.declared.Waited.{Waited}

-- the microseconds, or ticks, of a millisecond
abbrev pub millisecond : ℕ
millisecond = 1000

-- the microseconds that a value of the wait means: itself below 32,768, and then 32,768 and the milliseconds above it
unfoldable pub meant : ℕ → ℕ
meant v = pick (ltb v bend) v (bend + (v - bend) * millisecond)

-- those that a wait means with its part of a millisecond
abbrev pub microseconds : Waited → ℕ
microseconds w = meant w.wait + w.part

-- the wait and its part that mean so many microseconds
unfoldable pub in_field : (microseconds : ℕ) → Waited
in_field m = pick (ltb m bend) (m and 0) ((bend + (m - bend) / millisecond) and ((m - bend) % millisecond))

-- after n ticks more in P2: n microseconds more, and no more than 65,535 means
unfoldable pub waited_for : Waited → (n : ℕ) → Waited
waited_for w n = in_field (min (meant most_wait) (microseconds w + n))

-- ---- what holds of it (proofs/Wait)

-- a tick at the ends of both slopes, and what they mean, in the customer's own numbers
pub record AtTheEnds : Type 0 where
  pub ticks :
      map longer
      (32766 and 0 ∷ 32767 and 0 ∷ 32768 and 0 ∷ 32768 and 998 ∷ 32768 and 999 ∷ 65534 and 998 ∷ 65534 and 999
      ∷ 65535 and 0 ∷ [])
      ≡ 32767 and 0 ∷ 32768 and 0 ∷ 32768 and 1 ∷ 32768 and 999 ∷ 32769 and 0 ∷ 65534 and 999 ∷ 65535 and 0
      ∷ 65535 and 0 ∷ []
  pub means : map meant (32767 ∷ 32768 ∷ 32769 ∷ 65535 ∷ []) ≡ 32767 ∷ 32768 ∷ 33768 ∷ 32799768 ∷ []

-- a wait and its part as a phy in P2 may have them
pub record InP2 (w : Waited) : Type 0 where
  pub wait : w.wait ≤ most_wait
  pub part : valid_part P2 w.wait w.part ≡ true

-- so many single ticks
abbrev pub ticks : ℕ → Waited → Waited
ticks zero w = w
ticks (suc n) w = longer (ticks n w)

-- n single ticks give the closed form
abbrev pub TicksGive : Type 0
TicksGive = (w : Waited) (n : ℕ) → InP2 w → ticks n w ≡ waited_for w n

-- to wait m ticks and then n is to wait m + n
abbrev pub WaitsAdd : Type 0
WaitsAdd = (w : Waited) (m n : ℕ) → waited_for (waited_for w m) n ≡ waited_for w (m + n)

-- a tick adds exactly one microsecond to what is meant, until the wait is 65,535
abbrev pub OneMore : Type 0
OneMore = (w : Waited) → InP2 w → w.wait < most_wait → microseconds (longer w) ≡ microseconds w + 1

-- a wait after n ticks: it never means more than the Open's did and n ticks; until it is 65,535 it is short of that by
-- less than a millisecond, and below 32,768 it is exact
pub record Truthful (opened now n : ℕ) : Type 0 where
  pub never_more : meant now ≤ meant opened + n
  pub hardly_less : now < most_wait → meant opened + n < meant now + millisecond
  pub exact : now < bend → meant now ≡ meant opened + n
  pub no_further : now ≤ most_wait

-- so it is with every wait that an Open begins with
abbrev pub TrueAfter : Type 0
TrueAfter = (opened n : ℕ) → Truthful opened (waited_for (opened and 0) n).wait n
