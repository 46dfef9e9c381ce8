-- The Opens that wait at a port, oldest first, lent as numbers: six for each Open in use, and behind them zeros.
use Rattle.std.specs.Prelude.{ℕ, zero, suc, ◌-◌, ◌*◌, Bool, ◌&&◌, List, [], ◌∷◌, ◌++◌, eqb, leb, ltb}
use Rattle.std.specs.Prelude.{length, get_or, take, drop, replicate}
use Rattle.std.specs.List.{flat_map, list_all}
use Rattle.std.proofs.lemmas.List.Edits.{sets}
use Rattle.table.specs.Choice.{pick}
use Rattle.event.specs.Table.{open_known}
use Rattle.event.specs.declared.Open.{Open}

-- ---- limits

-- at most this many Opens wait
abbrev pub most_waiting : ℕ
most_waiting = 32

-- an Open is this many numbers
abbrev pub numbers_each : ℕ
numbers_each = 6

-- so many numbers are lent, however many Opens wait
abbrev pub lent_length : ℕ
lent_length = most_waiting * numbers_each

-- ---- Opens as numbers

-- the numbers of an Open, in the order of its fields
abbrev pub numbers_of : Open → List ℕ
numbers_of o = o.destination ∷ o.protocol ∷ o.rate ∷ o.tag ∷ o.blockedCount ∷ o.wait ∷ []

-- those of Opens one after the other
abbrev pub in_numbers : List Open → List ℕ
in_numbers os = flat_map numbers_of os

-- Opens as they are lent: what is not in use is zero
unfoldable pub lent_as : List Open → List ℕ
lent_as os = in_numbers os ++ replicate (lent_length - length (in_numbers os)) 0

-- ---- numbers as Opens

-- the Open of the first numbers; one that is missing is zero
unfoldable pub open_from : List ℕ → Open
open_from ns =
    record {
      destination = get_or ns 0 0;
      protocol = get_or ns 1 0;
      rate = get_or ns 2 0;
      tag = get_or ns 3 0;
      blockedCount = get_or ns 4 0;
      wait = get_or ns 5 0;
    }

-- the Opens in front, at most so many, up to the first that is not known
unfoldable pub held_in : (most : ℕ) → List ℕ → List Open
held_in zero ns = []
held_in (suc most) ns = pick (open_known (open_from ns)) (open_from ns ∷ held_in most (drop numbers_each ns)) []

-- the Opens that wait, oldest first
unfoldable pub queue_in : List ℕ → List Open
queue_in ns = held_in most_waiting ns

-- all these are zero
abbrev pub all_zero : List ℕ → Bool
all_zero ns = list_all (λ n. eqb n 0) ns

-- the numbers are as many as are lent, and those behind the Opens that wait are zero
unfoldable pub good_lent : List ℕ → Bool
good_lent ns = eqb (length ns) lent_length && all_zero (drop (numbers_each * length (queue_in ns)) ns)

-- ---- moves

-- one Open more behind those that wait, where it has room
unfoldable pub joined : List ℕ → (waiting : ℕ) → Open → List ℕ
joined ns waiting o =
    pick (ltb waiting most_waiting && eqb (length ns) lent_length) (sets ns (numbers_each * waiting) (numbers_of o)) ns

-- the oldest of those that wait is gone and the others move up, where there is one
unfoldable pub advanced : List ℕ → (waiting : ℕ) → List ℕ
advanced ns waiting =
    pick (leb 1 waiting && leb waiting most_waiting && eqb (length ns) lent_length)
    (take (numbers_each * (waiting - 1)) (drop numbers_each ns) ++ replicate numbers_each 0
    ++ drop (numbers_each * waiting) ns)
    ns
