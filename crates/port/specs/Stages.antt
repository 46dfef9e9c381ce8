-- How the code takes an event: it carries where the port stands, and an event concerns one record at most. What a step
-- is stands in Step alone; here is what the code's own functions promise each other.
use Rattle.std.specs.Prelude.{ℕ, ◌+◌, ◌-◌, ◌^◌, Bool, true, false, ◌&&◌, ◌||◌, List, eqb, ltb, length}
use Rattle.std.specs.List.{fold}
use Rattle.std.specs.Int.Bits.{bit_or, bit_xor}
use Rattle.std.specs.Int.Count.{ones, count_trailing_zeros}
use Rattle.table.specs.Choice.{pick}
use Rattle.table.specs.Refusals.{bad_state, bad_event, queue_full, no_such_phy}
use Rattle.event.specs.Names.{tx_open}
use Rattle.event.specs.Table.{known_in_trace, open_of}
use Rattle.event.specs.declared.Event.{Event}
use Rattle.bay.specs.State as bay
use Rattle.bay.specs.Step.{move_of}
use Rattle.bay.specs.declared.Bay.{Bay}
use Rattle.bay.specs.declared.Stepped.{Stepped as BayStepped}
use Rattle.queue.specs.Lent.{most_waiting, open_from, queue_in, good_lent, joined, advanced}
use Rattle.port.specs.Names.{most_phys, the_port}
use Rattle.port.specs.Flags.{mask_of}
use Rattle.port.specs.State.{Port, is_free, free_of}
use Rattle.port.specs.Step.{reports_of, only_refusal, open_event, is_ports}
use Rattle.port.specs.Lent.{tells_in}
use Rattle.port.specs.declared.Reports.{Reports}
use Rattle.port.specs.declared.Scan.{Scan}
use Rattle.port.specs.declared.Standing.{Standing}
use Rattle.port.specs.declared.Taken.{Taken}

-- ---- a survey of the row

-- before the first record
abbrev pub begun : Scan
begun = record { count = 0; free = 0; valid = true }

-- one record more: its bit is set where it is free; past the most of them the row is not valid
unfoldable pub noted_of : Scan → Bay → Scan
noted_of s b =
    pick (ltb s.count most_phys)
    (record {
      count = s.count + 1;
      free = pick (is_free b) (bit_or s.free (2 ^ s.count)) s.free;
      valid = s.valid && bay.valid_of b;
    })
    (record { count = s.count; free = s.free; valid = false })

-- all records of a row, one after the other
unfoldable pub scanned : Scan → List Bay → Scan
scanned s bs = fold noted_of s bs

-- ---- where a port stands

-- these three
abbrev pub standing : (count free waiting : ℕ) → Standing
standing count free waiting = record { count = count; free = free; waiting = waiting }

-- where a port stands: how many phys, which are free, how many Opens wait
abbrev pub standing_of : Port → Standing
standing_of p = standing (length p.bays) (mask_of (free_of p.bays)) (length p.queue)

-- a phy of the mask is free
abbrev pub some_free : (free : ℕ) → Bool
some_free free = ltb 0 (ones free)

-- the lowest of them
abbrev pub lowest_in : (free : ℕ) → ℕ
lowest_in free = count_trailing_zeros 64 free

-- the one record that an event concerns: to the port, that of the lowest free phy
unfoldable pub concerned : (free number : ℕ) → ℕ
concerned free number = pick (is_ports number) (lowest_in free) number

-- the mask once a phy was free or was not, and now is or is not
unfoldable pub free_after : (free number : ℕ) → (was is : Bool) → ℕ
free_after free number true true = free
free_after free number true false = bit_xor free (2 ^ number)
free_after free number false true = bit_xor free (2 ^ number)
free_after free number false false = free

-- ---- an event

-- what becomes of the record and of the port's standing, with what is reported; and of the queue
pub record Course : Type 0 where
  pub taken : Taken
  pub queue : List ℕ

-- nothing is handed out
abbrev pub none_handed : Bay → Standing → Reports → Taken
none_handed b s reports = record { bay = b; standing = s; stepped = tells_in reports the_port 0 }

-- refused, all is as it was
abbrev pub keeps : Standing → Bay → (refusal : ℕ) → Taken
keeps s b n = none_handed b s (only_refusal n)

abbrev pub keeps_all : Standing → Bay → List ℕ → (refusal : ℕ) → Course
keeps_all s b queue n = record { taken = keeps s b n; queue = queue }

-- the phy with a number, the lowest that is free, made this of an Open, and so many wait then
abbrev pub receives : Standing → (number : ℕ) → Bay → Reports → (waiting : ℕ) → BayStepped → Taken
receives s number b reports waiting r =
    record {
      bay = r.next;
      standing = standing s.count (free_after s.free number (is_free b) (is_free r.next)) waiting;
      stepped = tells_in reports (lowest_in s.free) r.sent.code;
    }

-- after an event of the phy with a number: where an Open waits and a phy is free, the oldest goes there
unfoldable pub hand_on : Standing → (number : ℕ) → Bay → List ℕ → Reports → Course
hand_on s number b queue reports =
    pick (ltb 0 s.waiting && some_free s.free)
    (record {
      taken = receives s number b reports (s.waiting - 1) (move_of b (open_event (open_from queue)));
      queue = advanced queue s.waiting;
    })
    (record { taken = none_handed b s reports; queue = queue })

-- what that phy made of its event
unfoldable pub on_moved : Standing → (number : ℕ) → Bay → List ℕ → BayStepped → Course
on_moved s number b queue r =
    pick (eqb r.refusal 0)
    (hand_on (standing s.count (free_after s.free number (is_free b) (is_free r.next)) s.waiting) number
    r.next queue (reports_of r))
    (keeps_all s b queue r.refusal)

-- to the port: a Tx Open goes to a free phy at once, or joins the queue
unfoldable pub on_port : Standing → Bay → List ℕ → Event → Course
on_port s b queue e =
    pick (ltb s.waiting most_waiting)
    (pick (some_free s.free)
    (record { taken = receives s (lowest_in s.free) b (only_refusal 0) s.waiting (move_of b e); queue = queue })
    (record {
      taken = none_handed b (standing s.count s.free (s.waiting + 1)) (only_refusal 0);
      queue = joined queue s.waiting (open_of e);
    }))
    (keeps_all s b queue queue_full)

-- an event that is known, of a port that is valid
unfoldable pub taken_of : Standing → Bay → List ℕ → (number : ℕ) → Event → Course
taken_of s b queue number e =
    pick (is_ports number) (pick (eqb e.code tx_open) (on_port s b queue e) (keeps_all s b queue bad_event))
    (pick (ltb number s.count && ltb number most_phys) (on_moved s number b queue (move_of b e))
    (keeps_all s b queue no_such_phy))

-- what was surveyed and lent makes a valid port
abbrev pub sound_scan : Scan → List ℕ → Bool
sound_scan scan queue =
    scan.valid && ltb 0 scan.count && good_lent queue
    && (eqb (length (queue_in queue)) 0 || eqb (ones scan.free) 0)

-- where it stands then
abbrev pub standing_in : Scan → List ℕ → Standing
standing_in scan queue = standing scan.count scan.free (length (queue_in queue))

-- any event, after a survey
unfoldable pub plan_of : Scan → Bay → List ℕ → (number : ℕ) → Event → Course
plan_of scan b queue number e =
    pick (sound_scan scan queue)
    (pick (known_in_trace e) (taken_of (standing_in scan queue) b queue number e)
    (keeps_all (standing_in scan queue) b queue bad_event))
    (keeps_all (standing_in scan queue) b queue bad_state)

abbrev pub target_of : Scan → (number : ℕ) → ℕ
target_of scan number = concerned scan.free number

abbrev pub planned_of : Scan → Bay → List ℕ → (number : ℕ) → Event → Taken
planned_of scan b queue number e = (plan_of scan b queue number e).taken

abbrev pub queue_after : Scan → Bay → List ℕ → (number : ℕ) → Event → List ℕ
queue_after scan b queue number e = (plan_of scan b queue number e).queue
