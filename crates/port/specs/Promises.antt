-- What each function promises, cited by its `ensures` and, of the public ones, by `Determined` in Laws.
use Rattle.std.specs.Prelude.{ℕ, List, ◌≡◌}
use Rattle.table.specs.Results.{Leaves}
use Rattle.event.specs.declared.Event.{Event}
use Rattle.bay.specs.declared.Bay.{Bay}
use Rattle.bay.specs.declared.Stepped.{Stepped as BayStepped}
use Rattle.port.specs.Step.{reports_of}
use Rattle.port.specs.Lent.{lent_step, numbers_after, tells}
use Rattle.port.specs.Stages.{begun, scanned, sound_scan, standing_in, concerned, taken_of, planned_of, queue_after}
use Rattle.port.specs.declared.Judged.{Judged}
use Rattle.port.specs.declared.Reports.{Reports}
use Rattle.port.specs.declared.Scan.{Scan}
use Rattle.port.specs.declared.Standing.{Standing}
use Rattle.port.specs.declared.Stepped.{Stepped}
use Rattle.port.specs.declared.Taken.{Taken}

-- `from` of what a bay's step gives: what it reports
abbrev pub MakesReports : BayStepped → Reports → Type 0
MakesReports r reports = reports ≡ reports_of r

-- `begun`, before the first record of a row
abbrev pub Begins : Scan → Type 0
Begins r = r ≡ begun

-- `survey` of a row, from what was gathered before
abbrev pub Surveys : List Bay → Scan → Scan → Type 0
Surveys row from r = r ≡ scanned from row

-- `judge` of what was surveyed and of a queue
abbrev pub Judges : Scan → List ℕ → Judged → Type 0
Judges scan queue r = r ≡ record { valid = sound_scan scan queue; standing = standing_in scan queue }

-- `concerned`: the record of an event
abbrev pub Concerns : (free number : ℕ) → ℕ → Type 0
Concerns free number r = r ≡ concerned free number

-- `take`: an event that is known, of a port that was judged valid, and its queue
abbrev pub Takes : Standing → Bay → (before : List ℕ) → (number : ℕ) → Event → Taken → (after : List ℕ) → Type 0
Takes s b before number e r after =
    Leaves r (taken_of s b before number e).taken after (taken_of s b before number e).queue

-- `planned`: any event after a survey, and its queue
abbrev pub Plans : Scan → Bay → (before : List ℕ) → (number : ℕ) → Event → Taken → (after : List ℕ) → Type 0
Plans scan b before number e r after =
    (r ≡ planned_of scan b before number e) × (after ≡ queue_after scan b before number e)

-- `step` of a row and a queue as they are lent, which it leaves as `left` and `after`
pub record Steps (row : List Bay) (queue : List ℕ) (number : ℕ) (e : Event) (r : Stepped) (left : List Bay)
    (after : List ℕ) : Type 0
  where
    pub says : r ≡ tells (lent_step row queue number e)
    pub row_left : left ≡ (lent_step row queue number e).next.bays
    pub queue_left : after ≡ numbers_after queue (lent_step row queue number e)
