-- What each public function promises, cited by its `ensures` and by `Determined` in Laws.
use Rattle.std.specs.Prelude.{ℕ, List, ◌≡◌, replicate}
use Rattle.event.specs.declared.Event.{Event}
use Rattle.bay.specs.State.{fresh_bay}
use Rattle.bay.specs.declared.Bay.{Bay}
use Rattle.port.specs.Promises.{Steps}
use Rattle.port.specs.declared.Stepped.{Stepped}
use Rattle.held.specs.Rows.{most_held, front, behind}
use Rattle.held.specs.declared.Row.{Row}

-- `fresh`: every bay is fresh
abbrev pub FreshRow : Row → Type 0
FreshRow r = r ≡ record { bays = replicate most_held fresh_bay }

-- `step` of any row and any count, which leaves its bays as `left`: the port in front steps, what is behind it stays
pub record StepsRow (bays : List Bay) (count : ℕ) (before : List ℕ) (number : ℕ) (e : Event) (r : Stepped)
    (left : List Bay) (after : List ℕ) : Type 0
  where
    pub steps : Steps (front count bays) before number e r (front count left) after
    pub others : behind count left ≡ behind count bays
