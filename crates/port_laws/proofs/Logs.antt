-- A bay on two lists of events, one behind the other: where they lead, and what its log gathers.
use mathlib.Core.List.{List, [], ◌∷◌, ◌++◌, append_assoc}
use mathlib.Core.Path.{◌≡◌, refl, sym, ap, ◌∙◌}
use Rattle.event.specs.declared.Event.{Event}
use Rattle.bay.specs.Step.{step_of}
use Rattle.bay.specs.Log.{Entry, log, after}
use Rattle.bay.specs.declared.Bay.{Bay}
use Rattle.bay_laws.specs.Spelled.{gathered}

pub after_append : (b : Bay) (es fs : List Event) → after b (es ++ fs) ≡ after (after b es) fs
after_append b [] fs = refl
after_append b (e ∷ es) fs = after_append (step_of b e).next es fs

pub gathered_log : {A : Type 0} (given : Entry → List A) (b : Bay) (es fs : List Event)
    → gathered given (log b (es ++ fs)) ≡ gathered given (log b es) ++ gathered given (log (after b es) fs)
gathered_log given b [] fs = refl
gathered_log {A} given b (e ∷ es) fs =
    let x : Entry = record { event = e; result = step_of b e } in
    let next = (step_of b e).next in
    ap (λ (l : List A). given x ++ l) (gathered_log given next es fs)
    ∙ sym (append_assoc (given x) (gathered given (log next es)) (gathered given (log (after next es) fs)))
