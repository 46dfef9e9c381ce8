-- What the program prints of an event that it read, as numbers after the kind of the case.
use Rattle.std.specs.Prelude.{ℕ, List, [], ◌∷◌}
use Rattle.replies.specs.declared.EventReply.{EventReply}

-- what reading an event gave: how, the refusal, the place reached, the code and the arguments
abbrev pub reply_numbers : EventReply → List ℕ
reply_numbers r =
    r.how
    ∷ r.refusal
    ∷ r.next
    ∷ r.event.code
    ∷ r.event.first
    ∷ r.event.second
    ∷ r.event.third
    ∷ r.event.fourth
    ∷ r.event.fifth
    ∷ r.event.sixth
    ∷ []
