-- What is told of a step: its reports, and of its hand-outs the first, by the definition.
use mathlib.Core.Path.{refl, ap}
use Rattle.port.specs.Lent.{handed_to, handedSent}
use Rattle.port.specs.Laws.{TellsHandOuts}

pub tells_hand_outs : TellsHandOuts
tells_hand_outs r =
    record {
      reports = refl;
      none = λ q. (ap handed_to q, ap handedSent q);
      one = λ h q. (ap handed_to q, ap handedSent q);
    }
