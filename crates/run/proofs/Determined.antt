-- Each way to stop says one thing, so a contract that gives what is said gives the result.
use mathlib.Core.Path.{◌≡◌, refl, ap}
use Rattle.table.specs.declared.Refusal.{Refusal}
use Rattle.table.specs.Results.{TellsOnce}
use Rattle.table.proofs.Results.{leads_back, refusal_of, refusal_back, by_equation, with_lent}
use Rattle.run.specs.Running.{Halt, at_end, at_budget, at_fault, refused, Told, tells_stop, tells}
use Rattle.run.specs.Laws.{Determined}
use Rattle.run.specs.declared.Stop.{Stop}
use Rattle.run.specs.declared.Stop.TheVariants.{End, Budget, Fault, Refused}

-- what is said tells which way to stop said it
stop : Halt → Stop
stop at_end = End
stop at_budget = Budget
stop (at_fault n place) = Fault (record { refusal = refusal_of n; place = place })
stop (refused n) = Refused (refusal_of n)

stops : (r : Stop) → stop (tells_stop r) ≡ r
unfolding stop
stops End = refl
stops Budget = refl
stops (Fault fault) = ap (λ (refusal : Refusal). Fault (record { refusal = refusal; place = fault.place })) (refusal_back fault.refusal)
stops (Refused refusal) = ap Refused (refusal_back refusal)

pub stop_once : TellsOnce tells_stop
stop_once = leads_back stop stops

same_ran : TellsOnce tells
same_ran r q e =
    let s : r.stop ≡ q.stop = stop_once r.stop q.stop (ap (λ (t : Told). t.halt) e) in
    λ i. record { next = (e i).state; count = (e i).count; stop = s i }

pub determined : Determined
determined =
    record {
      stop_once = stop_once;
      ran_once = same_ran;
      byte_for = λ refusal answer. by_equation _;
      run = λ p s budget before. with_lent same_ran _ _;
    }
