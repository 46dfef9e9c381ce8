-- `casefile::input::Input::take_array` meets its contract: the array that it fills has so many places.
use Rattle.std.proofs.Common.{ℕ}
use lib.ListN.{length-replicate}
use Rattle.casefile.proofs.Numbers.{array_of}
use Rattle.casefile.proofs.input.Input.take_array.Goals as goal

pub returns : goal.returns
returns g c =
    let taken = c.take_many.ensures in
    record { found = array_of g.row.N (length-replicate {A = ℕ} g.row.N 0) taken.found; same_file = taken.same_file }
